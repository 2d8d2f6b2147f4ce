-- Finite floats in order. A finite float is (above − under) / over in whole numbers, and the order of floats is that of these fractions; rounding keeps it. Assumes nothing.
use Rattle.std.proofs.Common.{◌≡◌, ℕ, ◌+◌, ◌*◌, ◌<◌, ◌≤◌, Bool, true, false, cond, not, ◌&&◌, ◌||◌, T, eqb, ltb, ◌⊎◌, sym, refl, inl, inr, zero-le, le_trans, le_of_eq, mul-le-mul_right, add-mul, zero-mul, mul_right_comm, le_of_mul-le-mul_right, arith, lit≤, eqb→eq, ltb→lt, nltb→le, ltb-false}
use lib.Ieee.{Float, nan, inf, fin, up, down, below, level, lt, eq, le}
use lib.Ieee.Fits.{down_pos, and_l, and_r, and_i, eq→eqb}
use lib.Ieee.Scale.{finite}

-- ---- ±a / c in two parts, one of them 0
abbrev pub above : Float → ℕ
above nan = 0
above (inf s) = 0
above (fin s m e) = cond s 0 (m * up e)

abbrev pub under : Float → ℕ
under nan = 0
under (inf s) = 0
under (fin s m e) = cond s (m * up e) 0

abbrev pub over : Float → ℕ
over nan = 1
over (inf s) = 1
over (fin s m e) = down e

pub over-pos : (x : Float) → 0 < over x
over-pos nan = lit≤ tt
over-pos (inf s) = lit≤ tt
over-pos (fin s m e) = down_pos e

-- (p − n) / d ≤ (q − k) / e
abbrev pub Ordered : (p n d q k e : ℕ) → Type 0
Ordered p n d q k e = p * e + k * d ≤ q * d + n * e

abbrev Under : Float → Float → Type 0
Under x y = Ordered (above x) (under x) (over x) (above y) (under y) (over y)

-- ---- the tests on ±a and ±b
or_split : (p q : Bool) → T (p || q) → T p ⊎ T q
or_split true q t = inl tt
or_split false q t = inr t

or_l : (p q : Bool) → T p → T (p || q)
or_l true q t = tt
or_l false q t = absurd t

or_r : (p q : Bool) → T q → T (p || q)
or_r true q t = tt
or_r false q t = t

eq_of : (a b : ℕ) (q : Bool) → T (eqb a b && q) → a ≡ b
eq_of a b q t = eqb→eq a b (and_l (eqb a b) q t)

pub says : (s : Bool) (a : ℕ) (t : Bool) (b : ℕ) → T (below s a t b || level s a t b) → cond s 0 a + cond t b 0 ≤ cond t 0 b + cond s a 0
says false a false b h = elim (or_split (ltb a b) (eqb a b && true) h) [ inl p ↦ let l : a < b = ltb→lt a b p in omega arith | inr q ↦ let l : a ≡ b = eq_of a b true q in omega arith ]
says false a true b h = let l : a ≡ b = eq_of a b (eqb a 0) h in let z : a ≡ 0 = eqb→eq a 0 (and_r (eqb a b) (eqb a 0) h) in omega arith
says true a false b h = omega arith
says true a true b h = elim (or_split (ltb b a) (eqb a b && true) h) [ inl p ↦ let l : b < a = ltb→lt b a p in omega arith | inr q ↦ let l : a ≡ b = eq_of a b true q in omega arith ]

strictly : (s : Bool) (a : ℕ) (t : Bool) (b : ℕ) → T (below s a t b) → cond s 0 a + cond t b 0 < cond t 0 b + cond s a 0
strictly false a false b h = let l : a < b = ltb→lt a b h in omega arith
strictly false a true b h = absurd h
strictly true a false b h = let l : 0 < a + b = ltb→lt 0 (a + b) h in omega arith
strictly true a true b h = let l : b < a = ltb→lt b a h in omega arith

same-or-less : (a b : ℕ) → a ≤ b → T (ltb a b) ⊎ (a ≡ b)
same-or-less a b h = go (ltb a b) (nltb→le a b)
  where
    go : (x : Bool) → (T (not x) → b ≤ a) → T x ⊎ (a ≡ b)
    go true f = inl tt
    go false f = let g : b ≤ a = f tt in inr (omega arith)

level-i : (a b : ℕ) (p : Bool) → a ≡ b → T p → T (eqb a b && p)
level-i a b p e t = and_i (eqb a b) p (eq→eqb e) t

pub is-so : (s : Bool) (a : ℕ) (t : Bool) (b : ℕ) → cond s 0 a + cond t b 0 ≤ cond t 0 b + cond s a 0 → T (below s a t b || level s a t b)
is-so false a false b h = elim (same-or-less a b (omega arith)) [ inl p ↦ or_l (ltb a b) (eqb a b && true) p | inr q ↦ or_r (ltb a b) (eqb a b && true) (level-i a b true q tt) ]
is-so false a true b h = let z : a ≡ 0 = omega arith in level-i a b (eqb a 0) (omega arith) (eq→eqb z)
is-so true a false b h = elim (same-or-less 0 (a + b) zero-le) [
  | inl p ↦ or_l (ltb 0 (a + b)) (eqb a b && eqb a 0) p
  | inr q ↦ let z : a ≡ 0 = omega arith in or_r (ltb 0 (a + b)) (eqb a b && eqb a 0) (level-i a b (eqb a 0) (omega arith) (eq→eqb z))
]
is-so true a true b h = elim (same-or-less b a (omega arith)) [ inl p ↦ or_l (ltb b a) (eqb a b && true) p | inr q ↦ or_r (ltb b a) (eqb a b && true) (level-i a b true (sym q) tt) ]

-- ---- floats in order, and their fractions
-- the part that is not 0, times d
pub part : (s : Bool) (a d : ℕ) → cond s 0 (a * d) ≡ cond s 0 a * d
part false a d = refl
part true a d = sym (zero-mul d)

pub part' : (s : Bool) (a d : ℕ) → cond s (a * d) 0 ≡ cond s a 0 * d
part' false a d = sym (zero-mul d)
part' true a d = refl

pub under-of-le : (x y : Float) → T (finite x) → T (finite y) → T (le x y) → Under x y
unfolding le
under-of-le nan y p q h = absurd p
under-of-le (inf s) y p q h = absurd p
under-of-le (fin s m e) nan p q h = absurd q
under-of-le (fin s m e) (inf t) p q h = absurd q
under-of-le (fin s m e) (fin t n d) p q h =
    rw (← part s (m * up e) (down d), ← part' t (n * up d) (down e), ← part t (n * up d) (down e), ← part' s (m * up e) (down d)) (says s (m * up e * down d) t (n * up d * down e) h)

le-of-under : (x y : Float) → T (finite x) → T (finite y) → Under x y → T (le x y)
unfolding le
le-of-under nan y p q h = absurd p
le-of-under (inf s) y p q h = absurd p
le-of-under (fin s m e) nan p q h = absurd q
le-of-under (fin s m e) (inf t) p q h = absurd q
le-of-under (fin s m e) (fin t n d) p q h =
    is-so s (m * up e * down d) t (n * up d * down e) (rw (part s (m * up e) (down d), part' t (n * up d) (down e), part t (n * up d) (down e), part' s (m * up e) (down d)) h)

strictly-under : (x y : Float) → T (finite x) → T (finite y) → T (lt x y) → above x * over y + under y * over x < above y * over x + under x * over y
unfolding lt
strictly-under nan y p q h = absurd p
strictly-under (inf s) y p q h = absurd p
strictly-under (fin s m e) nan p q h = absurd q
strictly-under (fin s m e) (inf t) p q h = absurd q
strictly-under (fin s m e) (fin t n d) p q h =
    rw (← part s (m * up e) (down d), ← part' t (n * up d) (down e), ← part t (n * up d) (down e), ← part' s (m * up e) (down d)) (strictly s (m * up e * down d) t (n * up d * down e) h)

-- ---- the order's laws
pub le_of_lt : (x y : Float) → T (lt x y) → T (le x y)
unfolding le
le_of_lt x y h = or_l (lt x y) (eq x y) h

-- x ≤ y rules out y < x
pub not-lt : (x y : Float) → T (finite x) → T (finite y) → T (le x y) → lt y x ≡ false
not-lt x y p q h = go (lt y x) (λ (t : T (lt y x)). strictly-under y x q p t)
  where
    go : (b : Bool) → (T b → above y * over x + under x * over y < above x * over y + under y * over x) → b ≡ false
    go false f = refl
    go true f = let g = f tt in let k = under-of-le x y p q h in absurd (omega arith)

-- and of two numbers one is at most the other
not-strictly : (s : Bool) (a : ℕ) (t : Bool) (b : ℕ) → below t b s a ≡ false → cond s 0 a + cond t b 0 ≤ cond t 0 b + cond s a 0
not-strictly false a false b h = let l : a ≤ b = ltb-false b a h in omega arith
not-strictly false a true b h = let l : b + a ≤ 0 = ltb-false 0 (b + a) h in omega arith
not-strictly true a false b h = omega arith
not-strictly true a true b h = let l : b ≤ a = ltb-false a b h in omega arith

pub le_of_not_lt : (x y : Float) → T (finite x) → T (finite y) → lt y x ≡ false → T (le x y)
unfolding lt le
le_of_not_lt nan y p q h = absurd p
le_of_not_lt (inf s) y p q h = absurd p
le_of_not_lt (fin s m e) nan p q h = absurd q
le_of_not_lt (fin s m e) (inf t) p q h = absurd q
le_of_not_lt (fin s m e) (fin t n d) p q h = is-so s (m * up e * down d) t (n * up d * down e) (not-strictly s (m * up e * down d) t (n * up d * down e) h)

pub scaled : (a b c d k : ℕ) → a + b ≤ c + d → a * k + b * k ≤ c * k + d * k
scaled a b c d k h = le_trans (le_of_eq (sym (add-mul a b k))) (le_trans (mul-le-mul_right k h) (le_of_eq (add-mul c d k)))

ordered-trans : (p n d q k e r l f : ℕ) → 0 < e → Ordered p n d q k e → Ordered q k e r l f → Ordered p n d r l f
ordered-trans p n d q k e r l f E h g =
    let a = scaled (p * e) (k * d) (q * d) (n * e) f h in
    let b = scaled (q * f) (l * e) (r * e) (k * f) d g in
    let c : p * f * e + l * d * e ≤ r * d * e + n * f * e = omega (arith, a, b, mul_right_comm p e f, mul_right_comm k d f, mul_right_comm q d f, mul_right_comm n e f, mul_right_comm l e d, mul_right_comm r e d) in
    le_of_mul-le-mul_right (le_trans (le_of_eq (add-mul (p * f) (l * d) e)) (le_trans c (le_of_eq (sym (add-mul (r * d) (n * f) e))))) E

fin-chain : (x y z : Float) → T (finite x) → T (finite y) → T (finite z) → T (le x y) → T (le y z) → T (le x z)
fin-chain x y z p q r h g =
    le-of-under x z p r (ordered-trans (above x) (under x) (over x) (above y) (under y) (over y) (above z) (under z) (over z) (over-pos y) (under-of-le x y p q h) (under-of-le y z q r g))

no-le-nan : (x : Float) → T (le x nan) → ⊥
unfolding le
no-le-nan nan h = h
no-le-nan (inf s) h = h
no-le-nan (fin s m e) h = h

pub le-chain : (x y z : Float) → T (le x y) → T (le y z) → T (le x z)
unfolding le
le-chain nan y z h i = absurd h
le-chain (inf true) y nan h i = absurd (no-le-nan y i)
le-chain (inf true) y (inf true) h i = tt
le-chain (inf true) y (inf false) h i = tt
le-chain (inf true) y (fin u k g) h i = tt
le-chain (inf false) nan z h i = absurd h
le-chain (inf false) (inf true) z h i = absurd h
le-chain (inf false) (inf false) z h i = i
le-chain (inf false) (fin t n d) z h i = absurd h
le-chain (fin s m e) nan z h i = absurd h
le-chain (fin s m e) (inf true) z h i = absurd h
le-chain (fin s m e) (inf false) nan h i = absurd i
le-chain (fin s m e) (inf false) (inf true) h i = absurd i
le-chain (fin s m e) (inf false) (inf false) h i = tt
le-chain (fin s m e) (inf false) (fin u k g) h i = absurd i
le-chain (fin s m e) (fin t n d) nan h i = absurd i
le-chain (fin s m e) (fin t n d) (inf true) h i = absurd i
le-chain (fin s m e) (fin t n d) (inf false) h i = tt
le-chain (fin s m e) (fin t n d) (fin u k g) h i = fin-chain (fin s m e) (fin t n d) (fin u k g) tt tt tt h i

-- what stands between two finite numbers is finite
pub finite-between : (l x h : Float) → T (finite l) → T (finite h) → T (le l x) → T (le x h) → T (finite x)
unfolding le
finite-between nan x h p q a b = absurd p
finite-between (inf s) x h p q a b = absurd p
finite-between (fin s m e) x nan p q a b = absurd q
finite-between (fin s m e) x (inf t) p q a b = absurd q
finite-between (fin s m e) nan (fin t n d) p q a b = absurd a
finite-between (fin s m e) (inf true) (fin t n d) p q a b = absurd a
finite-between (fin s m e) (inf false) (fin t n d) p q a b = absurd b
finite-between (fin s m e) (fin u k g) (fin t n d) p q a b = tt
