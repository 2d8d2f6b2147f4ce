-- Bounds on the size of a result: `Bounded x n` is |x| ≤ n, n a whole number. Rounding, a quotient and a sum keep such bounds. Assumes nothing.
use Rattle.std.proofs.Common.{◌≡◌, ℕ, zero, suc, ◌+◌, ◌-◌, ◌*◌, ◌^◌, ◌<◌, ◌≤◌, Bool, true, false, cond, not, ◌&&◌, ◌||◌, T, eqb, ltb, ℤ, sym, refl, ap, ◌∙◌, subst, true≢false, le_trans, le_of_eq, le_of_lt, mul-le-mul_right, mul_assoc, mul_comm, add-mul, mul-le-mul, mul-pos, mul-one, mul_right_comm, le_of_mul-le-mul_right, arith, lit≤, eqb→eq, ltb→lt}
use native.Mathlib.Nat.{mul-mul-mul_comm}
use mathlib.Core.Bool.{beq}
use lib.Ieee.{Float, nan, inf, fin, Format, binary64, prec, low, emax, up, down, round, units, odd, neg, le, add, sum, mul, div, unlike}
use lib.Ieee.Fits.{up_pos, down_pos, and_l, and_r, round_is}
use lib.Ieee.Exact.{HasValue}
use lib.Ieee.Back.{round_whole}
use lib.Ieee.Order.{round_mono}
use Rattle.course.specs.Steps.Numbers.{Bounded}
use Rattle.course.specs.Rules.Numeric.{within}

-- ---- a rounded value has its sign, and rounding does not look at it
neg-odd : (d q k l : ℕ) → odd d true q k l ≡ neg (odd d false q k l)
unfolding odd neg
neg-odd d zero k l = refl
neg-odd d (suc q) k l = refl

neg-cond : (b : Bool) (x y : Float) → neg (cond b x y) ≡ cond b (neg x) (neg y)
neg-cond true x y = refl
neg-cond false x y = refl

neg-units : (f : Format) (q k : ℕ) → units f true q k ≡ neg (units f false q k)
unfolding units neg
neg-units f q k =
    let b = ltb (q * 2 ^ k) (2 ^ (low f + suc (emax f))) in
    ap (λ (x : Float). cond b x (inf true)) (neg-odd (suc (prec f)) q k (low f)) ∙ sym (neg-cond b (odd (suc (prec f)) false q k (low f)) (inf false))

pub neg-round : (f : Format) (a b : ℕ) → round f true a b ≡ neg (round f false a b)
neg-round f a b = round_is f true a b ∙ neg-units f _ _ ∙ ap neg (sym (round_is f false a b))

-- not a NaN, and no minus sign
abbrev pub plain : Float → Bool
plain nan = false
plain (inf s) = not s
plain (fin s m e) = not s

plain-odd : (d q k l : ℕ) → T (plain (odd d false q k l))
unfolding odd
plain-odd d zero k l = tt
plain-odd d (suc q) k l = tt

plain-cond : (b : Bool) (x y : Float) → T (plain x) → T (plain y) → T (plain (cond b x y))
plain-cond true x y p q = p
plain-cond false x y p q = q

plain-units : (f : Format) (q k : ℕ) → T (plain (units f false q k))
unfolding units
plain-units f q k = plain-cond (ltb (q * 2 ^ k) (2 ^ (low f + suc (emax f)))) (odd (suc (prec f)) false q k (low f)) (inf false) (plain-odd (suc (prec f)) q k (low f)) tt

pub plain-round : (f : Format) (a b : ℕ) → T (plain (round f false a b))
plain-round f a b = subst (λ (x : Float). T (plain x)) (sym (round_is f false a b)) (plain-units f _ _)

-- ---- the order of two values of one sign
pub or-le : (a b : ℕ) → T (ltb a b || (eqb a b && true)) → a ≤ b
or-le a b t = go (ltb a b) (eqb a b) (ltb→lt a b) (eqb→eq a b) t
  where
    go : (x y : Bool) → (T x → a < b) → (T y → a ≡ b) → T (x || (y && true)) → a ≤ b
    go true y f g t = le_of_lt (f tt)
    go false true f g t = le_of_eq (g tt)
    go false false f g t = absurd t

pub or-ge : (a b : ℕ) → T (ltb b a || (eqb a b && true)) → b ≤ a
or-ge a b t = go (ltb b a) (eqb a b) (ltb→lt b a) (eqb→eq a b) t
  where
    go : (x y : Bool) → (T x → b < a) → (T y → a ≡ b) → T (x || (y && true)) → b ≤ a
    go true y f g t = le_of_lt (f tt)
    go false true f g t = le_of_eq (sym (g tt))
    go false false f g t = absurd t

-- x / p ≤ y / q and y / q = n give x ≤ n * p
under : (x p y q n : ℕ) → 0 < q → x * q ≤ y * p → y * 1 ≡ n * q → x ≤ n * p
under x p y q n Q h e = le_of_mul-le-mul_right (le_trans h (le_of_eq (ap (λ (z : ℕ). z * p) (sym (mul-one y) ∙ e) ∙ mul_right_comm n q p))) Q

pub bounded-of-le : (x y : Float) (n : ℕ) → T (plain x) → HasValue y false n 1 → T (le x y) → Bounded x n
unfolding le
bounded-of-le nan y n p h t = absurd p
bounded-of-le (inf true) y n p h t = absurd p
bounded-of-le (inf false) nan n p h t = absurd h
bounded-of-le (inf false) (inf s) n p h t = absurd h
bounded-of-le (inf false) (fin s m e) n p h t = absurd t
bounded-of-le (fin true m e) y n p h t = absurd p
bounded-of-le (fin false m e) nan n p h t = absurd h
bounded-of-le (fin false m e) (inf s) n p h t = absurd h
bounded-of-le (fin false m e) (fin true k d) n p h t = absurd (true≢false h.0)
bounded-of-le (fin false m e) (fin false k d) n p h t = under (m * up e) (down e) (k * up d) (down d) n (down_pos d) (or-le _ _ t) h.1

pub bounded-neg : (x : Float) (n : ℕ) → Bounded x n → Bounded (neg x) n
unfolding neg
bounded-neg nan n h = h
bounded-neg (inf s) n h = h
bounded-neg (fin s m e) n h = h

-- from −w to w
pub bounded-of-within : (w x : Float) (n : ℕ) → HasValue w false n 1 → T (within w x) → Bounded x n
unfolding within le neg
bounded-of-within nan x n h t = absurd h
bounded-of-within (inf s) x n h t = absurd h
bounded-of-within (fin true k d) x n h t = absurd (true≢false h.0)
bounded-of-within (fin false k d) nan n h t = absurd t
bounded-of-within (fin false k d) (inf true) n h t = absurd t
bounded-of-within (fin false k d) (inf false) n h t = absurd (and_r (le (fin true k d) (inf false)) (le (inf false) (fin false k d)) t)
bounded-of-within (fin false k d) (fin false m e) n h t =
    under (m * up e) (down e) (k * up d) (down d) n (down_pos d) (or-le (m * up e * down d) (k * up d * down e) (and_r (le (fin true k d) (fin false m e)) (le (fin false m e) (fin false k d)) t)) h.1
bounded-of-within (fin false k d) (fin true m e) n h t =
    under (m * up e) (down e) (k * up d) (down d) n (down_pos d) (or-ge (k * up d * down e) (m * up e * down d) (and_l (le (fin true k d) (fin true m e)) (le (fin true m e) (fin false k d)) t)) h.1

-- ---- rounding a / b ≤ n
plain-bounded : (a b n : ℕ) → 0 < b → n ≤ 2 ^ 53 → a ≤ n * b → Bounded (round binary64 false a b) n
plain-bounded a b n B N h =
    bounded-of-le (round binary64 false a b) (round binary64 false n 1) n (plain-round binary64 a b) (round_whole binary64 false n N)
    (round_mono binary64 a b n 1 B (lit≤ tt) (le_trans (le_of_eq (mul-one a)) h))

pub round-bounded : (s : Bool) (a b n : ℕ) → 0 < b → n ≤ 2 ^ 53 → a ≤ n * b → Bounded (round binary64 s a b) n
round-bounded false a b n B N h = plain-bounded a b n B N h
round-bounded true a b n B N h = subst (λ (x : Float). Bounded x n) (sym (neg-round binary64 a b)) (bounded-neg (round binary64 false a b) n (plain-bounded a b n B N h))

-- ---- a quotient by n · 2 ^ d, and a sum
cross : (x e p d q n : ℕ) → x ≤ p * e → p * d ≤ q * n → x * d ≤ q * (n * e)
cross x e p d q n h k = le_trans (mul-le-mul_right d h) (le_trans (le_of_eq (mul_right_comm p e d)) (le_trans (mul-le-mul_right e k) (le_of_eq (mul_assoc q n e))))

pub div-bounded : (x : Float) (n : ℕ) (d : ℤ) (p q : ℕ) → Bounded x p → 0 < n → p * down d ≤ q * (n * up d) → q ≤ 2 ^ 53 → Bounded (div binary64 x (fin false n d)) q
unfolding div
div-bounded nan n d p q h N k Q = absurd h
div-bounded (inf s) n d p q h N k Q = absurd h
div-bounded (fin s m e) n d p q h N k Q =
    go (eqb n 0) (eqb→eq n 0)
    (round-bounded (unlike s false) (m * up e * down d) (n * up d * down e) q (mul-pos (mul-pos N (up_pos d)) (down_pos e)) Q (cross (m * up e) (down e) p (down d) q (n * up d) h k))
  where
    go : (b : Bool) → (T b → n ≡ 0) → Bounded (round binary64 (unlike s false) (m * up e * down d) (n * up d * down e)) q
        → Bounded (cond b (cond (eqb m 0) nan (inf (unlike s false))) (round binary64 (unlike s false) (m * up e * down d) (n * up d * down e))) q
    go true f r = let z : n ≡ 0 = f tt in absurd (omega arith)
    go false f r = r

both : (a b p q c : ℕ) → a ≤ p * c → b ≤ q * c → a + b ≤ (p + q) * c
both a b p q c h k = subst (λ (z : ℕ). a + b ≤ z) (sym (add-mul p q c)) (omega arith)

less-l : (a b x : ℕ) → a + b ≤ x → a - b ≤ x
less-l a b x h = omega arith

less-r : (a b x : ℕ) → a + b ≤ x → b - a ≤ x
less-r a b x h = omega arith

sum-bounded : (s : Bool) (a : ℕ) (t : Bool) (b c n : ℕ) → 0 < c → n ≤ 2 ^ 53 → a + b ≤ n * c → Bounded (sum binary64 s a t b c) n
unfolding sum
sum-bounded s a t b c n C N h =
    go (beq s t) (ltb a b) (round binary64 s (a + b) c) (round binary64 t (b - a) c) (round binary64 (s && ltb b a) (a - b) c) (round-bounded s (a + b) c n C N h) (round-bounded t (b - a) c n C N (less-r a b (n * c) h)) (round-bounded (s && ltb b a) (a - b) c n C N (less-l a b (n * c) h))
  where
    go : (x y : Bool) (u v w : Float) → Bounded u n → Bounded v n → Bounded w n → Bounded (cond x u (cond y v w)) n
    go true y u v w p q r = p
    go false true u v w p q r = q
    go false false u v w p q r = r

pub add-bounded : (x y : Float) (p q : ℕ) → p + q ≤ 2 ^ 53 → Bounded x p → Bounded y q → Bounded (add binary64 x y) (p + q)
unfolding add
add-bounded nan y p q N h k = absurd h
add-bounded (inf s) y p q N h k = absurd h
add-bounded (fin s m e) nan p q N h k = absurd k
add-bounded (fin s m e) (inf t) p q N h k = absurd k
add-bounded (fin s m e) (fin t n d) p q N h k =
    sum-bounded s (m * up e * down d) t (n * up d * down e) (down e * down d) (p + q) (mul-pos (down_pos e) (down_pos d)) N
    (both (m * up e * down d) (n * up d * down e) p q (down e * down d)
    (le_trans (mul-le-mul_right (down d) h) (le_of_eq (mul_assoc p (down e) (down d))))
    (le_trans (mul-le-mul_right (down e) k) (le_of_eq (mul_assoc q (down d) (down e) ∙ ap (λ (z : ℕ). q * z) (mul_comm (down d) (down e))))))

-- ---- a product
swap4 : (a b p q d e : ℕ) → a ≤ p * e → b ≤ q * d → a * b ≤ p * q * (e * d)
swap4 a b p q d e h k = le_trans (mul-le-mul h k) (le_of_eq (mul-mul-mul_comm p e q d))

pub mul-bounded : (x y : Float) (p q : ℕ) → p * q ≤ 2 ^ 53 → Bounded x p → Bounded y q → Bounded (mul binary64 x y) (p * q)
unfolding mul
mul-bounded nan y p q N h k = absurd h
mul-bounded (inf s) y p q N h k = absurd h
mul-bounded (fin s m e) nan p q N h k = absurd k
mul-bounded (fin s m e) (inf t) p q N h k = absurd k
mul-bounded (fin s m e) (fin t n d) p q N h k =
    round-bounded (unlike s t) (m * up e * (n * up d)) (down e * down d) (p * q) (mul-pos (down_pos e) (down_pos d)) N (swap4 (m * up e) (n * up d) p q (down d) (down e) h k)
