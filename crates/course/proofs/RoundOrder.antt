-- Rounding keeps the order of fractions, of either sign; so a sum of floats grows with each part. Assumes nothing.
use Rattle.std.proofs.Common.{◌≡◌, ℕ, ◌+◌, ◌-◌, ◌*◌, ◌<◌, ◌≤◌, Bool, true, false, cond, not, T, ltb, sym, refl, ap, ◌∙◌, ap₂, inl, inr, zero-le, mul_comm, add-mul, eq-zero-or-pos, mul-pos, zero-mul, arith, ltb→lt, nltb→le}
use native.Mathlib.Nat.{mul-mul-mul_comm}
use lib.Ieee.{Float, nan, inf, fin, binary64, up, down, neg, le, round, sum, add}
use lib.Ieee.Order.{round_mono}
use lib.Ieee.Scale.{finite}
use Rattle.course.specs.Rules.Arithmetic.{◌⊕◌}
use Rattle.course.specs.Steps.Numbers.{Bounded}
use Rattle.course.proofs.Bounds.{plain, plain-round, neg-round, round-bounded}
use Rattle.course.proofs.FloatOrder.{says, above, under, over, over-pos, Ordered, part, part', scaled, is-so, under-of-le}

-- ---- rounding keeps the order, for both signs
pub neg-le : (x y : Float) → T (le x y) → T (le (neg y) (neg x))
unfolding le neg
neg-le nan y h = absurd h
neg-le (inf s) nan h = absurd h
neg-le (inf true) (inf true) h = tt
neg-le (inf true) (inf false) h = tt
neg-le (inf false) (inf true) h = absurd h
neg-le (inf false) (inf false) h = tt
neg-le (inf true) (fin t n d) h = tt
neg-le (inf false) (fin t n d) h = absurd h
neg-le (fin s m e) nan h = absurd h
neg-le (fin s m e) (inf true) h = absurd h
neg-le (fin s m e) (inf false) h = tt
neg-le (fin s m e) (fin t n d) h = is-so (not t) (n * up d * down e) (not s) (m * up e * down d) (turned s t (says s (m * up e * down d) t (n * up d * down e) h))
  where
    turned : (s t : Bool) → cond s 0 (m * up e * down d) + cond t (n * up d * down e) 0 ≤ cond t 0 (n * up d * down e) + cond s (m * up e * down d) 0
        → cond (not t) 0 (n * up d * down e) + cond (not s) (m * up e * down d) 0 ≤ cond (not s) 0 (m * up e * down d) + cond (not t) (n * up d * down e) 0
    turned false false h = omega arith
    turned false true h = omega arith
    turned true false h = omega arith
    turned true true h = omega arith

-- a float with no plus sign is at most one with no minus sign
minus_plus : (x y : Float) → T (plain x) → T (plain y) → T (le (neg x) y)
unfolding le neg
minus_plus nan y p q = absurd p
minus_plus (inf true) y p q = absurd p
minus_plus (inf false) nan p q = absurd q
minus_plus (inf false) (inf true) p q = absurd q
minus_plus (inf false) (inf false) p q = tt
minus_plus (inf false) (fin t n d) p q = tt
minus_plus (fin true m e) y p q = absurd p
minus_plus (fin false m e) nan p q = absurd q
minus_plus (fin false m e) (inf true) p q = absurd q
minus_plus (fin false m e) (inf false) p q = tt
minus_plus (fin false m e) (fin true n d) p q = absurd q
minus_plus (fin false m e) (fin false n d) p q = is-so true (m * up e * down d) false (n * up d * down e) zero-le

-- two zeros, of any signs
zeros : (x y : Float) → Bounded x 0 → Bounded y 0 → T (le x y)
unfolding le
zeros nan y p q = absurd p
zeros (inf s) y p q = absurd p
zeros (fin s m e) nan p q = absurd q
zeros (fin s m e) (inf t) p q = absurd q
zeros (fin s m e) (fin t n d) p q = is-so s (m * up e * down d) t (n * up d * down e) (both s t (none (m * up e) (down e) (down d) p) (none (n * up d) (down d) (down e) q))
  where
    none : (a d e : ℕ) → a ≤ 0 * d → a * e ≡ 0
    none a d e h = let z : a ≡ 0 = omega arith in ap (λ (k : ℕ). k * e) z ∙ zero-mul e

    both : (s t : Bool) {a b : ℕ} → a ≡ 0 → b ≡ 0 → cond s 0 a + cond t b 0 ≤ cond t 0 b + cond s a 0
    both false false p q = omega arith
    both false true p q = omega arith
    both true false p q = omega arith
    both true true p q = omega arith

no-product : (a d : ℕ) → 0 < d → a * d ≡ 0 → a ≡ 0
no-product a d D h = elim (eq-zero-or-pos a) [ inl z ↦ z | inr p ↦ let g : 0 < a * d = mul-pos p D in absurd (omega arith) ]

rounded-zero : (s : Bool) (a d e : ℕ) → 0 < d → 0 < e → a * e ≡ 0 → Bounded (round binary64 s a d) 0
rounded-zero s a d e D E h = round-bounded s a d 0 D zero-le (let z : a ≡ 0 = no-product a e E h in omega arith)

pub round-le : (s : Bool) (a d : ℕ) (t : Bool) (b e : ℕ) → 0 < d → 0 < e → Ordered (cond s 0 a) (cond s a 0) d (cond t 0 b) (cond t b 0) e → T (le (round binary64 s a d) (round binary64 t b e))
round-le false a d false b e D E h = round_mono binary64 a d b e D E (omega arith)
round-le false a d true b e D E h =
    let x : a * e ≡ 0 = omega arith in
    let y : b * d ≡ 0 = omega arith in
    zeros (round binary64 false a d) (round binary64 true b e) (rounded-zero false a d e D E x) (rounded-zero true b e d E D y)
round-le true a d false b e D E h = rw (neg-round binary64 a d) (minus_plus (round binary64 false a d) (round binary64 false b e) (plain-round binary64 a d) (plain-round binary64 b e))
round-le true a d true b e D E h =
    rw (neg-round binary64 a d, neg-round binary64 b e) (neg-le (round binary64 false b e) (round binary64 false a d) (round_mono binary64 b e a d E D (omega arith)))

-- ---- sums: a rounded fraction, (p − n) / d
record Rounded (x : Float) (p n d : ℕ) : Type 0 where
  sign : Bool
  size : ℕ
  is : x ≡ round binary64 sign size d
  value : cond sign 0 size + n ≡ p + cond sign size 0

-- the two parts of ±a / d, where that is (p − n) / d, times e
parted : (a b n p e : ℕ) → a + n ≡ p + b → a * e + n * e ≡ p * e + b * e
parted a b n p e h = sym (add-mul a n e) ∙ ap (λ (k : ℕ). k * e) h ∙ add-mul p b e

rounded-le : (x y : Float) (p n d q k e : ℕ) → 0 < d → 0 < e → Rounded x p n d → Rounded y q k e → Ordered p n d q k e → T (le x y)
rounded-le x y p n d q k e D E r s h =
    let a = parted (cond r.sign 0 r.size) (cond r.sign r.size 0) n p e r.value in
    let b = parted (cond s.sign 0 s.size) (cond s.sign s.size 0) k q d s.value in
    rw (r.is, s.is) (round-le r.sign r.size d s.sign s.size e D E (omega arith))

sum-rounded : (s : Bool) (a : ℕ) (t : Bool) (b c : ℕ) → Rounded (sum binary64 s a t b c) (cond s 0 a + cond t 0 b) (cond s a 0 + cond t b 0) c
unfolding sum
sum-rounded false a false b c = record { sign = false; size = a + b; is = refl; value = omega arith }
sum-rounded true a true b c = record { sign = true; size = a + b; is = refl; value = omega arith }
sum-rounded false a true b c = go (ltb a b) (ltb→lt a b) (nltb→le a b)
  where
    go : (x : Bool) → (T x → a < b) → (T (not x) → b ≤ a) → Rounded (cond x (round binary64 true (b - a) c) (round binary64 false (a - b) c)) (a + 0) (0 + b) c
    go true f g = let h : a < b = f tt in record { sign = true; size = b - a; is = refl; value = omega arith }
    go false f g = let h : b ≤ a = g tt in record { sign = false; size = a - b; is = refl; value = omega arith }
sum-rounded true a false b c = go (ltb a b) (ltb b a) (ltb→lt a b) (nltb→le a b) (ltb→lt b a) (nltb→le b a)
  where
    go : (x y : Bool) → (T x → a < b) → (T (not x) → b ≤ a) → (T y → b < a) → (T (not y) → a ≤ b)
        → Rounded (cond x (round binary64 false (b - a) c) (round binary64 y (a - b) c)) (0 + b) (a + 0) c
    go true y f g f' g' = let h : a < b = f tt in record { sign = false; size = b - a; is = refl; value = omega arith }
    go false true f g f' g' = let h : b < a = f' tt in record { sign = true; size = a - b; is = refl; value = omega arith }
    go false false f g f' g' = let h : b ≤ a = g tt in let k : a ≤ b = g' tt in record { sign = false; size = a - b; is = refl; value = omega arith }

add-rounded : (x y : Float) → T (finite x) → T (finite y)
    → Rounded (x ⊕ y) (above x * over y + above y * over x) (under x * over y + under y * over x) (over x * over y)
unfolding add
add-rounded nan y p q = absurd p
add-rounded (inf s) y p q = absurd p
add-rounded (fin s m e) nan p q = absurd q
add-rounded (fin s m e) (inf t) p q = absurd q
add-rounded (fin s m e) (fin t n d) p q =
    rw (← part s (m * up e) (down d), ← part' s (m * up e) (down d), ← part t (n * up d) (down e), ← part' t (n * up d) (down e)) (sum-rounded s (m * up e * down d) t (n * up d * down e) (down e * down d))

-- p/d ⋯ over four denominators
module _ (d e d' e' : ℕ) where
  crossed : (p q : ℕ) → (p * e + q * d) * (d' * e') ≡ p * d' * (e * e') + q * e' * (d * d')
  crossed p q = add-mul (p * e) (q * d) (d' * e') ∙ ap₂ (λ (u v : ℕ). u + v) (mul-mul-mul_comm p e d' e') (ap (λ (z : ℕ). q * d * z) (mul_comm d' e') ∙ mul-mul-mul_comm q d e' d')

  crossed' : (p q : ℕ) → (p * e' + q * d') * (d * e) ≡ p * d * (e * e') + q * e * (d * d')
  crossed' p q =
      add-mul (p * e') (q * d') (d * e)
      ∙ ap₂ (λ (u v : ℕ). u + v) (mul-mul-mul_comm p e' d e ∙ ap (λ (z : ℕ). p * d * z) (mul_comm e' e)) (ap (λ (z : ℕ). q * d' * z) (mul_comm d e) ∙ mul-mul-mul_comm q d' e d ∙ ap (λ (z : ℕ). q * e * z) (mul_comm d' d))

  added : (p n q k p' n' q' k' : ℕ) → Ordered p n d p' n' d' → Ordered q k e q' k' e' → Ordered (p * e + q * d) (n * e + k * d) (d * e) (p' * e' + q' * d') (n' * e' + k' * d') (d' * e')
  added p n q k p' n' q' k' h g =
      let a = scaled (p * d') (n' * d) (p' * d) (n * d') (e * e') h in
      let b = scaled (q * e') (k' * e) (q' * e) (k * e') (d * d') g in
      rw (crossed p q, crossed n k, crossed' p' q', crossed' n' k') (omega arith)

pub add-le : (x y x' y' : Float) → T (finite x) → T (finite y) → T (finite x') → T (finite y') → T (le x x') → T (le y y') → T (le (x ⊕ y) (x' ⊕ y'))
add-le x y x' y' p q p' q' h g =
    rounded-le (x ⊕ y) (x' ⊕ y') _ _ (over x * over y) _ _ (over x' * over y') (mul-pos (over-pos x) (over-pos y)) (mul-pos (over-pos x') (over-pos y'))
    (add-rounded x y p q) (add-rounded x' y' p' q')
    (added (over x) (over y) (over x') (over y') (above x) (under x) (above y) (under y) (above x') (under x') (above y') (under y') (under-of-le x x' p p' h) (under-of-le y y' q q' g))
