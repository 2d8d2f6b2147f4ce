-- `floor`: what the casts of `whole_below` compute, and that it is the largest whole number not above x. Assumes nothing.
use Rattle.std.proofs.Common.{◌≡◌, ℕ, zero, suc, ◌+◌, ◌-◌, ◌*◌, ◌/◌, ◌%◌, ◌^◌, ◌<◌, ◌≤◌, min, true, false, T, eqb, ltb, ℤ, pos, negsuc, neg_ℤ, sym, refl, ap, ◌∙◌, subst, inl, inr, true≢false, le_trans, lt_of_lt_of_le, lt_of_le_of_lt, suc-mul, div-lt_iff_lt-mul, eq-zero-or-pos, lt_of_mul-lt-mul_right, mul-lt-mul_of_pos_right, le-div_iff_mul-le, mul-one, mul_right_comm, div-mul-le_self, arith, lit≤, eqb→eq, ltb→lt, lt→ltb, ltb-false, ltb-true}
use native.Mathlib.Nat.{lt-div-mul-add}
use lib.Ieee.{Float, nan, inf, fin, binary64, up, down, le, lt, neg, of_int, to_unsigned}
use lib.Ieee.Fits.{down_pos, and_i, and_l, eq→eqb}
use lib.Ieee.Exact.{HasValue}
use lib.Ieee.Order.{le_of_values}
use lib.Ieee.Positive.{first_pos}
use Rattle.course.specs.Rules.Arithmetic.{natural}
use Rattle.course.specs.Steps.Numbers.{Bounded}
use Rattle.course.specs.Rules.Trig.{floor, quarter_of}
use Rattle.course.proofs.BoolLaws.{same_test}
use Rattle.course.proofs.Naturals.{natural-val}
use Rattle.course.proofs.Bounds.{neg-round}

-- ---- quotients of numbers
pub quotient : (c y d : ℕ) → 0 < d → c * d ≤ y → y < c * d + d → y / d ≡ c
quotient c y d D h k =
    let a : c ≤ y / d = (le-div_iff_mul-le D).1 h in
    let b : y / d < suc c = (div-lt_iff_lt-mul D).1 (subst (λ (z : ℕ). y < z) (sym (suc-mul c d)) k) in
    omega arith

-- the whole part as an integer, where it is small
uncut : (x d : ℕ) → 0 < d → x ≤ 4503599627370496 * d → (x / d ≤ 4503599627370496) × (min (x / d) (2 ^ 64 - 1) ≡ x / d)
uncut x d D h =
    let b : x / d < 4503599627370497 = (div-lt_iff_lt-mul D).1 (lt_of_le_of_lt h (mul-lt-mul_of_pos_right (lit≤ tt) D)) in
    (omega arith, omega arith)

up_one : (x d : ℕ) → 0 < d → x / d * d < x → (x + (d - 1)) / d ≡ suc (x / d)
up_one x d D h =
    let e : suc (x / d) * d ≡ x / d * d + d = suc-mul (x / d) d in
    let k : x < x / d * d + d = lt-div-mul-add D in
    quotient (suc (x / d)) (x + (d - 1)) d D (omega arith) (omega arith)

same : (x d : ℕ) → 0 < d → x ≤ x / d * d → (x + (d - 1)) / d ≡ x / d
same x d D h =
    let k : x / d * d ≤ x = div-mul-le_self x d in
    quotient (x / d) (x + (d - 1)) d D (omega arith) (omega arith)

-- ---- n < m · 2 ^ e, over whole numbers
pub lt-value : (x : Float) (n m : ℕ) (e : ℤ) → HasValue x false n 1 → lt x (fin false m e) ≡ ltb (n * down e) (m * up e)
unfolding lt
lt-value nan n m e h = absurd h
lt-value (inf s) n m e h = absurd h
lt-value (fin true k d) n m e h = absurd (true≢false h.0)
lt-value (fin false k d) n m e h =
    let c : k * up d * down e ≡ n * down e * down d = ap (λ (z : ℕ). z * down e) (sym (mul-one (k * up d)) ∙ h.1) ∙ mul_right_comm n (down d) (down e) in
    same_test (ltb (k * up d * down e) (m * up e * down d)) (ltb (n * down e) (m * up e))
    (λ t. lt→ltb _ _ (lt_of_mul-lt-mul_right (down d) (subst (λ (z : ℕ). z < m * up e * down d) c (ltb→lt _ _ t))))
    (λ t. lt→ltb _ _ (subst (λ (z : ℕ). z < m * up e * down d) (sym c) (mul-lt-mul_of_pos_right (ltb→lt _ _ t) (down_pos d))))

-- ---- not below zero
abbrev nought : Float
nought = fin false 0 (pos 0)

pub above_floor : (v : Float) → Bounded v 4503599627370496 → le nought v ≡ true → floor v ≡ pos (to_unsigned 64 v)
unfolding floor to_unsigned le
above_floor nan b h = absurd b
above_floor (inf s) b h = absurd b
above_floor (fin false m e) b h = ap pos (sym (uncut (m * up e) (down e) (down_pos e) b).1)
above_floor (fin true m e) b h =
    let z : 0 * 1 * down e ≡ m * up e * 1 = eqb→eq _ _ (and_l (eqb (0 * 1 * down e) (m * up e * 1)) (eqb (0 * 1 * down e) 0) (subst T (sym h) tt)) in
    ap (λ (n : ℕ). neg_ℤ (pos n)) (quotient 0 (m * up e + (down e - 1)) (down e) (down_pos e) (omega arith) (omega (arith, down_pos e)))

tops : (x d : ℕ) → 0 < d → x ≤ 4503599627370496 * d → x * 1 < 1 * 2 ^ 64 * d
tops x d D h = omega arith

some : (d n : ℕ) → 0 < d → 0 < 1 * 1 * d + n
some d n h = omega arith

fits-plain : (m : ℕ) (e : ℤ) → m * up e ≤ 4503599627370496 * down e → T (lt (fin true 1 (pos 0)) (fin false m e)) × T (lt (fin false m e) (fin false 1 (pos 64)))
unfolding lt
fits-plain m e b = (lt→ltb _ _ (some (down e) (m * up e * 1) (down_pos e)), lt→ltb _ _ (tops (m * up e) (down e) (down_pos e) b))

-- zero with a minus sign is not below zero
no_size : (m : ℕ) (e : ℤ) → le nought (fin true m e) ≡ true → 0 * 1 * down e ≡ m * up e * 1
unfolding le
no_size m e h = eqb→eq _ _ (and_l (eqb (0 * 1 * down e) (m * up e * 1)) (eqb (0 * 1 * down e) 0) (subst T (sym h) tt))

below_all : (x d : ℕ) → 0 < d → 0 * 1 * d ≡ x * 1 → (x * 1 < 1 * 1 * d) × (0 < x * 1 + 1 * 2 ^ 64 * d)
below_all x d D h = (omega arith, omega arith)

pub above-fits : (v : Float) → Bounded v 4503599627370496 → le nought v ≡ true → T (lt (fin true 1 (pos 0)) v) × T (lt v (fin false 1 (pos 64)))
unfolding lt
above-fits nan b h = absurd b
above-fits (inf s) b h = absurd b
above-fits (fin false m e) b h = fits-plain m e b
above-fits (fin true m e) b h = let g = below_all (m * up e) (down e) (down_pos e) (no_size m e h) in (lt→ltb _ _ g.0, lt→ltb _ _ g.1)

-- ---- below zero
nonneg : (m : ℕ) (e : ℤ) → le nought (fin false m e) ≡ false → ⊥
nonneg m e h = subst T h (le_of_values nought (fin false m e) 0 1 (m * up e) (down e) (lit≤ tt) (down_pos e) (refl, refl) (refl, refl) (omega arith))

some_size : (m : ℕ) (e : ℤ) → le nought (fin true m e) ≡ false → 0 < m * up e
unfolding le
some_size m e h = elim (eq-zero-or-pos (m * up e)) [
  | inl z ↦
      let a : 0 * 1 * down e ≡ m * up e * 1 = omega arith in
      let b : 0 * 1 * down e ≡ 0 = omega arith in
      absurd (subst T h (and_i (eqb (0 * 1 * down e) (m * up e * 1)) (eqb (0 * 1 * down e) 0) (eq→eqb a) (eq→eqb b)))
  | inr p ↦ p
]

pub below-fits : (v : Float) → Bounded v 4503599627370496 → le nought v ≡ false → T (lt (fin true 1 (pos 0)) (neg v)) × T (lt (neg v) (fin false 1 (pos 64)))
unfolding neg
below-fits nan b h = absurd b
below-fits (inf s) b h = absurd b
below-fits (fin false m e) b h = absurd (nonneg m e h)
below-fits (fin true m e) b h = fits-plain m e b

pub below-small : (v : Float) → Bounded v 4503599627370496 → le nought v ≡ false → to_unsigned 64 (neg v) ≤ 4503599627370496
unfolding neg to_unsigned
below-small nan b h = absurd b
below-small (inf s) b h = absurd b
below-small (fin false m e) b h = absurd (nonneg m e h)
below-small (fin true m e) b h = let g = uncut (m * up e) (down e) (down_pos e) b in omega arith

-- v is above −n − 1 and below −n, where n is the whole part of its size
pub below-between : (v : Float) → Bounded v 4503599627370496 → le nought v ≡ false → lt (natural (to_unsigned 64 (neg v))) (neg v) ≡ true → floor v ≡ negsuc (to_unsigned 64 (neg v))
unfolding neg to_unsigned floor
below-between nan b h l = absurd b
below-between (inf s) b h l = absurd b
below-between (fin false m e) b h l = absurd (nonneg m e h)
below-between (fin true m e) b h l =
    let g = uncut (m * up e) (down e) (down_pos e) b in
    let n = m * up e / down e in
    let k : lt (natural n) (fin false m e) ≡ true = subst (λ (z : ℕ). lt (natural z) (fin false m e) ≡ true) g.1 l in
    let q : n * down e < m * up e = ltb-true _ _ (sym (lt-value (natural n) n m e (natural-val n (le_trans g.0 (lit≤ tt)))) ∙ k) in
    ap (λ (z : ℕ). neg_ℤ (pos z)) (up_one (m * up e) (down e) (down_pos e) q) ∙ ap negsuc (sym g.1)

-- v is −n
pub below_at : (v : Float) → Bounded v 4503599627370496 → le nought v ≡ false → lt (natural (to_unsigned 64 (neg v))) (neg v) ≡ false → (0 < to_unsigned 64 (neg v)) × (floor v ≡ neg_ℤ (pos (to_unsigned 64 (neg v))))
unfolding neg to_unsigned floor
below_at nan b h l = absurd b
below_at (inf s) b h l = absurd b
below_at (fin false m e) b h l = absurd (nonneg m e h)
below_at (fin true m e) b h l =
    let g = uncut (m * up e) (down e) (down_pos e) b in
    let n = m * up e / down e in
    let k : lt (natural n) (fin false m e) ≡ false = subst (λ (z : ℕ). lt (natural z) (fin false m e) ≡ false) g.1 l in
    let q : m * up e ≤ n * down e = ltb-false _ _ (sym (lt-value (natural n) n m e (natural-val n (le_trans g.0 (lit≤ tt)))) ∙ k) in
    let p : 0 < n = first_pos n (down e) (lt_of_lt_of_le (some_size m e h) q) in
    (subst (λ (z : ℕ). 0 < z) (sym g.1) p, ap (λ (z : ℕ). neg_ℤ (pos z)) (same (m * up e) (down e) (down_pos e) q ∙ sym g.1))

-- ---- −n as a float, and modulo 4
pub minus-whole : (n : ℕ) → 0 < n → neg (of_int binary64 (pos n)) ≡ of_int binary64 (neg_ℤ (pos n))
unfolding of_int
minus-whole zero h = absurd (omega arith)
minus-whole (suc n) h = sym (neg-round binary64 (suc n) 1)

pub minus-quarter : (n : ℕ) → 0 < n → (4 - n % 4) % 4 ≡ quarter_of (neg_ℤ (pos n))
unfolding quarter_of
minus-quarter zero h = absurd (omega arith)
minus-quarter (suc n) h = omega arith
