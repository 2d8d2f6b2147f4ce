-- `sqrt_of` by the fields of an f64's bits. Assumes nothing.
use Rattle.std.proofs.Common.{◌≡◌, ℕ, zero, suc, ◌+◌, ◌-◌, ◌*◌, ◌/◌, ◌%◌, ◌^◌, ◌<◌, ◌≤◌, Bool, true, false, cond, not, T, eqb, ltb, leb, sym, refl, ap, ◌∙◌, subst, inl, inr, true≢false, lt_irrefl, mod-eq_of_lt, mul_assoc, eq-or-lt_of_le, mul-pos, zero-mul, mul-one, not-le_of_lt, mul-div_cancel, arith, le→leb, eqb→eq, ltb→lt, leb→le, nltb→le, pow_pos, pow-add}
use mathlib.Core.Bool.{false≢true}
use lib.Dec.{not_T}
use lib.Ieee.{Float, nan, inf, fin, binary64, up, down, odd, of_fields, of_bits, nan_bits, to_bits, fits, is_nan}
use lib.Ieee.Fits.{down_pos}
use lib.Ieee.Bits.{of_bits-to_bits, to_bits-lt, nan_bits_above, is_true, is_false, cond_no}
use lib.Ieee.Exact.{HasValue, odd_sign}
use Rattle.course.specs.Rules.Root.{nearest_root, sqrt_of}
use Rattle.course.specs.Steps.Root.{units_of, Scaled}

-- ---- by the value
zero-value : (e : ℕ) (a c u : ℕ) → 0 < a → 0 < e → zero * u * c ≡ a * e → ⊥
zero-value e a c u A E h = lt_irrefl 0 (subst (λ (x : ℕ). 0 < x) (sym h ∙ ap (λ (x : ℕ). x * c) (zero-mul u) ∙ zero-mul c) (mul-pos A E))

pub sqrt-value : (v : Float) (a : ℕ) → HasValue v false a (2 ^ 1074) → 0 < a → sqrt_of v ≡ nearest_root (a * 2 ^ 1074)
unfolding sqrt_of
sqrt-value nan a h p = absurd h
sqrt-value (inf s) a h p = absurd h
sqrt-value (fin true m e) a h p = absurd (true≢false h.0)
sqrt-value (fin false zero e) a h p = absurd (zero-value (down e) a (2 ^ 1074) (up e) p (down_pos e) h.1)
sqrt-value (fin false (suc m) e) a h p = ap (λ (x : ℕ). nearest_root (x * 2 ^ 1074)) (ap (λ (x : ℕ). x / down e) h.1 ∙ mul-div_cancel a (down_pos e))

pub sqrt-below : (v : Float) (a : ℕ) → HasValue v true a (2 ^ 1074) → 0 < a → sqrt_of v ≡ nan
unfolding sqrt_of
sqrt-below nan a h p = absurd h
sqrt-below (inf s) a h p = absurd h
sqrt-below (fin false m e) a h p = absurd (false≢true h.0)
sqrt-below (fin true zero e) a h p = absurd (zero-value (down e) a (2 ^ 1074) (up e) p (down_pos e) h.1)
sqrt-below (fin true (suc m) e) a h p = refl

-- ---- by the fields
pub fields_value : (s : Bool) (f t : ℕ) → f < 2047 → HasValue (of_fields binary64 s f t) s (units_of f t) (2 ^ 1074)
unfolding of_fields
fields_value s zero t F = subst (λ (x : ℕ). HasValue (odd 53 s t 0 1074) s x (2 ^ 1074)) (mul-one t) (odd_sign 53 s t 0 1074)
fields_value s (suc x) t F =
    subst (λ (v : Float). HasValue v s ((4503599627370496 + t) * 2 ^ x) (2 ^ 1074))
    (sym (cond_no (eqb (suc x) 2047) (cond (eqb t 0) (inf s) nan) (odd 53 s (4503599627370496 + t) x 1074) (not_T (eqb (suc x) 2047) (λ u. other (suc x) F (eqb→eq (suc x) 2047 u)))))
    (odd_sign 53 s (4503599627370496 + t) x 1074)
  where
    other : (y : ℕ) → y < 2047 → y ≡ 2047 → ⊥
    other y a b = omega arith

units-pos : (f t : ℕ) → 0 < f + t → 0 < units_of f t
units-pos zero t h = omega arith
units-pos (suc x) t h = mul-pos (lead t) (pow_pos x)
  where
    lead : (y : ℕ) → 0 < 4503599627370496 + y
    lead y = omega arith

-- a positive finite value
pub sqrt-fields : (f t : ℕ) → f < 2047 → 0 < f + t → sqrt_of (of_fields binary64 false f t) ≡ nearest_root (units_of f t * 2 ^ 1074)
sqrt-fields f t F p = sqrt-value (of_fields binary64 false f t) (units_of f t) (fields_value false f t F) (units-pos f t p)

pub at_ones : (s : Bool) (t : ℕ) → of_fields binary64 s 2047 t ≡ cond (eqb t 0) (inf s) nan
unfolding of_fields
at_ones s t = refl

-- a positive infinity, or a NaN
kept-ones : (b : Bool) → sqrt_of (cond b (inf false) nan) ≡ cond b (inf false) nan
unfolding sqrt_of
kept-ones true = refl
kept-ones false = refl

pub sqrt-ones : (t : ℕ) → sqrt_of (of_fields binary64 false 2047 t) ≡ of_fields binary64 false 2047 t
sqrt-ones t = ap sqrt_of (at_ones false t) ∙ kept-ones (eqb t 0) ∙ sym (at_ones false t)

-- the zeros
pub sqrt-zero : (s : Bool) → sqrt_of (of_fields binary64 s 0 0) ≡ of_fields binary64 s 0 0
unfolding sqrt_of of_fields
sqrt-zero s = refl

-- below zero
no-root : (b : Bool) → sqrt_of (cond b (inf true) nan) ≡ nan
unfolding sqrt_of
no-root true = refl
no-root false = refl

pub sqrt_negative : (f t : ℕ) → f ≤ 2047 → 0 < f + t → sqrt_of (of_fields binary64 true f t) ≡ nan
sqrt_negative f t F p = go (ltb f 2047) (ltb→lt f 2047) (nltb→le f 2047)
  where
    eq : (y : ℕ) → y ≤ 2047 → 2047 ≤ y → y ≡ 2047
    eq y a b = omega arith

    go : (b : Bool) → (T b → f < 2047) → (T (not b) → 2047 ≤ f) → sqrt_of (of_fields binary64 true f t) ≡ nan
    go true a b = sqrt-below (of_fields binary64 true f t) (units_of f t) (fields_value true f t (a tt)) (units-pos f t p)
    go false a b = ap (λ (y : ℕ). sqrt_of (of_fields binary64 true y t)) (eq f F (b tt)) ∙ ap sqrt_of (at_ones true t) ∙ no-root (eqb t 0)

-- ---- the bits of a normal number
normal : (x t : ℕ) → (4503599627370496 + t) * 2 ^ (1073 + suc x) ≡ units_of (suc x) t * 2 ^ 1074
normal x t = ap (λ (k : ℕ). (4503599627370496 + t) * k) (ap (λ (k : ℕ). 2 ^ k) (more x) ∙ pow-add 2 x 1074) ∙ sym (mul_assoc (4503599627370496 + t) (2 ^ x) (2 ^ 1074))
  where
    more : (k : ℕ) → 1073 + suc k ≡ k + 1074
    more k = omega arith

normal-at : (f t : ℕ) → 0 < f → (4503599627370496 + t) * 2 ^ (1073 + f) ≡ units_of f t * 2 ^ 1074
normal-at f t p = subst (λ (k : ℕ). (4503599627370496 + t) * 2 ^ (1073 + k) ≡ units_of k t * 2 ^ 1074) (pred f p) (normal (f - 1) t)
  where
    pred : (k : ℕ) → 0 < k → suc (k - 1) ≡ k
    pred k h = omega arith

pub as-it-is : (b : ℕ) → 4503599627370496 ≤ b → b < 9218868437227405312 → Scaled (units_of (b / 4503599627370496) (b % 4503599627370496)) b 0
as-it-is b h k = record {
  same = ap (λ (e : ℕ). (4503599627370496 + b % 4503599627370496) * 2 ^ e) (none (1073 + b / 4503599627370496)) ∙ normal-at (b / 4503599627370496) (b % 4503599627370496) (omega arith);
  normal = h;
  finite = k;
  few = omega arith;
  room = omega arith;
}
  where
    none : (e : ℕ) → e - 2 * 0 ≡ e
    none e = omega arith

-- a field of 0, with the digits b brought to 53
below_field : (f t : ℕ) → f ≡ 0 → units_of f t ≡ t
below_field f t e = ap (λ (k : ℕ). units_of k t) e

pub brought : (b m h : ℕ) → b < 4503599627370496 → m * 2 ^ h ≡ b * 2 ^ 1074 → 4503599627370496 ≤ m → m < 9007199254740992 → 1022 ≤ h → h ≤ 1074
    → Scaled (units_of (b / 4503599627370496) (b % 4503599627370496)) ((h - 1020) * 4503599627370496 + m) 27
brought b m h z e lo hi least most =
    let c = (h - 1020) * 4503599627370496 + m in
    let p : 4503599627370496 + c % 4503599627370496 ≡ m = omega arith in
    let q : 1073 + c / 4503599627370496 - 2 * 27 ≡ h = omega arith in
    let u : b / 4503599627370496 ≡ 0 = omega arith in
    let v : b % 4503599627370496 ≡ b = omega arith in
    record {
      same = (λ i. p i * 2 ^ q i) ∙ e ∙ ap (λ (k : ℕ). k * 2 ^ 1074) (sym (below_field (b / 4503599627370496) (b % 4503599627370496) u ∙ v));
      normal = omega arith;
      finite = omega arith;
      few = omega arith;
      room = omega arith;
    }

-- ---- the fields of a value's own bits
of_bits_is : (b : ℕ) → of_bits binary64 b ≡ of_fields binary64 (leb 9223372036854775808 b) (b % 9223372036854775808 / 4503599627370496) (b % 4503599627370496)
unfolding of_bits
of_bits_is b = refl

pub from_fields : (x : Float) → T (fits binary64 x) → (b : ℕ) → b ≡ to_bits binary64 x
    → x ≡ of_fields binary64 (leb 9223372036854775808 b) (b % 9223372036854775808 / 4503599627370496) (b % 4503599627370496)
from_fields x F b e = sym (of_bits-to_bits binary64 x F) ∙ ap (λ (y : ℕ). of_bits binary64 y) (sym e) ∙ of_bits_is b

-- ---- the ways of the code, for the bits b of x
module _ (x : Float) (F : T (fits binary64 x)) (b : ℕ) (e : b ≡ to_bits binary64 x) where
  pub way-zero : b % 9223372036854775808 ≡ 0 → x ≡ sqrt_of x
  way-zero z =
      let f : x ≡ of_fields binary64 (leb 9223372036854775808 b) 0 0 = from_fields x F b e ∙ (λ i. of_fields binary64 (leb 9223372036854775808 b) (high i) (low i)) in
      f ∙ sym (sqrt-zero (leb 9223372036854775808 b)) ∙ ap sqrt_of (sym f)
    where
      high : b % 9223372036854775808 / 4503599627370496 ≡ 0
      high = omega arith

      low : b % 4503599627370496 ≡ 0
      low = omega arith

  pub way-negative : 9223372036854775808 < b → nan ≡ sqrt_of x
  way-negative h =
      let f : x ≡ of_fields binary64 true (b % 9223372036854775808 / 4503599627370496) (b % 4503599627370496) =
      from_fields x F b e ∙ ap (λ (s : Bool). of_fields binary64 s (b % 9223372036854775808 / 4503599627370496) (b % 4503599627370496)) (is_true (leb 9223372036854775808 b) (le→leb 9223372036854775808 b sign)) in
      sym (ap sqrt_of f ∙ sqrt_negative (b % 9223372036854775808 / 4503599627370496) (b % 4503599627370496) small some)
    where
      sign : 9223372036854775808 ≤ b
      sign = omega arith

      small : b % 9223372036854775808 / 4503599627370496 ≤ 2047
      small = omega arith

      bound : b < 18446744073709551616
      bound = subst (λ (y : ℕ). y < 18446744073709551616) (sym e) (to_bits-lt binary64 x F)

      some : 0 < b % 9223372036854775808 / 4503599627370496 + b % 4503599627370496
      some = omega (arith, bound)

  plain : b < 9223372036854775808 → x ≡ of_fields binary64 false (b / 4503599627370496) (b % 4503599627370496)
  plain h =
      from_fields x F b e
      ∙ ap (λ (s : Bool). of_fields binary64 s (b % 9223372036854775808 / 4503599627370496) (b % 4503599627370496)) (is_false (leb 9223372036854775808 b) (not_T (leb 9223372036854775808 b) (λ u. not-le_of_lt h (leb→le 9223372036854775808 b u))))
      ∙ ap (λ (y : ℕ). of_fields binary64 false (y / 4503599627370496) (b % 4503599627370496)) (mod-eq_of_lt h)

  way-ones : b < 9223372036854775808 → b / 4503599627370496 ≡ 2047 → x ≡ sqrt_of x
  way-ones h g =
      let f : x ≡ of_fields binary64 false 2047 (b % 4503599627370496) = plain h ∙ ap (λ (y : ℕ). of_fields binary64 false y (b % 4503599627370496)) g in
      f ∙ sym (sqrt-ones (b % 4503599627370496)) ∙ ap sqrt_of (sym f)

  pub way-top : 9218868437227405312 ≤ b → b ≤ 9223372036854775808 → x ≡ sqrt_of x
  way-top h k = elim (eq-or-lt_of_le k) [
    | inl z ↦ way-zero (omega arith)
    | inr l ↦ way-ones l (omega arith)
  ]

  pub way-root : b < 9223372036854775808 → b / 4503599627370496 < 2047 → 0 < b / 4503599627370496 + b % 4503599627370496
      → sqrt_of x ≡ nearest_root (units_of (b / 4503599627370496) (b % 4503599627370496) * 2 ^ 1074)
  way-root h g p = ap sqrt_of (plain h) ∙ sqrt-fields (b / 4503599627370496) (b % 4503599627370496) g p

-- ---- a NaN
pub way-nan : (x : Float) → is_nan x ≡ true → x ≡ sqrt_of x
unfolding sqrt_of is_nan
way-nan nan h = refl
way-nan (inf s) h = absurd (false≢true h)
way-nan (fin s m e) h = absurd (false≢true h)

-- bits that are, but for the sign, not above those of the infinity are no NaN's
pub no-nan-bits : (r : ℕ) → r % 9223372036854775808 ≤ 9218868437227405312 → T (not (nan_bits binary64 r))
no-nan-bits r h =
    subst (λ (b : Bool). T (not b)) (sym (nan_bits_above binary64 r))
    (not_T (ltb 9218868437227405312 (r % 9223372036854775808)) (λ u. not-le_of_lt (ltb→lt 9218868437227405312 (r % 9223372036854775808) u) h))

pub below_inf : (r : ℕ) → r < 9218868437227405312 → T (not (nan_bits binary64 r))
below_inf r h = no-nan-bits r (omega arith)
