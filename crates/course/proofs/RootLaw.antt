-- `sqrt_of` at an f64 above zero is the f64 nearest to its root (`sqrt-nearest`), and it is the only one (`nearest-unique`). Assumes nothing.
use Rattle.std.proofs.Common.{◌≡◌, ℕ, zero, suc, ◌+◌, ◌-◌, ◌*◌, ◌/◌, ◌%◌, ◌^◌, ◌<◌, ◌≤◌, Bool, true, false, cond, not, T, eqb, ltb, leb, ◌⊎◌, sym, refl, ap, ◌∙◌, subst, inl, inr, true≢false, le_trans, le_of_eq, lt_of_lt_of_le, lt_of_le_of_lt, le_of_lt, lt_irrefl, mul-le-mul_right, zero-lt-suc, mul_assoc, mul_comm, add-mul, mul-le-mul, add_comm, lt_of_mul-lt-mul_right, eq-or-lt_of_le, mul-lt-mul_of_pos_right, mul-pos, lt_of_not-le, zero-mul, mul-one, mul_right_comm, mul-div_cancel, arith, lit<, lit≤, eqb→eq, ltb→lt, lt→ltb, nltb→le, T_not, pow_pos, pow_mono, pow-add, shl_lt}
use Prim.Native.Nat.{compare, Ordering}
use native.Mathlib.Nat.{mul-mul-mul_comm}
use lib.Ieee.{Float, nan, inf, fin, binary64, up, down, size, nearest, units, of_fields, of_bits, to_bits, fits, lt, le, eq}
use lib.Ieee.Digits.{size-lt, size-le, size_reaches}
use lib.Ieee.Fits.{down_pos, eq→eqb}
use lib.Ieee.Bits.{of_bits-to_bits}
use lib.Ieee.Exact.{HasValue, units_val}
use lib.Ieee.Positive.{positive, value_pos, values_of_le}
use Rattle.course.specs.Rules.Root.{in_units, whole_root, nearest_root, sqrt_of}
use Rattle.course.specs.Laws.Nearest.{plain, operand, halfway, Nearest}
use Rattle.course.specs.Steps.Root.{units_of, IsRoot, near_whole}
use Rattle.course.proofs.WholeRoot.{root-law, square-next, square-twice, square-digit, Cmp, cmp}
use Rattle.course.proofs.RootScale.{near_whole-is, scaled-root, near-high, near-low, in-range, units-fits, to_bits_val, root-high, joined}
use Rattle.course.proofs.RootFields.{fields_value, from_fields, at_ones, sqrt-value}

-- no other f64 is as near
pub record Strict (x r : Float) : Type 0 where
  pub representable : T (fits binary64 r)
  pub finite : T (plain r)
  pub above : (y : Float) → T (fits binary64 y) → T (plain y) → in_units r < in_units y → operand x < halfway r y
  pub below : (y : Float) → T (fits binary64 y) → T (plain y) → in_units y < in_units r → halfway r y < operand x

-- ---- whole numbers: what `near_whole` says
sq-lt : (i j : ℕ) → i < j → i * i < j * j
sq-lt i j h = lt_of_lt_of_le (omega (arith, square-next i)) (mul-le-mul (up i j h) (up i j h))
  where
    up : (s t : ℕ) → s < t → s + 1 ≤ t
    up s t m = omega arith

split : (w : ℕ) (o : Ordering) (X : ℕ) → IsRoot X w → Cmp o (4 * X) ((2 * w + 1) * (2 * w + 1)) → 0 < w
    → (4 * X < (2 * nearest w o + 1) * (2 * nearest w o + 1)) × ((2 * nearest w o - 1) * (2 * nearest w o - 1) < 4 * X)
split w Ordering.lt X r c p = (c, lt_of_lt_of_le (sq-lt (2 * w - 1) (2 * w) (less w p)) (omega (arith, square-twice w, r.not-above)))
  where
    less : (v : ℕ) → 0 < v → 2 * v - 1 < 2 * v
    less v h = omega arith
split w Ordering.eq X r c p = absurd (odd_even X w c)
  where
    odd_even : (Y v : ℕ) → 4 * Y ≡ (2 * v + 1) * (2 * v + 1) → ⊥
    odd_even Y v h = omega (arith, square-digit v)
split w Ordering.gt X r c p = (subst (λ (x : ℕ). 4 * X < (2 * x + 1) * (2 * x + 1)) (one w) more, lt_of_le_of_lt (le_of_eq (ap (λ (x : ℕ). x * x) (back w))) c)
  where
    one : (x : ℕ) → x + 1 ≡ suc x
    one x = omega arith

    more : 4 * X < (2 * (w + 1) + 1) * (2 * (w + 1) + 1)
    more = omega (arith, square-digit (w + 1), r.next-above)

    back : (x : ℕ) → 2 * suc x - 1 ≡ 2 * x + 1
    back x = omega arith

near-law : (X : ℕ) → 2 ^ 104 ≤ X → (4 * X < (2 * near_whole X + 1) * (2 * near_whole X + 1)) × ((2 * near_whole X - 1) * (2 * near_whole X - 1) < 4 * X)
near-law X h =
    let w = whole_root X in
    let o = compare (4 * X) ((2 * w + 1) * (2 * w + 1)) in
    subst (λ (q : ℕ). (4 * X < (2 * q + 1) * (2 * q + 1)) × ((2 * q - 1) * (2 * q - 1) < 4 * X)) (sym (near_whole-is X))
    (split w o X (root-law X) (cmp (4 * X) ((2 * w + 1) * (2 * w + 1))) (lt_of_lt_of_le (lit< tt) (root-high X h)))

-- ---- two sums of a root q * P with another number, squared
side : (X P q s : ℕ) → (2 * q + 1) * P ≤ s → 4 * X < (2 * q + 1) * (2 * q + 1) → 0 < P → 4 * (X * (P * P)) < s * s
side X P q s h c p =
    lt_of_le_of_lt (le_of_eq (sym (mul_assoc 4 X (P * P))))
    (lt_of_lt_of_le (mul-lt-mul_of_pos_right c (mul-pos p p)) (le_trans (le_of_eq (mul-mul-mul_comm (2 * q + 1) (2 * q + 1) P P)) (mul-le-mul h h)))

other-side : (X P u s : ℕ) → s ≤ u * P → u * u < 4 * X → 0 < P → s * s < 4 * (X * (P * P))
other-side X P u s h c p =
    lt_of_le_of_lt (le_trans (mul-le-mul h h) (le_of_eq (mul-mul-mul_comm u P u P)))
    (lt_of_lt_of_le (mul-lt-mul_of_pos_right c (mul-pos p p)) (le_of_eq (mul_assoc 4 X (P * P))))

-- ---- what an f64 is, in units: a number of 53 digits times a power of two
pow_lt_back : (i p : ℕ) → 2 ^ i < 2 ^ p → i < p
pow_lt_back i p h = lt_of_not-le (λ (g : p ≤ i). lt_irrefl (2 ^ i) (lt_of_lt_of_le h (pow_mono g)))

-- from 2 ^ 52 * 2 ^ K on it is a multiple of 2 ^ K
on-grid : (f t K : ℕ) → t < 4503599627370496 → 2 ^ 52 * 2 ^ K ≤ units_of f t → (c : ℕ) × (units_of f t ≡ c * 2 ^ K)
on-grid zero t K h g = absurd (lt_irrefl t (lt_of_lt_of_le h (le_trans (le_trans (le_of_eq (sym (mul-one (2 ^ 52)))) (mul-le-mul (le_of_eq refl) (pow_pos K))) g)))
on-grid (suc x) t K h g =
    let m = 4503599627370496 + t in
    let l : 2 ^ (52 + K) < 2 ^ (53 + x) = lt_of_le_of_lt (le_trans (le_of_eq (pow-add 2 52 K)) g) (shl_lt 53 x (lead t h)) in
    let k : K ≤ x = less K x (pow_lt_back (52 + K) (53 + x) l) in
    (m * 2 ^ (x - K), ap (λ (y : ℕ). m * y) (ap (λ (y : ℕ). 2 ^ y) (sym (back x K k)) ∙ pow-add 2 (x - K) K) ∙ sym (mul_assoc m (2 ^ (x - K)) (2 ^ K)))
  where
    lead : (y : ℕ) → y < 4503599627370496 → 4503599627370496 + y < 2 ^ 53
    lead y a = omega arith

    less : (a b : ℕ) → 52 + a < 53 + b → a ≤ b
    less a b e = omega arith

    back : (a b : ℕ) → b ≤ a → a - b + b ≡ a
    back a b e = omega arith

-- the next one above q * 2 ^ K, and those below it
module _ (q K f t : ℕ) (T52 : t < 4503599627370496) (Q : 2 ^ 52 ≤ q) where
  next_up : q * 2 ^ K < units_of f t → (q + 1) * 2 ^ K ≤ units_of f t
  next_up h =
      let g = on-grid f t K T52 (le_trans (mul-le-mul_right (2 ^ K) Q) (le_of_lt h)) in
      le_trans (mul-le-mul_right (2 ^ K) (up q g.0 (lt_of_mul-lt-mul_right (2 ^ K) (lt_of_lt_of_le h (le_of_eq g.1))))) (le_of_eq (sym g.1))
    where
      up : (a b : ℕ) → a < b → a + 1 ≤ b
      up a b e = omega arith

  next_down : units_of f t < q * 2 ^ K → (units_of f t < 2 ^ 52 * 2 ^ K) ⊎ (units_of f t ≤ (q - 1) * 2 ^ K)
  next_down h = go (ltb (units_of f t) (2 ^ 52 * 2 ^ K)) (ltb→lt (units_of f t) (2 ^ 52 * 2 ^ K)) (nltb→le (units_of f t) (2 ^ 52 * 2 ^ K))
    where
      less : (a b : ℕ) → a < b → a ≤ b - 1
      less a b e = omega arith

      go : (b : Bool) → (T b → units_of f t < 2 ^ 52 * 2 ^ K) → (T (not b) → 2 ^ 52 * 2 ^ K ≤ units_of f t) → (units_of f t < 2 ^ 52 * 2 ^ K) ⊎ (units_of f t ≤ (q - 1) * 2 ^ K)
      go true a b = inl (a tt)
      go false a b =
          let g = on-grid f t K T52 (b tt) in
          inr (le_trans (le_of_eq g.1) (mul-le-mul_right (2 ^ K) (less g.0 q (lt_of_mul-lt-mul_right (2 ^ K) (lt_of_le_of_lt (le_of_eq (sym g.1)) h)))))

-- ---- the two strict sides, over whole numbers
module _ (X K f t : ℕ) (T52 : t < 4503599627370496) (lo : 2 ^ 104 ≤ X) (hi : X < 2 ^ 106) where
  strict_above : near_whole X * 2 ^ K < units_of f t → 4 * (X * (2 ^ K * 2 ^ K)) < (near_whole X * 2 ^ K + units_of f t) * (near_whole X * 2 ^ K + units_of f t)
  strict_above h =
      side X (2 ^ K) (near_whole X) (near_whole X * 2 ^ K + units_of f t)
      (joined (near_whole X) (2 ^ K) (units_of f t) (next_up (near_whole X) K f t T52 (near-high X lo) h))
      (near-law X lo).0 (pow_pos K)
    where
      joined : (q P b : ℕ) → (q + 1) * P ≤ b → (2 * q + 1) * P ≤ q * P + b
      joined q P b g = omega (arith, add-mul (2 * q) 1 P, add-mul q 1 P, mul_assoc 2 q P, g)

  strict-below : units_of f t < near_whole X * 2 ^ K → (near_whole X * 2 ^ K + units_of f t) * (near_whole X * 2 ^ K + units_of f t) < 4 * (X * (2 ^ K * 2 ^ K))
  strict-below h = elim (next_down (near_whole X) K f t T52 (near-high X lo) h) [
    | inr g ↦ under (joined (near_whole X) (2 ^ K) (units_of f t) (positive (near_whole X) (near-high X lo)) g)
    | inl g ↦ elim (eq-or-lt_of_le (near-high X lo)) [
      | inr l ↦ under (joined (near_whole X) (2 ^ K) (units_of f t) (positive (near_whole X) (near-high X lo)) (le_trans (le_of_lt g) (mul-le-mul_right (2 ^ K) (less (2 ^ 52) (near_whole X) l))))
      | inl e ↦ at_edge (near_whole X) (2 ^ K) (units_of f t) e h
    ]
  ]
    where
      less : (a b : ℕ) → a < b → a ≤ b - 1
      less a b e = omega arith

      positive : (q : ℕ) → 2 ^ 52 ≤ q → 0 < q
      positive q e = omega arith

      twice : (q P b : ℕ) → b < q * P → q * P + b < 2 * q * P
      twice q P b g = omega (arith, mul_assoc 2 q P, g)

      at_edge : (q P b : ℕ) → 2 ^ 52 ≡ q → b < q * P → (q * P + b) * (q * P + b) < 4 * (X * (P * P))
      at_edge q P b e g =
          lt_of_lt_of_le (sq-lt (q * P + b) (2 * q * P) (twice q P b g))
          (le_trans (le_of_eq (mul-mul-mul_comm (2 * q) P (2 * q) P)) (le_trans (mul-le-mul_right (P * P) (edge q e)) (le_of_eq (mul_assoc 4 X (P * P)))))
        where
          edge : (a : ℕ) → 2 ^ 52 ≡ a → 2 * a * (2 * a) ≤ 4 * X
          edge a i = subst (λ (y : ℕ). 2 * y * (2 * y) ≤ 4 * X) i (omega (arith, lo))

      under : near_whole X * 2 ^ K + units_of f t ≤ (2 * near_whole X - 1) * 2 ^ K → (near_whole X * 2 ^ K + units_of f t) * (near_whole X * 2 ^ K + units_of f t) < 4 * (X * (2 ^ K * 2 ^ K))
      under g = other-side X (2 ^ K) (2 * near_whole X - 1) (near_whole X * 2 ^ K + units_of f t) g (near-law X lo).1 (pow_pos K)

      joined : (q P b : ℕ) → 0 < q → b ≤ (q - 1) * P → q * P + b ≤ (2 * q - 1) * P
      joined q P b p g = le_trans (omega (arith, g)) (le_of_eq (sym (add-mul q (q - 1) P) ∙ ap (λ (y : ℕ). y * P) (two q p)))
        where
          two : (a : ℕ) → 0 < a → a + (a - 1) ≡ 2 * a - 1
          two a e = omega arith

-- ---- the units of a float
pub units-value : (v : Float) (s : Bool) (a : ℕ) → HasValue v s a (2 ^ 1074) → in_units v ≡ a
units-value nan s a h = absurd h
units-value (inf t) s a h = absurd h
units-value (fin t m e) s a h = ap (λ (x : ℕ). x / down e) h.1 ∙ mul-div_cancel a (down_pos e)

abbrev Written : Float → Type 0
Written y = (f : ℕ) × (t : ℕ) × (f < 2047) × (t < 4503599627370496) × (in_units y ≡ units_of f t) × HasValue y false (units_of f t) (2 ^ 1074)

no_plain : (b : Bool) (s : Bool) → T (plain (cond b (inf s) nan)) → ⊥
no_plain true s h = h
no_plain false s h = h

sign_of : (v : Float) (s : Bool) (a : ℕ) → T (plain v) → HasValue v s a (2 ^ 1074) → HasValue v false a (2 ^ 1074)
sign_of nan s a p h = absurd p
sign_of (inf t) s a p h = absurd p
sign_of (fin true m e) s a p h = absurd p
sign_of (fin false m e) s a p h = (refl, h.1)

written : (y : Float) → T (fits binary64 y) → T (plain y) → Written y
written y F p =
    let b = to_bits binary64 y in
    let s = leb 9223372036854775808 b in
    let f = b % 9223372036854775808 / 4503599627370496 in
    let t = b % 4503599627370496 in
    let e : y ≡ of_fields binary64 s f t = from_fields y F b refl in
    let l : f < 2047 = under f (field b) (λ g. no_plain (eqb t 0) s (subst (λ (v : Float). T (plain v)) (e ∙ ap (λ (x : ℕ). of_fields binary64 s x t) g ∙ at_ones s t) p)) in
    let v : HasValue y s (units_of f t) (2 ^ 1074) = subst (λ (z : Float). HasValue z s (units_of f t) (2 ^ 1074)) (sym e) (fields_value s f t l) in
    (f, t, l, digits b, units-value y s (units_of f t) v, sign_of y s (units_of f t) p v)
  where
    field : (b : ℕ) → b % 9223372036854775808 / 4503599627370496 ≤ 2047
    field b = omega arith

    digits : (b : ℕ) → b % 4503599627370496 < 4503599627370496
    digits b = omega arith

    under : (f : ℕ) → f ≤ 2047 → (f ≡ 2047 → ⊥) → f < 2047
    under f h n = omega arith

-- ---- the operand as X * 4 ^ K
-- m of 53 digits
abbrev Squared : ℕ → Type 0
Squared n = (X : ℕ) × (K : ℕ) × (2 ^ 104 ≤ X) × (X < 2 ^ 106) × (K ≤ 2000) × (n ≡ X * (2 ^ K * 2 ^ K))

even-or-odd : (m h : ℕ) → 2 ^ 52 ≤ m → m < 2 ^ 53 → 1022 ≤ h → h ≤ 3200 → Squared (m * 2 ^ h)
even-or-odd m h lo hi a b = go (eqb (h % 2) 0) (eqb→eq (h % 2) 0) (λ n e. T_not (eqb (h % 2) 0) n (eq→eqb e))
  where
    go : (c : Bool) → (T c → h % 2 ≡ 0) → (T (not c) → h % 2 ≡ 0 → ⊥) → Squared (m * 2 ^ h)
    go true e n = let z = e tt in (m * 2 ^ 52, (h - 52) / 2, omega arith, omega arith, omega arith, sym (joined m 52 ((h - 52) / 2) h (omega arith)))
    go false e n = let z = n tt in (m * 2 ^ 53, (h - 53) / 2, omega arith, omega arith, omega arith, sym (joined m 53 ((h - 53) / 2) h (omega arith)))

moved : (t x z h : ℕ) → x + 1074 ≡ z + h → t * 2 ^ x * 2 ^ 1074 ≡ t * 2 ^ z * 2 ^ h
moved t x z h e = mul_assoc t (2 ^ x) (2 ^ 1074) ∙ ap (λ (y : ℕ). t * y) (sym (pow-add 2 x 1074) ∙ ap (λ (y : ℕ). 2 ^ y) e ∙ pow-add 2 z h) ∙ sym (mul_assoc t (2 ^ z) (2 ^ h))

-- the digits of a number below 2 ^ 53, brought to 53
raised : (t x : ℕ) → 0 < t → t < 2 ^ 53 → x ≤ 2046 → Squared (t * 2 ^ x * 2 ^ 1074)
raised t x p l g =
    let z = 53 - size t in
    let s : size t ≤ 53 = size-le t 53 l in
    let some : 0 < size t = positive (size t) (λ i. lt_irrefl t (lt_of_lt_of_le (lt_of_lt_of_le (size-lt t) (le_of_eq (ap (λ (y : ℕ). 2 ^ y) i))) p)) in
    let lo : 2 ^ 52 ≤ t * 2 ^ z = le_trans (le_of_eq (ap (λ (y : ℕ). 2 ^ y) (up (size t) s some) ∙ pow-add 2 (size t - 1) z)) (mul-le-mul_right (2 ^ z) (size_reaches t (size t - 1) (pred (size t) some))) in
    let hi : t * 2 ^ z < 2 ^ 53 = lt_of_lt_of_le (shl_lt (size t) z (size-lt t)) (le_of_eq (ap (λ (y : ℕ). 2 ^ y) (whole (size t) s))) in
    let h = x + 1074 - z in
    subst (λ (y : ℕ). Squared y) (sym (moved t x z h (cut x (size t) some))) (even-or-odd (t * 2 ^ z) h lo hi (most x (size t) some) (few x (size t) g))
  where
    positive : (a : ℕ) → (a ≡ 0 → ⊥) → 0 < a
    positive a n = omega arith

    up : (a : ℕ) → a ≤ 53 → 0 < a → 52 ≡ a - 1 + (53 - a)
    up a b c = omega arith

    whole : (a : ℕ) → a ≤ 53 → a + (53 - a) ≡ 53
    whole a b = omega arith

    pred : (a : ℕ) → 0 < a → a - 1 < a
    pred a b = omega arith

    most : (a b : ℕ) → 0 < b → 1022 ≤ a + 1074 - (53 - b)
    most a b c = omega arith

    few : (a b : ℕ) → a ≤ 2046 → a + 1074 - (53 - b) ≤ 3200
    few a b c = omega arith

    cut : (a b : ℕ) → 0 < b → a + 1074 ≡ 53 - b + (a + 1074 - (53 - b))
    cut a b c = omega arith

scaled-fields : (f t : ℕ) → f < 2047 → t < 4503599627370496 → 0 < units_of f t → Squared (units_of f t * 2 ^ 1074)
scaled-fields zero t F h p = subst (λ (y : ℕ). Squared (y * 2 ^ 1074)) (mul-one t) (raised t 0 p (lt_of_lt_of_le h (lit≤ tt)) (lit≤ tt))
scaled-fields (suc x) t F h p = raised (4503599627370496 + t) x (lead t) (up t h) (less x F)
  where
    lead : (y : ℕ) → 0 < 4503599627370496 + y
    lead y = omega arith

    up : (y : ℕ) → y < 4503599627370496 → 4503599627370496 + y < 2 ^ 53
    up y a = omega arith

    less : (y : ℕ) → suc y < 2047 → y ≤ 2046
    less y a = omega arith

-- ---- the theorems
swap-square : (a b c d : ℕ) → a ≡ c → b ≡ d → (a + b) * (a + b) ≡ (c + d) * (c + d)
swap-square a b c d p q = cc

strict-units : (x r : Float) (X K : ℕ) → 2 ^ 104 ≤ X → X < 2 ^ 106 → in_units x * 2 ^ 1074 ≡ X * (2 ^ K * 2 ^ K) → in_units r ≡ near_whole X * 2 ^ K → T (fits binary64 r) → T (plain r) → Strict x r
strict-units x r X K lo hi ex er F p = record {
  representable = F;
  finite = p;
  above = λ y G g h.
      let w = written y G g in
      lt_of_le_of_lt (le_of_eq (ap (λ (n : ℕ). 4 * n) ex))
      (lt_of_lt_of_le (strict_above X K w.0 w.1 w.3 lo hi (lt_of_le_of_lt (le_of_eq (sym er)) (lt_of_lt_of_le h (le_of_eq w.4))))
      (le_of_eq (sym (swap-square (in_units r) (in_units y) (near_whole X * 2 ^ K) (units_of w.0 w.1) er w.4))));
  below = λ y G g h.
      let w = written y G g in
      lt_of_le_of_lt (le_of_eq (swap-square (in_units r) (in_units y) (near_whole X * 2 ^ K) (units_of w.0 w.1) er w.4))
      (lt_of_lt_of_le (strict-below X K w.0 w.1 w.3 lo hi (lt_of_le_of_lt (le_of_eq (sym w.4)) (lt_of_lt_of_le h (le_of_eq er))))
      (le_of_eq (sym (ap (λ (n : ℕ). 4 * n) ex))));
}

plain_value : (v : Float) (a : ℕ) → HasValue v false a (2 ^ 1074) → T (plain v)
plain_value nan a h = absurd h
plain_value (inf s) a h = absurd h
plain_value (fin true m e) a h = absurd (true≢false h.0)
plain_value (fin false m e) a h = tt

plain-positive : (x : Float) → T (positive x) → T (plain x)
plain-positive nan h = h
plain-positive (inf s) h = h
plain-positive (fin true m e) h = h
plain-positive (fin false m e) h = tt

-- no other f64 is as near to the root as `sqrt_of x` is
pub sqrt-strict : (x : Float) → T (fits binary64 x) → T (positive x) → Strict x (sqrt_of x)
sqrt-strict x F p =
    let w = written x F (plain-positive x p) in
    let a = units_of w.0 w.1 in
    let A : 0 < a = value_pos x a (2 ^ 1074) p (pow_pos 1074) w.5 in
    let s = scaled-fields w.0 w.1 w.2 w.3 A in
    let X = s.0 in
    let K = s.1 in
    let q = near_whole X in
    let r = units binary64 false q K in
    let e : sqrt_of x ≡ r = sqrt-value x a w.5 A ∙ ap nearest_root s.5 ∙ scaled-root X K s.2 s.3 in
    let v : HasValue r false (q * 2 ^ K) (2 ^ 1074) = units_val binary64 false q K (in-range q K (near-low X s.3) s.4) in
    subst (λ (z : Float). Strict x z) (sym e)
    (strict-units x r X K s.2 s.3 (ap (λ (n : ℕ). n * 2 ^ 1074) w.4 ∙ s.5) (units-value r false (q * 2 ^ K) v) (units-fits q K (near-low X s.3) s.4) (plain_value r (q * 2 ^ K) v))

apart : (a b : ℕ) → (a ≡ b → ⊥) → (a < b) ⊎ (b < a)
apart a b n = go (ltb a b) (ltb→lt a b) (nltb→le a b)
  where
    other : b ≤ a → b < a
    other h = omega arith

    go : (c : Bool) → (T c → a < b) → (T (not c) → b ≤ a) → (a < b) ⊎ (b < a)
    go true h k = inl (h tt)
    go false h k = inr (other (k tt))

of-strict : (x r : Float) → Strict x r → Nearest x r
of-strict x r s = record {
  representable = s.representable;
  finite = s.finite;
  above = λ y F p h. le_of_lt (s.above y F p h);
  below = λ y F p h. le_of_lt (s.below y F p h);
  even = λ y F p n e. elim (apart (in_units y) (in_units r) n) [
    | inl h ↦ absurd (lt_irrefl (operand x) (lt_of_le_of_lt (le_of_eq (sym e)) (s.below y F p h)))
    | inr h ↦ absurd (lt_irrefl (operand x) (lt_of_lt_of_le (s.above y F p h) (le_of_eq e)))
  ];
}

-- Document 01: `sqrt_of x` is the f64 nearest to the root of x, ties to even
pub sqrt-nearest : (x : Float) → T (fits binary64 x) → T (positive x) → Nearest x (sqrt_of x)
sqrt-nearest x F p = of-strict x (sqrt_of x) (sqrt-strict x F p)

pub same_units : (r s : Float) → T (fits binary64 r) → T (plain r) → T (fits binary64 s) → T (plain s) → in_units r ≡ in_units s → r ≡ s
same_units r s F p G q e =
    let v = written r F p in
    let w = written s G q in
    let i : units_of v.0 v.1 ≡ units_of w.0 w.1 = sym v.4 ∙ e ∙ w.4 in
    let b : to_bits binary64 r ≡ to_bits binary64 s =
    to_bits_val r (units_of v.0 v.1) v.5
    ∙ ap (λ (a : ℕ). 0 + (size a - 53) * 4503599627370496 + a / 2 ^ (size a - 53)) i
    ∙ sym (to_bits_val s (units_of w.0 w.1) w.5) in
    sym (of_bits-to_bits binary64 r F) ∙ ap (λ (a : ℕ). of_bits binary64 a) b ∙ of_bits-to_bits binary64 s G

around : (r s : Float) → halfway r s ≡ halfway s r
around r s = ap (λ (a : ℕ). a * a) (add_comm (in_units r) (in_units s))

-- and no other f64 is
pub nearest-unique : (x r : Float) → T (fits binary64 x) → T (positive x) → Nearest x r → r ≡ sqrt_of x
nearest-unique x r F p n =
    let s = sqrt-strict x F p in
    let q = sqrt_of x in
    go s (eqb (in_units r) (in_units q)) (eqb→eq (in_units r) (in_units q)) (λ k e. T_not (eqb (in_units r) (in_units q)) k (eq→eqb e))
  where
    go : Strict x (sqrt_of x) → (c : Bool) → (T c → in_units r ≡ in_units (sqrt_of x)) → (T (not c) → in_units r ≡ in_units (sqrt_of x) → ⊥) → r ≡ sqrt_of x
    go s true e k = same_units r (sqrt_of x) n.representable n.finite s.representable s.finite (e tt)
    go s false e k = elim (apart (in_units r) (in_units (sqrt_of x)) (k tt)) [
      | inl h ↦ absurd (lt_irrefl (operand x) (lt_of_le_of_lt (n.above (sqrt_of x) s.representable s.finite h) (lt_of_le_of_lt (le_of_eq (around r (sqrt_of x))) (s.below r n.representable n.finite h))))
      | inr h ↦ absurd (lt_irrefl (operand x) (lt_of_lt_of_le (s.above r n.representable n.finite h) (le_trans (le_of_eq (around (sqrt_of x) r)) (n.below (sqrt_of x) s.representable s.finite h))))
    ]

-- ---- a bound of the root by a square, with no root taken
cross-lt : (A d u B g v P : ℕ) → A * P ≡ u * d → B * P ≡ v * g → A * g < B * d → 0 < P → u < v
cross-lt A d u B g v P e f h p =
    lt_of_mul-lt-mul_right (d * g)
    (lt_of_le_of_lt (le_of_eq (sym (mul_assoc u d g) ∙ ap (λ (x : ℕ). x * g) (sym e) ∙ mul_right_comm A P g))
    (lt_of_lt_of_le (mul-lt-mul_of_pos_right h p)
    (le_of_eq (sym (mul_right_comm B P d) ∙ ap (λ (x : ℕ). x * d) f ∙ mul_assoc v g d ∙ ap (λ (x : ℕ). v * x) (mul_comm g d)))))

lt-units : (y r : Float) → T (fits binary64 y) → T (plain y) → T (fits binary64 r) → T (plain r) → T (lt y r) → in_units y < in_units r
unfolding lt
lt-units nan r F p G q t = absurd p
lt-units (inf s) r F p G q t = absurd p
lt-units (fin true m e) r F p G q t = absurd p
lt-units (fin false m e) nan F p G q t = absurd q
lt-units (fin false m e) (inf s) F p G q t = absurd q
lt-units (fin false m e) (fin true n d) F p G q t = absurd q
lt-units (fin false m e) (fin false n d) F p G q t =
    let v = written (fin false m e) F p in
    let w = written (fin false n d) G q in
    lt_of_le_of_lt (le_of_eq v.4)
    (lt_of_lt_of_le (cross-lt (m * up e) (down e) (units_of v.0 v.1) (n * up d) (down d) (units_of w.0 w.1) (2 ^ 1074) v.5.1 w.5.1 (ltb→lt _ _ t) (pow_pos 1074))
    (le_of_eq (sym w.4)))

-- a root above y has a square above y's
no-root-above : (x y : Float) → T (fits binary64 x) → T (positive x) → T (fits binary64 y) → T (plain y) → in_units x * 2 ^ 1074 ≤ in_units y * in_units y → T (lt y (sqrt_of x)) → ⊥
no-root-above x y F p G q h t =
    let s = sqrt-strict x F p in
    let r = sqrt_of x in
    let l : in_units y < in_units r = lt-units y r G q s.representable s.finite t in
    clash (in_units x * 2 ^ 1074) (in_units y) (in_units r) l (s.below y G q l) h
  where
    more : (Y R : ℕ) → Y < R → 2 * Y < R + Y
    more Y R g = omega arith

    clash : (X Y R : ℕ) → Y < R → (R + Y) * (R + Y) < 4 * X → X ≤ Y * Y → ⊥
    clash X Y R g a b = lt_irrefl (4 * X) (lt_of_le_of_lt (omega (arith, b)) (lt_of_le_of_lt (le_of_eq (sym (square-twice Y))) (lt_of_lt_of_le (sq-lt (2 * Y) (R + Y) (more Y R g)) (le_of_lt a))))

value-le : (x sq : Float) (k : ℕ) → T (fits binary64 x) → T (positive x) → T (positive sq) → HasValue sq false (k * k) 1 → T (le x sq) → in_units x ≤ k * k * 2 ^ 1074
value-le x sq k F p q v t =
    let w = written x F (plain-positive x p) in
    le_trans (le_of_eq (w.4 ∙ sym (mul-one (units_of w.0 w.1)))) (values_of_le x sq (units_of w.0 w.1) (2 ^ 1074) (k * k) 1 p q w.5 v t)

nothing-below : (a b c : ℕ) → T (ltb a (0 * b * c)) → ⊥
nothing-below a b c t = none a (lt_of_lt_of_le (ltb→lt a (0 * b * c) t) (le_of_eq (ap (λ (x : ℕ). x * c) (zero-mul b) ∙ zero-mul c)))
  where
    none : (x : ℕ) → x < 0 → ⊥
    none x h = omega arith

-- Where x is not above the square of y, which is the whole number k, the root of x is not above y.
pub root-within : (k : ℕ) (x y sq : Float) → T (fits binary64 x) → T (fits binary64 y) → T (plain y) → in_units y ≡ k * 2 ^ 1074 → T (positive sq) → HasValue sq false (k * k) 1
    → T (le x sq) → T (lt y (sqrt_of x)) → ⊥
unfolding sqrt_of lt le eq
root-within k x nan sq F G p u q v t l = absurd p
root-within k x (inf s) sq F G p u q v t l = absurd p
root-within k x (fin true m e) sq F G p u q v t l = absurd p
root-within k nan (fin false m e) sq F G p u q v t l = l
root-within k (inf true) (fin false m e) sq F G p u q v t l = l
root-within k (inf false) (fin false m e) nan F G p u q v t l = absurd q
root-within k (inf false) (fin false m e) (inf s) F G p u q v t l = absurd q
root-within k (inf false) (fin false m e) (fin true n d) F G p u q v t l = absurd q
root-within k (inf false) (fin false m e) (fin false n d) F G p u q v t l = t
root-within k (fin true (suc n) d) (fin false m e) sq F G p u q v t l = l
root-within k (fin true zero d) (fin false m e) sq F G p u q v t l = l
root-within k (fin false zero d) (fin false m e) sq F G p u q v t l = nothing-below (m * up e * down d) (up d) (down e) l
root-within k (fin false (suc n) d) (fin false m e) sq F G p u q v t l =
    let x = fin false (suc n) d in
    let y = fin false m e in
    let z : T (positive x) = lt→ltb 0 (suc n) (zero-lt-suc n) in
    no-root-above x y F z G p (le_trans (mul-le-mul_right (2 ^ 1074) (value-le x sq k F z q v t)) (le_of_eq (mul_assoc (k * k) (2 ^ 1074) (2 ^ 1074) ∙ mul-mul-mul_comm k k (2 ^ 1074) (2 ^ 1074) ∙ ap (λ (a : ℕ). a * a) (sym u)))) l
