-- Whole numbers beside a float: k ≤ w exactly where k ≤ w cut to an integer. Assumes nothing.
use Rattle.std.proofs.Common.{◌≡◌, ℕ, ◌-◌, ◌*◌, ◌/◌, ◌^◌, ◌<◌, ◌≤◌, min, true, false, T, leb, ℤ, sym, refl, subst, le_trans, le_of_eq, le-div_iff_mul-le, mul-one, arith, lit≤, le→leb, leb→le}
use lib.Ieee.{Float, nan, inf, fin, binary64, up, down, le, of_int, to_unsigned}
use lib.Ieee.Fits.{down_pos}
use lib.Ieee.Exact.{HasValue}
use lib.Ieee.Back.{round_whole}
use lib.Ieee.Order.{le_of_values}
use lib.Ieee.Positive.{positive, positive_of_value, above_of_le, values_of_le}
use borrow.Author.Tests.{lt-leb}
use Rattle.course.specs.Rules.Arithmetic.{natural}
use Rattle.course.proofs.BoolLaws.{same_test}

pub natural-val : (k : ℕ) → k ≤ 2 ^ 53 → HasValue (natural k) false k 1
unfolding natural of_int
natural-val k h = round_whole binary64 false k h

cap : (k q : ℕ) → k ≤ 2 ^ 53 → k ≤ q → k ≤ min q (2 ^ 64 - 1)
cap k q h g = omega arith

uncap : (k q : ℕ) → k ≤ min q (2 ^ 64 - 1) → k ≤ q
uncap k q h = omega arith

nothing : (k : ℕ) → 0 < k → leb k 0 ≡ false
nothing k h = lt-leb k 0 h

le-inf : (x : Float) (n : ℕ) → HasValue x false n 1 → T (le x (inf false))
unfolding le
le-inf nan n h = absurd h
le-inf (inf s) n h = absurd h
le-inf (fin s m e) n h = tt

-- ---- k ≤ w is k ≤ the integer that w is cut to
module _ (k : ℕ) (low : 0 < k) (high : k ≤ 2 ^ 53) where
  positive-whole : T (positive (natural k))
  positive-whole = positive_of_value (natural k) k 1 (natural-val k high) low

  at-fin : (m : ℕ) (e : ℤ) → le (natural k) (fin false m e) ≡ leb k (min (m * up e / down e) (2 ^ 64 - 1))
  at-fin m e = same_test _ _ there back
    where
      there : T (le (natural k) (fin false m e)) → T (leb k (min (m * up e / down e) (2 ^ 64 - 1)))
      there t =
          le→leb _ _ (cap k _ high ((le-div_iff_mul-le (down_pos e)).1
          (le_trans (values_of_le (natural k) (fin false m e) k 1 (m * up e) (down e) positive-whole (above_of_le (natural k) (fin false m e) positive-whole t) (natural-val k high) (refl, refl) t) (le_of_eq (mul-one (m * up e))))))

      back : T (leb k (min (m * up e / down e) (2 ^ 64 - 1))) → T (le (natural k) (fin false m e))
      back t =
          le_of_values (natural k) (fin false m e) k 1 (m * up e) (down e) (lit≤ tt) (down_pos e) (natural-val k high) (refl, refl)
          (le_trans ((le-div_iff_mul-le (down_pos e)).0 (uncap k _ (leb→le k _ t))) (le_of_eq (sym (mul-one (m * up e)))))

  -- no w that is not above zero has k ≤ w
  never : (w : Float) → (T (le (natural k) w) → ⊥) → le (natural k) w ≡ leb k 0
  never w f = same_test _ _ (λ t. absurd (f t)) (λ t. absurd (subst T (nothing k low) t))

  pub natural-le : (w : Float) → le (natural k) w ≡ leb k (to_unsigned 64 w)
  unfolding to_unsigned
  natural-le nan = never nan (λ t. above_of_le (natural k) nan positive-whole t)
  natural-le (inf true) = never (inf true) (λ t. above_of_le (natural k) (inf true) positive-whole t)
  natural-le (inf false) = same_test _ _ (λ t. le→leb k (2 ^ 64 - 1) (cap k (2 ^ 64) high (le_trans high (lit≤ tt)))) (λ t. le-inf (natural k) k (natural-val k high))
  natural-le (fin true m e) = never (fin true m e) (λ t. above_of_le (natural k) (fin true m e) positive-whole t)
  natural-le (fin false m e) = at-fin m e
