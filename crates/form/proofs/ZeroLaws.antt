-- Every byte is 0 where all of them, taken together bit by bit, are 0. Assumes nothing.
use Prim.Native.Nat.{ℕ, zero, suc}
use mathlib.Core.Path.{◌≡◌, sym, ap, ◌∙◌}
use mathlib.Core.Bool.{Bool, ◌&&◌}
use mathlib.Core.List.{List, [], ◌∷◌, ◌++◌}
use native.Mathlib.Omega.{arith}
use lib.Bits.{bit_or, or_zero_l}
use lib.Dec.{eqb}
use borrow.Author.Tests.{ne_eqb}
use Rattle.std.proofs.lemmas.Nat.{le_or_l}
use Rattle.std.proofs.Math.Bool.{and_assoc, and-true}
use Rattle.form.specs.Rules.Bytes.{all_zero}

or-zero : (a b : ℕ) → eqb (bit_or a b) 0 ≡ (eqb a 0 && eqb b 0)
or-zero zero b = ap (λ (n : ℕ). eqb n 0) (or_zero_l b)
or-zero (suc a) b =
    ne_eqb (bit_or (suc a) b) 0 (λ e. omega (arith, e, le_or_l (suc a) b)) ∙ ap (λ (r : Bool). r && eqb b 0) (sym (ne_eqb (suc a) 0 (λ e. omega (arith, e))))

zero-more : (bs : List ℕ) (b : ℕ) → all_zero (bs ++ b ∷ []) ≡ (all_zero bs && eqb b 0)
unfolding all_zero
zero-more [] b = and-true (eqb b 0)
zero-more (x ∷ bs) b = ap (λ (r : Bool). eqb x 0 && r) (zero-more bs b) ∙ sym (and_assoc (eqb x 0) (all_zero bs) (eqb b 0))

-- one byte more
pub zeros_on : (bs : List ℕ) (a b : ℕ) → eqb a 0 ≡ all_zero bs → eqb (bit_or a b) 0 ≡ all_zero (bs ++ b ∷ [])
zeros_on bs a b e = or-zero a b ∙ ap (λ (r : Bool). r && eqb b 0) e ∙ sym (zero-more bs b)
