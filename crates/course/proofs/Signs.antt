-- Tests on floats: the sign. Assumes nothing.
use Rattle.std.proofs.Common.{◌≡◌, ℕ, ◌*◌, true, false, T, eqb, ℤ, sym, refl, subst}
use mathlib.Core.Bool.{false≢true}
use Rattle.std.specs.Float.{float_signum, float_with_sign}
use lib.Ieee.{of_int, Float, nan, inf, fin, lt, mul, binary64, neg, up, down, round}
use Rattle.course.specs.Rules.Arithmetic.{natural}
use Rattle.course.specs.Rules.Numeric.{signum_of, abs_of}
use Rattle.course.proofs.Bounds.{plain, plain-round, neg-round}

-- ---- the library's methods give what the definitions do
pub signum-is : (x : Float) → float_signum x ≡ signum_of x
unfolding float_signum signum_of neg of_int natural round
signum-is nan = refl
signum-is (inf true) = refl
signum-is (inf false) = refl
signum-is (fin true m e) = refl
signum-is (fin false m e) = refl

pub abs-is : (x : Float) → float_with_sign false x ≡ abs_of x
unfolding float_with_sign abs_of
abs-is nan = refl
abs-is (inf s) = refl
abs-is (fin s m e) = refl

-- ---- the size of n · 2 ^ d · x, n above 0, is told by the side of zero on which x lies
abs-plain : (x : Float) → T (plain x) → (x ≡ abs_of x) × (neg (neg x) ≡ abs_of (neg x))
unfolding abs_of neg
abs-plain nan p = absurd p
abs-plain (inf true) p = absurd p
abs-plain (inf false) p = (refl, refl)
abs-plain (fin true m e) p = absurd p
abs-plain (fin false m e) p = (refl, refl)

round-above : (a b : ℕ) → round binary64 false a b ≡ abs_of (round binary64 false a b)
round-above a b = (abs-plain (round binary64 false a b) (plain-round binary64 a b)).0

round-below : (a b : ℕ) → neg (round binary64 true a b) ≡ abs_of (round binary64 true a b)
round-below a b = subst (λ (x : Float). neg x ≡ abs_of x) (sym (neg-round binary64 a b)) (abs-plain (round binary64 false a b) (plain-round binary64 a b)).1

module _ (n : ℕ) (d : ℤ) (some : eqb n 0 ≡ false) (m : ℕ) (e : ℤ) where
  pub times_above : (x : Float) → lt (fin false m e) x ≡ true → mul binary64 (fin false n d) x ≡ abs_of (mul binary64 (fin false n d) x)
  unfolding lt mul abs_of
  times_above nan h = absurd (false≢true h)
  times_above (inf true) h = absurd (false≢true h)
  times_above (inf false) h = rw some
  times_above (fin true k l) h = absurd (false≢true h)
  times_above (fin false k l) h = round-above (n * up d * (k * up l)) (down d * down l)

  pub times_below : (x : Float) → lt x (fin true m e) ≡ true → neg (mul binary64 (fin false n d) x) ≡ abs_of (mul binary64 (fin false n d) x)
  unfolding lt mul abs_of neg
  times_below nan h = absurd (false≢true h)
  times_below (inf true) h = rw some
  times_below (inf false) h = absurd (false≢true h)
  times_below (fin true k l) h = round-below (n * up d * (k * up l)) (down d * down l)
  times_below (fin false k l) h = absurd (false≢true h)
