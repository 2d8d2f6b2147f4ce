-- What the sheet's and the reward's tests tell. Assumes nothing.
use mathlib.Core.Bool.{false, ◌||◌}
use mathlib.Core.Path.{◌≡◌, refl}
use Prim.Native.Nat.{ℕ, zero, suc, ◌*◌, ◌/◌, ◌≤◌, ◌<◌}
use native.Mathlib.Nat.{div-lt_iff_lt-mul}
use native.Mathlib.Omega.{arith}
use lib.Dec.{ltb}
use borrow.Author.Tests.{ltb-false}
use Rattle.std.proofs.Common.{max}
use Rattle.course.proofs.BoolLaws.{or_no}
use Rattle.run.specs.Grader.State.{unfit}
use Rattle.run.specs.Rules.Reward.{at_least_one}
use Rattle.run.specs.declared.state.Setup.{Setup}
use Rattle.run.specs.declared.state.Progress.{Progress}

pub at_least-max : (n : ℕ) → max n 1 ≡ at_least_one n
unfolding at_least_one
at_least-max zero = refl
at_least-max (suc n) = omega arith

-- a share is at most 1000
pub share-lt : (c n : ℕ) → 0 < n → c ≤ n → 1000 * c / n < 1001
share-lt c n z h = (div-lt_iff_lt-mul {k = n} {x = 1000 * c} {y = 1001} z).1 (omega arith)

-- a fit state has tiles, and no more credited than it has
pub fit-some : (most : ℕ) (u : Setup) (p : Progress) → unfit most u p ≡ false → 0 < u.n
unfolding unfit
fit-some most u p e = ltb-false u.n 1 (or_no (ltb u.n 1) (ltb most u.n) (or_no (ltb u.n 1 || ltb most u.n) (ltb u.n p.visited_count) e).0).0

pub fit-credited : (most : ℕ) (u : Setup) (p : Progress) → unfit most u p ≡ false → p.visited_count ≤ u.n
unfolding unfit
fit-credited most u p e = ltb-false u.n p.visited_count (or_no (ltb u.n 1 || ltb most u.n) (ltb u.n p.visited_count) e).1
