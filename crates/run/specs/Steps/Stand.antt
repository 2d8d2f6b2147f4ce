-- What the checks of start, settle and restore hand on (document 01, "Refusals by cause", 10; document 02, order 1): where the wheels stand, as `Columns::stand` and
-- private functions of `start`, `settle` and `restore` say it. Assumes nothing.
use Rattle.std.specs.Prelude.{◌≡◌, List, Result, Ok, Err, MatchResult}
use Rattle.course.specs.declared.cause.Cause.{Cause}
use Rattle.run.specs.declared.state.Pose.{Pose}
use Rattle.run.specs.declared.quad.Stance.{Stance}

-- no cause ended the check, and the wheels stand at the poses
pub record Stands (check : Result Unit Cause) (ps : List Pose) (s : Stance) : Type 0 where
  pub passed : Ok tt ≡ check
  pub poses : s.poses ≡ ps

-- a stance at the poses, or the cause that ended the check
abbrev pub StanceOr : Result Unit Cause → List Pose → Result Stance Cause → Type 0
StanceOr check ps r = MatchResult r (Stands check ps) (λ e. Err e ≡ check)
