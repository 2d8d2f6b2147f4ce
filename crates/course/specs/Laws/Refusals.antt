-- What a refused walk came to: words for "no walk is ever refused by the fifth turn or by beta beyond ±16" (`walk-refused-by-pass` in proofs/LimitsNeverMet.antt). Assumes nothing.
use Rattle.std.specs.Prelude.{◌≡◌, List, Some, None}
use Rattle.course.specs.Rules.Finder.{dest_of}
use Rattle.course.specs.Rules.Step.{Walk, TrackStep, sight_of, step_of}
use Rattle.course.specs.Rules.Walk.{walk_start}
use Rattle.course.specs.declared.checkpoints.Checkpoint.{Checkpoint}

-- accepted steps lead from the start to this walk
pub data Reached (cs : List Checkpoint) : Walk → Type 0 where
  start : Reached cs walk_start
  next : (w v : Walk) (p : TrackStep) → Reached cs w → step_of cs w ≡ Some (p, v) → Reached cs v

-- the search for the walk's next checkpoint would want a third pass
abbrev pub ThirdPass : List Checkpoint → Walk → Type 0
ThirdPass cs w = dest_of cs w.dest (sight_of w).alpha ≡ None

-- a walk was reached whose search would want a third pass
pub record RefusedByPass (cs : List Checkpoint) : Type 0 where
  pub walk : Walk
  pub reached : Reached cs walk
  pub third-pass : ThirdPass cs walk
