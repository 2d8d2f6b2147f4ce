-- Document 01, "Lay" (`try_generate`): the walk round the checkpoints, at most 2,500 steps, until the fifth lap is done. Assumes nothing.
use Rattle.std.specs.Prelude.{ℕ, zero, suc, Bool, true, false, cond, List, [], ◌∷◌, ◌++◌, Option, Some, None, nat_lt}
use Rattle.course.specs.Rules.Arithmetic.{nought}
use Rattle.course.specs.Rules.Lengths.{step_limit}
use Rattle.course.specs.Rules.Checkpoints.{far_rad}
use Rattle.course.specs.Rules.Step.{Walk, TrackStep, step_of}
use Rattle.course.specs.declared.checkpoints.Checkpoint.{Checkpoint}

-- the steps stored, and whether no limit was met
pub record Trail : Type 0 where
  pub ok : Bool
  pub steps : List TrackStep

-- further steps before a trail's
unfoldable pub follow : List TrackStep → Trail → Trail
follow ps r = record { ok = r.ok; steps = ps ++ r.steps }

-- what follows a step: after a lap beyond the fourth nothing, else the rest
unfoldable pub onward : Option (TrackStep × Walk) → (Walk → Trail) → Trail
onward None rest = record { ok = false; steps = [] }
onward (Some s) rest = follow (s.0 ∷ []) (cond (nat_lt 4 s.1.laps) (record { ok = true; steps = [] }) (rest s.1))

-- at most n steps
unfoldable pub walk_from : ℕ → List Checkpoint → Walk → Trail
walk_from zero cs w = record { ok = true; steps = [] }
walk_from (suc n) cs w = onward (step_of cs w) (λ v. walk_from n cs v)

unfoldable pub walk_start : Walk
walk_start = record { x = far_rad; y = nought; beta = nought; dest = 0; laps = 0; visited = false }

unfoldable pub walk_of : List Checkpoint → Trail
walk_of cs = walk_from step_limit cs walk_start
