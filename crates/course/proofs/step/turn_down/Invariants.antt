-- `course::step::turn_down` meets its contract. Assumes nothing.
use Rattle.std.proofs.Common.{◌≡◌}
use Rattle.course.specs.Rules.Step.{turn_down}
use Rattle.course.proofs.step.turn_down.Given as goal

abbrev pub invariant-loop-n : goal.invariant-loop-n
invariant-loop-n l = turn_down l.left l.beta l.alpha ≡ turn_down l.n l.b l.alpha
