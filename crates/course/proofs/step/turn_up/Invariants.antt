-- `course::step::turn_up` meets its contract. Assumes nothing.
use Rattle.std.proofs.Common.{◌≡◌}
use Rattle.course.specs.Rules.Step.{turn_up}
use Rattle.course.proofs.step.turn_up.Given as goal

abbrev pub invariant-loop-n : goal.invariant-loop-n
invariant-loop-n l = turn_up l.left l.beta l.alpha ≡ turn_up l._n l.b l.alpha
