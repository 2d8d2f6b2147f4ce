-- `course::step::turn_up` meets its contract. Assumes nothing.
use Rattle.course.proofs.Turns.{up_left, up-stop, up_more}
use Rattle.std.proofs.Common.{sym, ap, ◌∙◌, arith}
use Rattle.course.specs.Steps.Lay.{turned_beta}
use Rattle.course.proofs.step.turn_up.Goals as goal

pub returns-then-not-b-alpha : goal.returns-then-not-b-alpha
returns-then-not-b-alpha c = sym (ap turned_beta (c.loop-n.invariant ∙ up_left c.loop-n._n _ _ c.if-not-b-alpha.true))

pub loop-n-preserved : goal.loop-n-preserved
loop-n-preserved c = c.loop-n.invariant ∙ up_more c.loop-n._n _ _ c.if-not-b-alpha.false (λ z. omega (arith, z))

pub returns-else-not-b-alpha : goal.returns-else-not-b-alpha
returns-else-not-b-alpha c = sym (ap turned_beta (c.loop-n.invariant ∙ up-stop c.loop-n._n _ _ c.if-not-b-alpha.false (omega arith)))
