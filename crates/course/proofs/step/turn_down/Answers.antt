-- `course::step::turn_down` meets its contract. Assumes nothing.
use Rattle.course.proofs.Turns.{down-left, down-stop, down-more}
use Rattle.std.proofs.Common.{sym, ◌∙◌, arith}
use Rattle.course.proofs.step.turn_down.Goals as goal

pub returns-then-not-b-alpha : goal.returns-then-not-b-alpha
returns-then-not-b-alpha c = sym (c.loop-n.invariant ∙ down-left c.loop-n.n _ _ c.if-not-b-alpha.true)

pub loop-n-preserved : goal.loop-n-preserved
loop-n-preserved c = c.loop-n.invariant ∙ down-more c.loop-n.n _ _ c.if-not-b-alpha.false (λ z. omega (arith, z))

pub returns-else-not-b-alpha : goal.returns-else-not-b-alpha
returns-else-not-b-alpha c = sym (c.loop-n.invariant ∙ down-stop c.loop-n.n _ _ c.if-not-b-alpha.false (omega arith))
