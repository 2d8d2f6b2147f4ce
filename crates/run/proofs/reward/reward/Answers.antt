-- `run::reward::reward` meets its contract. Assumes nothing.
use Rattle.course.specs.Rules.Arithmetic.{natural}
use Rattle.run.specs.Rules.Reward.{reward_of}
use Rattle.run.proofs.SheetLaws.{at_least-max}
use Rattle.run.proofs.reward.reward.Goals as goal

pub returns-then-off : goal.returns-then-off
unfolding reward_of
returns-then-off c = rw c.if-off.true

pub returns : goal.returns
unfolding reward_of natural
returns c = simp (c.from.ensures, c.from-2.ensures, c.max.ensures, at_least-max, c.if-off.false)
