-- `run::contact::credit_set` meets its contract. Assumes nothing.
use mathlib.Core.Bool.{not, ◌&&◌}
use Rattle.run.specs.Steps.Touch.{credits, credits_of}
use Rattle.run.proofs.contact.credit_set.Goals as goal

pub returns : goal.returns
unfolding credits_of
returns c = λ i. credits (c.credit-fresh.ensures.credited_after i) (c.credit-fresh.ensures.value i) (c.has.ensures i && not (c.has-2.ensures i))
