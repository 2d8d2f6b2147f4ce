-- `run::words::count` meets its contract. Assumes nothing.
use Rattle.std.proofs.Common.{rules, ◌≡◌, ◌<◌, ◌^◌, ◌*◌, length, ◌∙◌}
use Rattle.std.specs.List.{sum_by}
use lib.Count.{ones}
use Rattle.run.proofs.WordBounds.{all-counted}
use Rattle.run.proofs.CreditLaws.{few}
use Rattle.run.specs.Grader.Words.{member}
use native.Mathlib.Omega.{arith}
use Rattle.run.proofs.words.count.Goals as goal

pub sum-requires-clause-fits : goal.sum-requires-clause-fits
sum-requires-clause-fits c = let few : sum_by ones c.args.set.now < 2 ^ 32 = omega (arith, all-counted _ (λ i. (c.type_inv.set i).fits), few (64 * length c.args.set.now) (member c.args.set.now), c.requires) in search rules

pub returns : goal.returns
returns c = let value : c.sum.result ≡ sum_by ones c.args.set.now = search rules in value ∙ all-counted _ (λ i. (c.type_inv.set i).fits)
