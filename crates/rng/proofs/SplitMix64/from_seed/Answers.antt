-- `rng::SplitMix64::from_seed` meets its contract. Assumes nothing.
use Rattle.rng.specs.Rules.SplitMix.{seeded}
use Rattle.rng.proofs.SplitMix64.from_seed.Goals as goal

pub returns : goal.returns
unfolding seeded
returns c = c.new.ensures
