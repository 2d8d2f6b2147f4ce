-- `rng::SplitMix64::new` meets its contract. Assumes nothing.
use Rattle.std.proofs.Common.{refl}
use Rattle.rng.specs.Rules.SplitMix.{at_state}
use Rattle.rng.proofs.SplitMix64.new.Goals as goal

pub returns : goal.returns
unfolding at_state
returns c = refl
