-- `rng::scaled` meets its contract. Assumes nothing.
use Rattle.std.proofs.Common.{refl}
use Rattle.rng.specs.Rules.Unit.{between}
use Rattle.rng.proofs.scaled.Goals as goal

pub returns : goal.returns
unfolding between
returns c = refl
