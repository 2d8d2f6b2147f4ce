-- `run::reward::WeightsDefault::default` meets its contract. Assumes nothing.
use mathlib.Core.Path.{refl}
use lib.Ieee.{of_bits, of_int, round, neg}
use Rattle.course.specs.Rules.Arithmetic.{natural, decimal}
use Rattle.run.specs.Rules.Reward.{default_weights}
use Rattle.run.proofs.reward.WeightsDefault.default.Goals as goal

pub returns : goal.returns
unfolding of_bits neg default_weights natural decimal of_int round
returns c = refl
