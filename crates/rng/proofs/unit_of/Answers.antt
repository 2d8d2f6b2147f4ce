-- `rng::unit_of` meets its contract: a draw shifted right 11 is below 2^53, so the cast is exact; and the product by 2^−53 is the quotient.
-- Assumes nothing.
use lib.Ieee.{of_bits}
use Rattle.rng.proofs.Units.{unit-by-mul}
use Rattle.rng.proofs.unit_of.Goals as goal

pub returns : goal.returns
unfolding of_bits
returns c = unit-by-mul c.args.draw
