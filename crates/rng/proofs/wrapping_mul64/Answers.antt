-- `rng::wrapping_mul64` meets its contract, by the low digits of a product. Assumes nothing.
use Rattle.std.proofs.Common.{◌^◌}
use Rattle.rng.proofs.Halves.{low_product}
use Rattle.rng.proofs.wrapping_mul64.Goals as goal

pub returns : goal.returns
returns c = low_product (2 ^ 32) c.args.a c.args.b
