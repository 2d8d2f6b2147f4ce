-- `course::numeric::abs` meets its contract. Assumes nothing.
use Rattle.std.proofs.Common.{◌∙◌}
use Rattle.course.proofs.Signs.{abs-is}
use Rattle.course.proofs.numeric.abs.Goals as goal

pub returns : goal.returns
returns c = c.abs.ensures.value ∙ abs-is c.args.x
