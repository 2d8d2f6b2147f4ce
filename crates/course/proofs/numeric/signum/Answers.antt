-- `course::numeric::signum` meets its contract. Assumes nothing.
use Rattle.std.proofs.Common.{◌∙◌}
use Rattle.course.proofs.Signs.{signum-is}
use Rattle.course.proofs.numeric.signum.Goals as goal

pub returns : goal.returns
returns c = c.signum.ensures ∙ signum-is c.args.x
