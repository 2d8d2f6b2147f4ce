-- `FlatAngle::from` meets its contract. Assumes nothing.
use lib.Ieee.{of_bits, of_int}
use Rattle.course.specs.Rules.Arithmetic.{natural}
use Rattle.course.specs.Grader.Cause.{cause_number}
use Rattle.course.specs.Grader.Angle.{angle_cause_of, value_of}
use Rattle.abi.specs.Grader.Flat.{flat_angle}
use Rattle.abi.proofs.flat.FlatAngleFromResultF64Cause.from.Goals as goal

pub returns : goal.returns
unfolding flat_angle angle_cause_of cause_number value_of natural of_int of_bits
returns c = rw (c.cause_number.ensures, c.unwrap_or.ensures)
