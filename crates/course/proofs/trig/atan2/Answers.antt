-- `course::trig::atan2` meets its contract. Assumes nothing.
use Rattle.std.proofs.Common.{sym}
use lib.Ieee.{of_bits, of_int}
use Rattle.course.specs.Rules.Arithmetic.{natural}
use Rattle.course.specs.Grader.Cause.{check}
use Rattle.course.specs.Grader.Angle.{answer, pair_cause, atan2_call}
use Rattle.course.proofs.trig.atan2.Goals as goal

pub returns-then-inside : goal.returns-then-inside
unfolding of_bits of_int natural check answer pair_cause atan2_call
returns-then-inside c = rw (sym c.inside.ensures, sym c.inside-2.ensures, c.if-inside.true, c.angle_of.ensures)

pub returns : goal.returns
unfolding of_bits of_int natural check answer pair_cause atan2_call
returns c = rw (sym c.inside.ensures, sym c.inside-2.ensures, c.if-inside.false)
