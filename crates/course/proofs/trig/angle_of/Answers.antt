-- `course::trig::angle_of` meets its contract. Assumes nothing.
use lib.Ieee.{of_bits, of_int}
use Rattle.course.specs.Rules.Arithmetic.{natural}
use Rattle.course.specs.Rules.Trig.{atan2_of}
use Rattle.course.proofs.trig.angle_of.Goals as goal

pub returns-then-x : goal.returns-then-x
unfolding of_bits of_int natural atan2_of
returns-then-x c = rw (c.if-y.true, c.if-x.true)

pub returns-then-y : goal.returns-then-y
unfolding of_bits of_int natural atan2_of
returns-then-y c = rw (c.if-y.true, c.if-x.false, c.direction.ensures)

pub returns : goal.returns
unfolding of_bits of_int natural atan2_of
returns c = rw (c.if-y.false, c.direction-2.ensures)
