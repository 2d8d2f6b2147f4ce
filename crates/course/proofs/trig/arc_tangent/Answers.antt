-- `course::trig::arc_tangent` meets its contract. Assumes nothing.
use lib.Ieee.{of_bits, of_int, round}
use Rattle.course.specs.Rules.Arithmetic.{natural, decimal}
use Rattle.course.specs.Rules.Trig.{arc_of}
use Rattle.course.proofs.trig.arc_tangent.Goals as goal

pub returns-then-t : goal.returns-then-t
unfolding of_bits of_int round natural decimal arc_of
returns-then-t c = rw (c.if-t.true, c.arc_from.ensures)

pub returns : goal.returns
unfolding of_bits of_int round natural decimal arc_of
returns c = rw (c.if-t.false, c.arc_from-2.ensures)
