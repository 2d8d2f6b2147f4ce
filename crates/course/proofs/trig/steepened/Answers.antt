-- `course::trig::steepened` meets its contract. Assumes nothing.
use lib.Ieee.{of_bits, of_int, round}
use Rattle.course.specs.Rules.Arithmetic.{natural, decimal}
use Rattle.course.specs.Rules.Constants.{half_pi}
use Rattle.course.specs.Rules.Trig.{steep_of}
use Rattle.course.proofs.trig.steepened.Goals as goal

pub returns-then-ay-ax : goal.returns-then-ay-ax
unfolding of_bits of_int round natural decimal half_pi steep_of
returns-then-ay-ax c = rw c.if-ay-ax.true

pub returns : goal.returns
unfolding of_bits of_int round natural decimal half_pi steep_of
returns c = rw c.if-ay-ax.false
