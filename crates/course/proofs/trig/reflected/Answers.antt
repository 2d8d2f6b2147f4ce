-- `course::trig::reflected` meets its contract. Assumes nothing.
use lib.Ieee.{of_bits, of_int, round}
use Rattle.course.specs.Rules.Arithmetic.{natural, decimal}
use Rattle.course.specs.Rules.Constants.{half_pi}
use Rattle.course.specs.Rules.Trig.{leftward}
use Rattle.course.proofs.trig.reflected.Goals as goal

pub returns-then-x : goal.returns-then-x
unfolding of_bits of_int round natural decimal half_pi leftward
returns-then-x c = rw c.if-x.true

pub returns : goal.returns
unfolding of_bits of_int round natural decimal half_pi leftward
returns c = rw c.if-x.false
