-- `course::trig::signed` meets its contract. Assumes nothing.
use lib.Ieee.{of_bits, of_int, round}
use Rattle.course.specs.Rules.Arithmetic.{natural, decimal}
use Rattle.course.specs.Rules.Constants.{half_pi}
use Rattle.course.specs.Rules.Trig.{downward}
use Rattle.course.proofs.trig.signed.Goals as goal

pub returns-then-y : goal.returns-then-y
unfolding of_bits of_int round natural decimal half_pi downward
returns-then-y c = rw c.if-y.true

pub returns : goal.returns
unfolding of_bits of_int round natural decimal half_pi downward
returns c = rw c.if-y.false
