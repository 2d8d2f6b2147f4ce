-- `course::trig::quarter_turns` meets its contract. Assumes nothing.
use lib.Ieee.{of_bits, round}
use Rattle.course.specs.Rules.Arithmetic.{decimal}
use Rattle.course.specs.Rules.Constants.{half_pi}
use Rattle.course.specs.Rules.Trig.{turns_of}
use Rattle.course.proofs.trig.quarter_turns.Goals as goal

pub returns : goal.returns
unfolding of_bits turns_of half_pi decimal round
returns c = c.whole_below.ensures
