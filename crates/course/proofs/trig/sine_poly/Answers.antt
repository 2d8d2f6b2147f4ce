-- `course::trig::sine_poly` meets its contract: the code's constants are the coefficients. Assumes nothing.
use Rattle.std.proofs.Common.{refl}
use lib.Ieee.{of_bits, div, of_int, neg}
use Rattle.course.specs.Rules.Arithmetic.{natural}
use Rattle.course.specs.Rules.Trig.{factorial, plus, minus, horner, sine_terms, sine_poly}
use Rattle.course.proofs.trig.sine_poly.Goals as goal

pub returns : goal.returns
unfolding of_bits div of_int neg natural factorial plus minus horner sine_terms sine_poly
returns c = refl
