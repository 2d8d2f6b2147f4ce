-- `course::trig::atan_poly` meets its contract: the code's constants are the coefficients. Assumes nothing.
use Rattle.std.proofs.Common.{refl}
use lib.Ieee.{of_bits, div, of_int, neg}
use Rattle.course.specs.Rules.Arithmetic.{natural}
use Rattle.course.specs.Rules.Trig.{factorial, plus, minus, horner, atan_terms, atan_poly}
use Rattle.course.proofs.trig.atan_poly.Goals as goal

pub returns : goal.returns
unfolding of_bits div of_int neg natural factorial plus minus horner atan_terms atan_poly
returns c = refl
