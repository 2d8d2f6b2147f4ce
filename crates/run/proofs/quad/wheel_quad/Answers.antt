-- `run::quad::wheel_quad` meets its contract. Assumes nothing.
use lib.Ieee.{of_int, round, of_bits, neg}
use Rattle.course.specs.Rules.Arithmetic.{natural, decimal}
use Rattle.run.specs.Rules.Wheel.{wheel_quad, wheel_w, wheel_r, size}
use Rattle.run.proofs.quad.wheel_quad.Goals as goal

pub returns : goal.returns
unfolding wheel_quad wheel_w wheel_r size natural decimal of_int round of_bits neg
returns c = cc
