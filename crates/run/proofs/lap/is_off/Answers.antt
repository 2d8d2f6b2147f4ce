-- `run::lap::is_off` meets its contract. Assumes nothing.
use lib.Ieee.{of_int, of_bits, div}
use Rattle.course.specs.Rules.Arithmetic.{natural}
use Rattle.course.specs.Rules.Constants.{playfield, scale}
use Rattle.run.specs.Rules.Lap.{off_field}
use Rattle.run.proofs.lap.is_off.Goals as goal

pub returns : goal.returns
unfolding off_field playfield scale natural of_int of_bits div
returns c = simp (← c.abs.ensures, ← c.abs-2.ensures)
