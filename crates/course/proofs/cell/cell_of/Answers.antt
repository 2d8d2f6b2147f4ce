-- `course::cell::cell_of` meets its contract. Assumes nothing.
use Rattle.std.proofs.Common.{rules}
use lib.Ieee.{of_bits, div, of_int}
use Rattle.course.specs.Rules.Constants.{playfield, scale, grid_cell}
use Rattle.course.specs.Rules.Cell.{along}
use Rattle.course.specs.Rules.Arithmetic.{natural}
use Rattle.course.proofs.Cells.{cell_cut}
use Rattle.course.proofs.cell.cell_of.Goals as goal

pub returns : goal.returns
unfolding of_bits div of_int natural playfield along scale grid_cell
returns c = let e = cell_cut c.args.v in search rules
