-- `course::cell::cell_at` meets its contract. Assumes nothing.
use Rattle.course.proofs.Cells.{cell-high}
use Rattle.course.specs.Rules.Constants.{grid_dim}
use Rattle.course.specs.Rules.Cell.{cell_at}
use Rattle.std.proofs.Common.{ℕ, ◌+◌, ◌*◌, ap₂, arith}
use Rattle.course.proofs.cell.cell_at.Goals as goal

pub overflow_mul-result : goal.overflow_mul-result
overflow_mul-result c = omega (arith, c.cell_of.ensures, cell-high c.args.y)

pub overflow_add-result : goal.overflow_add-result
overflow_add-result c = omega (arith, c.cell_of.ensures, c.cell_of-2.ensures, cell-high c.args.y, cell-high c.args.x)

pub returns : goal.returns
unfolding cell_at
returns c = ap₂ (λ (r s : ℕ). r * grid_dim + s) c.cell_of.ensures c.cell_of-2.ensures
