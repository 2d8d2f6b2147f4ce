-- `abi::numbers::grader_cell` meets its contract. Assumes nothing.
use Rattle.course.proofs.Cells.{cell-high}
use native.Mathlib.Omega.{arith}
use Rattle.abi.proofs.numbers.grader_cell.Goals as goal

pub overflow_cast-result : goal.overflow_cast-result
overflow_cast-result c =
    let h = cell-high c.args.v in omega (arith, h)
