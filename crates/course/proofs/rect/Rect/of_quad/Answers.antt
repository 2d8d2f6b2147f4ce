-- `course::rect::Rect::of_quad` meets its contract. Assumes nothing.
use Rattle.std.proofs.Common.{ap, ◌∙◌, arith}
use Rattle.course.proofs.Cells.{cell-high}
use Rattle.course.proofs.CourseRects.{rect-same}
use Rattle.course.specs.Rules.Rect.{least_x, least_y, greatest_x, greatest_y}
use Rattle.course.specs.Rules.Cell.{cell_of}
use Rattle.course.proofs.rect.Rect.of_quad.Goals as goal

-- the sides are cells' columns and rows
pub invariant_of-result : goal.invariant_of-result
invariant_of-result c = record { left = omega (arith, cell-high); bottom = omega (arith, cell-high); right = omega (arith, cell-high); top = omega (arith, cell-high) }

pub returns : goal.returns
unfolding least_x least_y greatest_x greatest_y
returns c =
    rect-same
    (c.cell_of-x0.ensures ∙ ap cell_of c.least.ensures)
    (c.cell_of-x1.ensures ∙ ap cell_of c.greatest.ensures)
    (c.cell_of-y0.ensures ∙ ap cell_of c.least-2.ensures)
    (c.cell_of-y1.ensures ∙ ap cell_of c.greatest-2.ensures)
