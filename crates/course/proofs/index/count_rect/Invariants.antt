-- `course::index::count_rect` meets its contract. Assumes nothing.
use Rattle.course.specs.Rules.Constants.{grid_dim}
use Rattle.course.specs.Grader.Rect.{rect_as}
use Rattle.std.proofs.Common.{◌*◌, ◌≤◌}
use Rattle.course.proofs.RowSweeps.{CountedTo}
use Rattle.course.proofs.index.count_rect.Given as goal

abbrev pub invariant-loop-y : goal.invariant-loop-y
invariant-loop-y l = CountedTo 2 l.initial.o l.o (rect_as l.r) (l.y * grid_dim) × (l.y ≤ grid_dim)
