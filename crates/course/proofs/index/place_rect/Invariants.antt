-- `course::index::place_rect` meets its contract. Assumes nothing.
use Rattle.course.specs.Rules.Constants.{grid_dim}
use Rattle.course.specs.Grader.Rect.{rect_as}
use Rattle.std.proofs.Common.{◌*◌, ◌≤◌}
use Rattle.course.proofs.RowSweeps.{PlacedTo}
use Rattle.course.proofs.index.place_rect.Given as goal

abbrev pub invariant-loop-y : goal.invariant-loop-y
invariant-loop-y l = PlacedTo l.initial.o l.initial.l l.o l.l l.id (rect_as l.r) (l.y * grid_dim) × (l.y ≤ grid_dim)
