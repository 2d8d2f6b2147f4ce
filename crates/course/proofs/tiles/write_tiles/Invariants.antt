-- `course::tiles::write_tiles` meets its contract. Assumes nothing.
use Rattle.course.proofs.ColumnLaws.{Grown}
use Rattle.course.specs.Rules.Tiles.{point_at, points_of, before_of, tiles_to}
use Rattle.course.specs.Steps.Tiles.{edges_at}
use Rattle.std.proofs.Common.{◌≡◌, ◌*◌}
use Rattle.course.proofs.tiles.write_tiles.Given as goal

abbrev pub invariant-loop-i : goal.invariant-loop-i
invariant-loop-i l = (l.last ≡ edges_at (point_at l.points.beta.now l.points.x.now l.points.y.now (before_of l.points.count l.i))) × Grown (tiles_to (points_of l.points.beta.now l.points.x.now l.points.y.now l.points.count) l.i) l.tiles l.initial.tiles (l.i * 8)
