-- `course::index::pack_and_sum` meets its contract. Assumes nothing.
use Rattle.course.specs.Steps.Index.{RectsPacked}
use Rattle.std.proofs.Common.{◌≡◌}
use Rattle.course.specs.Rules.Rect.{needed}
use Rattle.course.proofs.index.pack_and_sum.Given as goal

abbrev pub invariant-loop-i : goal.invariant-loop-i
invariant-loop-i l = (l.sum ≡ needed l.tiles l.i) × RectsPacked l.tiles l.i l.rects
