-- `course::index::place_all` meets its contract. Assumes nothing.
use Rattle.std.proofs.Common.{length}
use Rattle.course.specs.Steps.Index.{Placed, held_in}
use Rattle.course.proofs.index.place_all.Given as goal

abbrev pub invariant-loop-i : goal.invariant-loop-i
invariant-loop-i l = Placed (held_in l.rects.numbers.now) (length l.rects.numbers.now) l.i l.o l.l
