-- `course::index::count_all` meets its contract. Assumes nothing.
use Rattle.course.specs.Steps.Index.{Counts, held_in}
use Rattle.course.proofs.index.count_all.Given as goal

abbrev pub invariant-loop-v : goal.invariant-loop-v
invariant-loop-v l = Counts (held_in l.rects.numbers.now) l.v-index l.o
