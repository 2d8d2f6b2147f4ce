-- `course::index::sum_up` meets its contract. Assumes nothing.
use Rattle.std.proofs.Common.{◌≡◌}
use Rattle.course.specs.Steps.Index.{sum_below}
use Rattle.course.proofs.CellRuns.{SummedTo}
use Rattle.course.proofs.index.sum_up.Given as goal

abbrev pub invariant-loop-offset : goal.invariant-loop-offset
invariant-loop-offset l = SummedTo l.initial.o l.o l.offset-index × (l.sum ≡ sum_below l.initial.o l.offset-index)
