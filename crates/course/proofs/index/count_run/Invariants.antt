-- `course::index::count_run` meets its contract. Assumes nothing.
use Rattle.course.specs.Steps.Index.{RunCounted}
use Rattle.course.proofs.index.count_run.Given as goal

abbrev pub invariant-loop-count : goal.invariant-loop-count
invariant-loop-count l = RunCounted l.initial.run l.run 0 l.count-index
