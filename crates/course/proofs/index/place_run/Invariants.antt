-- `course::index::place_run` meets its contract. Assumes nothing.
use Rattle.course.specs.Steps.Index.{RunPlaced}
use Rattle.course.proofs.index.place_run.Given as goal

abbrev pub invariant-loop-cursor : goal.invariant-loop-cursor
invariant-loop-cursor l = RunPlaced l.initial.run l.initial.l l.run l.l l.id 0 l.cursor-index
