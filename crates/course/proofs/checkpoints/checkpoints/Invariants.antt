-- `course::checkpoints::checkpoints` meets its contract. Assumes nothing.
use Rattle.course.proofs.CheckpointDraws.{Drawing}
use Rattle.course.proofs.checkpoints.checkpoints.Given as goal

abbrev pub invariant-loop-c : goal.invariant-loop-c
invariant-loop-c l = Drawing 12 l.initial.g l.place-items l.g l.c
