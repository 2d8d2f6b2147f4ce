-- `course::lay::ring_points` meets its contract. Assumes nothing.
use Rattle.course.specs.Steps.Lay.{columns_of, SameColumns}
use Rattle.course.proofs.Generating.{Ringing}
use Rattle.course.proofs.lay.ring_points.Given as goal

abbrev pub invariant-loop-i : goal.invariant-loop-i
invariant-loop-i l = record { same : SameColumns l.initial.cols l.cols; ringing : Ringing (columns_of l.initial.cols) (columns_of l.cols) l.i }
