-- `course::lay::first_attempt` meets its contract. Assumes nothing.
use Rattle.course.specs.Steps.Lay.{columns_of, SameColumns}
use Rattle.course.proofs.Generating.{Trying}
use Rattle.course.proofs.lay.first_attempt.Given as goal

abbrev pub invariant-loop-k : goal.invariant-loop-k
invariant-loop-k l = record { same : SameColumns l.initial.cols l.cols; trying : Trying l.attempts l.seed (columns_of l.initial.cols) (columns_of l.cols) l.g l._k }
