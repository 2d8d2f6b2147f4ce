-- `course::walk::walk_round` meets its contract. Assumes nothing.
use Rattle.std.proofs.Common.{◌≡◌}
use Rattle.course.specs.Rules.Lengths.{step_limit}
use Rattle.course.specs.Rules.Trig.{turns_of}
use Rattle.course.specs.Steps.Numbers.{turns_at}
use Rattle.course.specs.Steps.Lay.{walk_as, columns_of, SameColumns}
use Rattle.course.proofs.WalkSteps.{Walking}
use Rattle.course.proofs.walk.walk_round.Given as goal

abbrev pub invariant-loop-k : goal.invariant-loop-k
invariant-loop-k l = record {
  same : SameColumns l.initial.cols l.cols;
  walking : Walking step_limit l.cs (columns_of l.initial.cols) (columns_of l.cols) (walk_as l.w) l.k;
  turns : l.t ≡ turns_at (turns_of l.w.beta);
}
