-- `run::numbers::write_four` meets its contract. Assumes nothing.
use Rattle.run.proofs.NumberLaws.{Written}
use Rattle.run.proofs.numbers.write_four.Given as goal

abbrev pub invariant-loop-w : goal.invariant-loop-w
invariant-loop-w g l = Written g.T.Numbers.list g.T.Numbers.COUNT l.record-items l.initial.numbers l.numbers l.w
