-- `run::words::credit` meets its contract. Assumes nothing.
use Rattle.std.specs.Int.{div_ceil}
use Rattle.std.specs.Iterator.Adapters.{enumerate_count}
use Rattle.run.proofs.CreditLaws.{Credited}
use Rattle.run.proofs.PairLaws.{Paired}
use Rattle.run.proofs.words.credit.Given as goal

abbrev pub invariant-loop-i : goal.invariant-loop-i
invariant-loop-i l =
    Paired (div_ceil l.n 64) l.wheel l.before l.i-iterator
    × Credited l.initial.credited l.before l.wheel l.credited l.fresh (enumerate_count l.i-iterator)
