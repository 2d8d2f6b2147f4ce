-- `certificate::replay::replies` meets its contract. Assumes nothing.
use Rattle.std.specs.Iterator.Adapters.{enumerate_count}
use Rattle.run.specs.Grader.State.{view, lent_columns}
use Rattle.run.proofs.PairLaws.{Paired}
use Rattle.certificate.proofs.CallColumnLaws.{Replying, call_parts, given_parts}
use Rattle.run.specs.Grader.Widths.{full_words, most_tiles}
use Rattle.certificate.proofs.replay.replies.Given as goal

abbrev pub invariant-loop-i : goal.invariant-loop-i
invariant-loop-i l =
    Paired l.calls.many (call_parts l.calls.words.now) (given_parts l.calls.numbers.now) l.i-iterator
    × Replying full_words most_tiles (lent_columns l.columns) l.calls.words.now l.calls.numbers.now (view l.initial.run) l.initial.words l.initial.numbers l.calls.many
    (view l.run) l.words l.numbers (enumerate_count l.i-iterator)
