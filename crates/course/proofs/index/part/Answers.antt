-- `course::index::part` meets its contract. Assumes nothing.
use Rattle.std.proofs.Common.{arith}
use Rattle.course.proofs.IndexLaws.{part-short, part-read}
use Rattle.course.proofs.index.part.Goals as goal

pub returns-in_err-from : goal.returns-in_err-from
returns-in_err-from c = rw c.from_residual.ensures (part-short _ _ _ (omega (arith, c.in_err-from.ensures.lookup.3)))

pub returns-in_err-to : goal.returns-in_err-to
returns-in_err-to c = rw c.from_residual-in_err-to.ensures (part-short _ _ _ c.in_err-to.ensures.lookup.3)

pub returns : goal.returns
returns c =
    let from = c.in_ok-from.ensures.lookup.3 in
    let to = c.in_ok-to.ensures.lookup.3 in
    part-read _ _ _ _ _ _ to.0 (from.1 0) (to.1 0) c.get-3.ensures.lookup
