-- `course::lay::attempt` meets its contract: what the walk and the moves leave in the columns is what `Attempts` says. Assumes nothing.
use Rattle.std.proofs.Common.{refl, sym}
use Rattle.course.proofs.Attempts.{walked, some, front, attempt-refused, attempt-none, attempt-good}
use Rattle.course.proofs.lay.attempt.Goals as goal

pub returns-in_err-len-clause-in_front : goal.returns-in_err-len-clause-in_front
returns-in_err-len-clause-in_front c = rw c.from_residual.ensures (attempt-refused c.in_err-len.ensures.trod refl)

pub cut-requires : goal.cut-requires
cut-requires c = some c.in_ok-len.ensures.trod refl

pub returns-in_err-p-clause-in_front : goal.returns-in_err-p-clause-in_front
returns-in_err-p-clause-in_front c =
    let d = c.in_ok-len.ensures.trod in
    let none = c.in_err-p.ensures.cut _ (sym (walked d refl).1) (front d) in
    rw c.from_residual-in_err-p.ensures (attempt-none d refl none)

pub returns-clause-in_front : goal.returns-clause-in_front
returns-clause-in_front c =
    let d = c.in_ok-len.ensures.trod in
    let whole = c.in_ok-p.ensures.cut _ (sym (walked d refl).1) (front d) in
    attempt-good d refl c.in_ok-p.ensures.n_bound whole c.shift.ensures c.shift-2.ensures c.shift-3.ensures
