-- `course::walk::walk_round` meets its contract. Assumes nothing.
use Rattle.std.proofs.Common.{sym, arith}
use Rattle.course.proofs.WalkSteps.{room-of, same-none, begun, walked-full, walked-refused, walked_end, walked_on}
use Rattle.course.proofs.walk.walk_round.Goals as goal

pub loop-k-init : goal.loop-k-init
loop-k-init c = record { same = same-none _; walking = begun _ _ _ _ c.start-w.ensures (room-of _ c.args.cols.now (omega arith)); turns = c.quarter_turns-t.ensures }

pub returns-in_err-p-clause-trod : goal.returns-in_err-p-clause-trod
returns-in_err-p-clause-trod c = rw c.from_residual.ensures (walked-refused c.loop-k.invariant.walking c.loop-k-test.true (sym c.in_err-p.ensures))

pub returns-then-next-gt4-clause-trod : goal.returns-then-next-gt4-clause-trod
returns-then-next-gt4-clause-trod c = walked_end c.loop-k.invariant.walking c.loop-k-test.true (sym c.in_ok-p.ensures) c.if-next-gt4.true

pub loop-k-preserved : goal.loop-k-preserved
loop-k-preserved c =
    let s = c.loop-k.invariant in
    record { same = record { alpha = s.same.alpha; beta = s.same.beta; x = s.same.x; y = s.same.y }; walking = walked_on _ _ _ _ _ _ s.walking _ _ c.loop-k-test.true (sym c.in_ok-p.ensures) c.if-next-gt4.false; turns = c.quarter_turns_from-t.ensures }

pub returns-clause-trod : goal.returns-clause-trod
returns-clause-trod c = walked-full c.loop-k.invariant.walking c.loop-k-test.false
