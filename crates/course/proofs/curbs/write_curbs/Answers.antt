-- `course::curbs::write_curbs` meets its contract. Assumes nothing.
use Rattle.course.proofs.CurbLaws.{curbs-none, curbs-more}
use Rattle.std.proofs.Common.{arith}
use Rattle.course.proofs.curbs.write_curbs.Goals as goal

pub loop-i-init : goal.loop-i-init
loop-i-init c = curbs-none _ _ _ _ _ _

pub loop-i-preserved : goal.loop-i-preserved
loop-i-preserved c =
    let l = c.loop-i in
    let t = c.loop-i-test.true in
    let r = c.requires in
    curbs-more _ _ _ _ _ _ l.i _ _ _ _ _ _ (omega (arith, t, r.0, r.1)) (omega (arith, t, r.0, r.2)) l.invariant c.put_curb-m.ensures
