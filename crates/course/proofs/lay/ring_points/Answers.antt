-- `course::lay::ring_points` meets its contract. Assumes nothing.
use Rattle.std.proofs.Common.{◌≡◌, arith}
use Rattle.course.proofs.Generating.{ring-none, ring-more, ring-all}
use Rattle.course.proofs.WalkSteps.{room-of, same-none}
use Rattle.course.proofs.lay.ring_points.Goals as goal

pub loop-i-init : goal.loop-i-init
loop-i-init c = record { same = same-none _; ringing = ring-none _ (room-of _ c.args.cols.now (omega arith)) }

pub loop-i-preserved : goal.loop-i-preserved
loop-i-preserved c =
    let s = c.loop-i.invariant in
    record { same = record { alpha = s.same.alpha; beta = s.same.beta; x = s.same.x; y = s.same.y }; ringing = ring-more c.loop-i-test.true c.ring_point-p.ensures s.ringing }

pub returns-clause-ringed : goal.returns-clause-ringed
returns-clause-ringed c =
    let l = c.loop-i in
    let all : l.i ≡ 100 = omega arith in
    ring-all all l.invariant.ringing
