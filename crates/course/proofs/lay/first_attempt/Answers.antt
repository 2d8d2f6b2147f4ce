-- `course::lay::first_attempt` meets its contract. Assumes nothing.
use Rattle.std.proofs.Common.{refl}
use Rattle.course.proofs.Generating.{trying-none, trying-more, reached-here, reached-none}
use Rattle.course.proofs.WalkSteps.{same-none, same-then}
use Rattle.course.proofs.lay.first_attempt.Goals as goal

pub loop-k-init : goal.loop-k-init
loop-k-init c = record { same = same-none _; trying = trying-none c.from_seed-g.ensures }

pub returns-in-Some-clause-in_front : goal.returns-in-Some-clause-in_front
returns-in-Some-clause-in_front c = reached-here c.loop-k.invariant.trying c.loop-k-test.true c.in-Some.ensures.in_front c.in-Some.ensures.some

pub loop-k-preserved : goal.loop-k-preserved
loop-k-preserved c =
    let s = c.loop-k.invariant in
    let t = c.try_generate.ensures in
    record { same = same-then s.same t.same; trying = trying-more s.trying c.loop-k-test.true c.in_default.ensures.in_front t.rng_value refl }

pub returns-clause-in_front : goal.returns-clause-in_front
returns-clause-in_front c = reached-none c.loop-k.invariant.trying c.loop-k-test.false
