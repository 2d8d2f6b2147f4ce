-- `course::checkpoints::checkpoints` meets its contract. Assumes nothing.
use Rattle.std.proofs.Common.{◌≡◌, ℕ, ◌*◌, refl, ap, ◌∙◌, arith}
use Rattle.rng.specs.Rules.SplitMix.{after}
use Rattle.course.proofs.CheckpointDraws.{drawing-none, one_more, all-drawn}
use Rattle.course.proofs.checkpoints.checkpoints.Goals as goal

pub loop-c-init : goal.loop-c-init
loop-c-init c = drawing-none _ _ 12 refl

pub loop-c-preserved : goal.loop-c-preserved
loop-c-preserved c =
    let d = c.uniform-noise.ensures in
    let e = c.uniform-rad.ensures in
    one_more 12 _ c.loop-c-test.true c.loop-c.invariant d.value d.state e.value e.state c.one_checkpoint.ensures

pub returns-clause-value : goal.returns-clause-value
returns-clause-value c =
    let at : c.loop-c.c ≡ 12 = omega arith in
    all-drawn 12 _ at c.loop-c.invariant

pub returns-clause-state : goal.returns-clause-state
returns-clause-state c =
    let at : c.loop-c.c ≡ 12 = omega arith in
    c.loop-c.invariant.state ∙ ap (λ (n : ℕ). after (2 * n) c.args.g.now) at
