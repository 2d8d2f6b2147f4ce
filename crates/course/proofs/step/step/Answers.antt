-- `course::step::step` meets its contract: what it sees, then the checkpoint, then the turn, each in its turn. Assumes nothing.
use Rattle.std.proofs.Common.{◌≡◌, ℕ, Option, Some, None, refl, ap, ◌∙◌}
use lib.Ieee.{Float}
use Rattle.std.proofs.lemmas.Option.{same_Some}
use Rattle.course.specs.Rules.Trig.{SinCos, sin_cos_of}
use Rattle.course.specs.Rules.Finder.{Destination, dest_of}
use Rattle.course.specs.Rules.Step.{Walk, Sight, proj_of, steered, landed_of, then_landed, then_moved, step_of}
use Rattle.course.specs.Steps.Numbers.{sin_cos_as}
use Rattle.course.specs.Steps.Lay.{dest_as, walk_as, stepped_as, sight_as, turned_beta}
use Rattle.course.proofs.step.step.Goals as goal
use Rattle.course.proofs.step.step.Goals.{After-look-s}

-- the step once the walk has seen itself
seen : (c : After-look-s) → then_moved (walk_as c.args.w) (sight_as c.look-s.result) (dest_of c.args.cs.now c.args.w.dest c.look-s.result.alpha) ≡ step_of c.args.cs.now (walk_as c.args.w)
unfolding step_of
seen c = ap (λ (s : Sight). then_moved (walk_as c.args.w) s (dest_of c.args.cs.now c.args.w.dest s.alpha)) c.look-s.ensures

-- the step once beta is turned, or may not be turned so often
refused : (w : Walk) (s : Sight) (d : Destination) (o : Option (Float × ℕ)) → None ≡ turned_beta o → None ≡ then_landed w s d o
unfolding then_landed
refused w s d None e = refl
refused w s d (Some t) e = cc

turned : (w : Walk) (s : Sight) (d : Destination) (o : Option (Float × ℕ)) (b : Float) → Some b ≡ turned_beta o
    → landed_of w s (sin_cos_of w.beta) d b (steered b (proj_of w (sin_cos_of w.beta) d.checkpoint)) ≡ then_landed w s d o
unfolding then_landed
turned w s d None b e = cc
turned w s d (Some t) b e = ap (λ (z : Float). landed_of w s (sin_cos_of w.beta) d z (steered z (proj_of w (sin_cos_of w.beta) d.checkpoint))) (same_Some b t.0 e)

pub returns-in_err-d : goal.returns-in_err-d
unfolding then_moved
returns-in_err-d c =
    ap stepped_as c.from_residual.ensures ∙ ap (then_moved (walk_as c.args.w) (sight_as c.look-s.result)) c.in_err-d.ensures ∙ seen (goal.at.returns-in_err-d c).After-look-s

pub returns-in_err-b : goal.returns-in_err-b
unfolding then_landed then_moved
returns-in_err-b c =
    ap stepped_as c.from_residual-in_err-b.ensures ∙ refused (walk_as c.args.w) (sight_as c.look-s.result) (dest_as c.in_ok-d.d) _ c.in_err-b.ensures
    ∙ ap (then_moved (walk_as c.args.w) (sight_as c.look-s.result)) c.in_ok-d.ensures ∙ seen (goal.at.returns-in_err-b c).After-look-s

pub returns : goal.returns
unfolding then_landed then_moved
returns c =
    let w : Walk = walk_as c.args.w in
    let s : Sight = sight_as c.look-s.result in
    let d : Destination = dest_as c.in_ok-d.d in
    let b : Float = c.in_ok-b.b in
    c.landed.ensures
    ∙ ap (λ (z : Float). landed_of w s (sin_cos_as c.turned-h.result) d b z) (c.steer.ensures ∙ ap (λ (z : Float). steered b z) c.proj.ensures)
    ∙ ap (λ (z : SinCos). landed_of w s z d b (steered b (proj_of w z d.checkpoint))) c.turned-h.ensures
    ∙ turned w s d _ b c.in_ok-b.ensures ∙ ap (then_moved w s) c.in_ok-d.ensures
    ∙ seen (goal.at.returns c).After-look-s
