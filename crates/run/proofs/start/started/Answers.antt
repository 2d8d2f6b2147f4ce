-- `run::start::started` meets its contract. Assumes nothing.
use Rattle.run.proofs.CallLaws.{start-facts, start-refused, start-accepted}
use Prim.Native.Nat.{ℕ}
use mathlib.Core.List.{List}
use Rattle.run.specs.Grader.Touch.{touched_by}
use Rattle.run.specs.Rules.Wheel.{quad_of}
use Rattle.run.specs.Grader.Contact.{contact_of}
use Rattle.run.specs.Grader.Widths.{most_tiles, full_words}
use Rattle.run.specs.Grader.State.{State, view, lent_columns}
use lib.Dec.{lit≤}
use Rattle.std.proofs.lemmas.Result.{err_from_is_err_and}
use mathlib.Core.Path.{ap, ap₂, ◌∙◌}
use Rattle.run.specs.Grader.Start.{setup_of, first_contact, zero_state}
use Rattle.run.proofs.start.started.Goals as goal

pub returns-in_err-stance : goal.returns-in_err-stance
returns-in_err-stance c =
    let p = err_from_is_err_and c.from_residual.result c.from_residual.ensures.1 in
    rw (p.1, p.2, c.requires) (start-refused full_words most_tiles (lent_columns c.args.columns) c.args.settings _ c.in_err-stance.ensures)

pub invariant_of-course : goal.invariant_of-course
invariant_of-course c =
    let h = start-facts most_tiles (lent_columns c.args.columns) c.args.settings (lit≤ tt) c.in_ok-stance.ensures.passed in
    record { some = h.some; few = h.few; lent = h.lent }

pub full_contact-c-requires : goal.full_contact-c-requires
full_contact-c-requires c =
    let s = c.in_ok-stance.ensures in
    rw s.poses (start-facts most_tiles (lent_columns c.args.columns) c.args.settings (lit≤ tt) s.passed).sound

pub returns : goal.returns
unfolding view setup_of first_contact zero_state
returns c =
    let s = c.in_ok-stance.ensures in
    let t = c.full_contact-c in
    let l = lent_columns c.args.columns in
    let zeros = c.requires in
    start-accepted full_words most_tiles l c.args.settings _ _ t.result.fresh t.result.zero c.update_lap-lap.result c.first_progress-run.result
    _ _ s.passed
    (t.ensures ∙ ap₂ (λ (a b : List ℕ). contact_of full_words a b (λ w. touched_by l.tiles l.offsets l.list (quad_of c.in_ok-stance.stance.poses w))) (ap (λ (x : State). x.credited) zeros) (ap (λ (x : State). x.wheels) zeros) ∙ ap (first_contact full_words l) s.poses)
    c.update_lap-lap.ensures c.first_progress-run.ensures (ap (λ (x : State). x.car) zeros) c.put_poses.ensures
