-- `run::restore::restored` meets its contract. Assumes nothing.
use lib.Dec.{lit≤}
use mathlib.Core.Path.{sym, ap, ◌∙◌}
use Rattle.std.specs.Result.{result_ok}
use Rattle.std.proofs.lemmas.Result.{err_from_is_err_and}
use Rattle.run.specs.Grader.Widths.{most_tiles, full_words}
use Rattle.run.specs.Grader.State.{view, lent_columns}
use Rattle.run.specs.Grader.Contact.{Contacted}
use Rattle.run.specs.Grader.Start.{first_contact}
use Rattle.run.specs.Steps.Load.{fields_as}
use Rattle.run.proofs.CheckLaws.{not-there}
use Rattle.run.proofs.LoadLaws.{not-loaded, is-loaded, kept-sound}
use Rattle.run.proofs.RestoreLaws.{restore-facts, run-restored, restore-none, restore-refused, restore-accepted}
use Rattle.run.proofs.restore.restored.Goals as goal

pub returns-in_err-f : goal.returns-in_err-f
returns-in_err-f c =
    let a = c.args in
    let p = err_from_is_err_and c.from_residual.result c.from_residual.ensures.1 in
    let q = not-there c.load.result c.ok_or.ensures.value c.in_err-f.was in
    rw (p.1, p.2, q.1, c.requires) (restore-none full_words most_tiles a.bytes.now (lent_columns a.columns) a.n (not-loaded q.0 c.load.ensures))

pub returns-in_err-stance : goal.returns-in_err-stance
returns-in_err-stance c =
    let loaded_at = is-loaded (c.ok_or.ensures.ok_part ∙ ap result_ok c.in_ok-f.was) c.load.ensures in
    let a = c.args in
    let p = err_from_is_err_and c.from_residual-in_err-stance.result c.from_residual-in_err-stance.ensures.1 in
    rw (p.1, p.2, c.requires) (restore-refused full_words most_tiles a.bytes.now (lent_columns a.columns) a.n _ _ loaded_at c.in_err-stance.ensures)

pub invariant_of-course : goal.invariant_of-course
invariant_of-course c =
    let kept-is = kept-sound full_words most_tiles _ _ (sym (is-loaded (c.ok_or.ensures.ok_part ∙ ap result_ok c.in_ok-f.was) c.load.ensures)) in
    let h = restore-facts most_tiles _ _ _ (lit≤ tt) kept-is c.in_ok-stance.ensures.passed in
    record { some = h.some; few = h.few; lent = h.lent }

pub full_contact-requires : goal.full_contact-requires
full_contact-requires c =
    let loaded_at = is-loaded (c.ok_or.ensures.ok_part ∙ ap result_ok c.in_ok-f.was) c.load.ensures in
    let f = fields_as c.in_ok-f.f in
    let a = c.args in
    let s = c.in_ok-stance.ensures in
    let kept-is = kept-sound full_words most_tiles a.bytes.now f (sym loaded_at) in
    let h = restore-facts most_tiles (lent_columns a.columns) a.n f (lit≤ tt) kept-is s.passed in
    rw s.poses h.sound

pub returns : goal.returns
unfolding first_contact
returns c =
    let loaded_at = is-loaded (c.ok_or.ensures.ok_part ∙ ap result_ok c.in_ok-f.was) c.load.ensures in
    let f = fields_as c.in_ok-f.f in
    let a = c.args in
    let s = c.in_ok-stance.ensures in
    let touched = ap (λ (x : Contacted). x.wheels) (c.full_contact.ensures ∙ ap (first_contact full_words (lent_columns a.columns)) s.poses) in
    let made = run-restored full_words (lent_columns a.columns) f (view c.run_of.result) _ c.run_of.ensures touched in
    restore-accepted full_words most_tiles a.bytes.now (lent_columns a.columns) a.n (view c.run_of.result) f loaded_at s.passed made
