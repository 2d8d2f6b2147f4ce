-- `run::settle::settle_parts` meets its contract. Assumes nothing.
use mathlib.Core.Path.{sym}
use native.Mathlib.Omega.{arith}
use lib.Dec.{lit≤}
use Rattle.std.proofs.lemmas.Result.{err_from_is_err_and}
use Rattle.run.specs.Grader.State.{lent_columns}
use Rattle.run.specs.Grader.Widths.{full_words, most_tiles}
use Rattle.run.proofs.CallLaws.{settle-facts, settle-refused, settle-accepted, contact-few}
use Rattle.run.proofs.settle.settle_parts.Goals as goal

pub returns-in_err-stance : goal.returns-in_err-stance
returns-in_err-stance c =
    let p = err_from_is_err_and c.from_residual.result c.from_residual.ensures.1 in
    rw (p.1, p.2) (settle-refused full_words most_tiles _ _ _ _ _ c.in_err-stance.ensures)

pub invariant_of-course : goal.invariant_of-course
invariant_of-course c =
    let h = (settle-facts most_tiles _ _ _ _ _ _ (lit≤ tt) c.in_ok-stance.ensures.passed).contact in
    record { some = h.some; few = h.few; lent = h.lent }

pub full_contact-c-requires : goal.full_contact-c-requires
full_contact-c-requires c =
    let s = c.in_ok-stance.ensures in
    rw s.poses (settle-facts most_tiles _ _ _ _ _ _ (lit≤ tt) s.passed).contact.sound

pub settled_progress-next-requires : goal.settled_progress-next-requires
settled_progress-next-requires c =
    let a = c.args in
    let h = settle-facts most_tiles a.setup a.progress.now (lent_columns a.columns) a.places.x a.places.y a.places.poses (lit≤ tt) c.in_ok-stance.ensures.passed in
    (omega (arith, h.contact.few, h.count, contact-few full_words _ _ _ c.full_contact-c.ensures), h.time)

pub returns : goal.returns
returns c =
    let s = c.in_ok-stance.ensures in
    settle-accepted _
    (record {
      none = s.passed;
      contact = rw (sym s.poses) c.full_contact-c.ensures;
      off = c.is_off-off.ensures;
      progress = c.settled_progress-next.ensures;
      poses = c.put_poses.ensures;
    })
