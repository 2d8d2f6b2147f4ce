-- `course::track::cut` meets its contract: the two searches find the passes of the walk in front of the columns. Assumes nothing.
use Rattle.std.proofs.Common.{sym, ◌∙◌}
use Rattle.course.proofs.TrackParts.{cut-no-later, cut-no-earlier, cut-empty, cut_apart, cut-good}
use Rattle.course.proofs.track.cut.Goals as goal

pub returns-in_err-i2-clause-cut : goal.returns-in_err-i2-clause-cut
returns-in_err-i2-clause-cut c ps e f = rw c.from_residual.ensures (cut-no-later f c.requires.0 e c.in_err-i2.ensures.value)

pub returns-in_err-i1-clause-cut : goal.returns-in_err-i1-clause-cut
returns-in_err-i1-clause-cut c ps e f =
    let s = c.in_ok-i2.ensures in
    rw c.from_residual-in_err-i1.ensures (cut-no-earlier f c.requires.0 e s.value s.bounds.1 c.in_err-i1.ensures.value)

pub returns-then-n-eq0-clause-cut : goal.returns-then-n-eq0-clause-cut
returns-then-n-eq0-clause-cut c ps e f =
    let s = c.in_ok-i2.ensures in
    cut-empty f c.requires.0 e s.value s.bounds.1 c.in_ok-i1.ensures.value c.if-n-eq0.true

pub returns-then-well_glued-clause-cut : goal.returns-then-well_glued-clause-cut
returns-then-well_glued-clause-cut c ps e f =
    let s = c.in_ok-i2.ensures in
    cut-good f c.requires.0 e s.value s.bounds.1 c.in_ok-i1.ensures.value c.if-n-eq0.false (sym c.well_glued.ensures ∙ c.if-well_glued.true)

pub returns-clause-cut : goal.returns-clause-cut
returns-clause-cut c ps e f =
    let s = c.in_ok-i2.ensures in
    cut_apart f c.requires.0 e s.value s.bounds.1 c.in_ok-i1.ensures.value c.if-n-eq0.false (sym c.well_glued.ensures ∙ c.if-well_glued.false)
