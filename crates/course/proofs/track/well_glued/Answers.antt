-- `course::track::well_glued` meets its contract. Assumes nothing.
use Rattle.course.proofs.Literals.{step-bits}
use Rattle.course.proofs.Turned.{cos-is, sin-is}
use Rattle.course.specs.Rules.Track.{glued_of}
use Rattle.course.proofs.track.well_glued.Goals as goal

pub returns : goal.returns
unfolding glued_of
returns c =
    let t = c.sin_cos-t in simp (step-bits, ← cos-is _ _ t.ensures, ← sin-is _ _ t.ensures, ← c.sqrt.ensures)
