-- `course::checkpoints::spot` meets its contract. Assumes nothing.
use Rattle.course.proofs.Turned.{cos-is, sin-is}
use Rattle.course.specs.Rules.Checkpoints.{spot_of}
use Rattle.course.proofs.checkpoints.spot.Goals as goal

pub returns : goal.returns
unfolding spot_of
returns c =
    let t = c.sin_cos-t in simp (← cos-is _ _ t.ensures, ← sin-is _ _ t.ensures)
