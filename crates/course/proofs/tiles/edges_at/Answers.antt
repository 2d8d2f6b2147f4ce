-- `course::tiles::edges_at` meets its contract. Assumes nothing.
use Rattle.course.proofs.Turned.{cos-is, sin-is}
use Rattle.course.proofs.Literals.{width-bits}
use Rattle.course.specs.Steps.Tiles.{edges_at}
use Rattle.course.proofs.tiles.edges_at.Goals as goal

pub returns : goal.returns
unfolding edges_at
returns c = simp (width-bits, ← cos-is _ _ c.sin_cos-t.ensures, ← sin-is _ _ c.sin_cos-t.ensures)
