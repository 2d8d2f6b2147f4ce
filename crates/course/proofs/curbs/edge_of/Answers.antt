-- `course::curbs::edge_of` meets its contract. Assumes nothing.
use Rattle.course.proofs.Turned.{cos-is, sin-is}
use Rattle.course.specs.Grader.Curbs.{edge_of}
use Rattle.course.proofs.curbs.edge_of.Goals as goal

pub returns : goal.returns
unfolding edge_of
returns c = simp (← cos-is _ _ c.requires, ← sin-is _ _ c.requires)
