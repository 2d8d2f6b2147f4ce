-- `course::lay::ring_point` meets its contract. Assumes nothing.
use Rattle.course.proofs.Literals.{tau-bits, rad-bits, natural-is}
use Rattle.course.proofs.Turned.{cos-is, sin-is}
use Rattle.course.specs.Rules.Lay.{ring_point}
use Rattle.course.proofs.lay.ring_point.Goals as goal

pub returns : goal.returns
unfolding ring_point
returns c =
    let t = c.sin_cos-t in simp (tau-bits, rad-bits, natural-is c.args.i, natural-is 100, ← c.from.ensures, ← c.from-2.ensures, ← cos-is _ _ t.ensures, ← sin-is _ _ t.ensures)
