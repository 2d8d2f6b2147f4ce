-- `course::walk::start` meets its contract. Assumes nothing.
use Rattle.course.proofs.Literals.{far-rad-bits}
use Rattle.course.specs.Rules.Walk.{walk_start}
use Rattle.course.proofs.walk.start.Goals as goal

pub returns : goal.returns
unfolding walk_start
returns c = simp (far-rad-bits)
