-- `course::curbs::write_curbs` meets its contract. Assumes nothing.
use Rattle.course.specs.Steps.Tiles.{CurbsTo}
use Rattle.course.proofs.curbs.write_curbs.Given as goal

abbrev pub invariant-loop-i : goal.invariant-loop-i
invariant-loop-i l = CurbsTo l.points.beta.now l.points.x.now l.points.y.now l.points.count l.i l.m l.initial.quads l.initial.white l.quads l.white
