-- `course::step::landed` meets its contract. Assumes nothing.
use Rattle.course.proofs.Literals.{sixteen, step-bits, half-bits}
use Rattle.course.specs.Rules.Step.{landed_of}
use Rattle.course.proofs.step.landed.Goals as goal

pub returns-then-not-inside : goal.returns-then-not-inside
unfolding landed_of
returns-then-not-inside c = simp (sixteen, ← c.inside.ensures, c.if-not-inside.true)

pub returns : goal.returns
unfolding landed_of
returns c = simp (sixteen, ← c.inside.ensures, c.if-not-inside.false, step-bits, half-bits)
