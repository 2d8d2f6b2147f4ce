-- `course::step::proj` meets its contract. Assumes nothing.
use Rattle.course.proofs.Literals.{scale-bits}
use Rattle.course.specs.Rules.Step.{proj_of}
use Rattle.course.proofs.step.proj.Goals as goal

pub returns : goal.returns
unfolding proj_of
returns c = simp (scale-bits)
