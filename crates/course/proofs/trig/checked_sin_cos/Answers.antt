-- `course::trig::checked_sin_cos` meets its contract. Assumes nothing.
use Rattle.std.proofs.Common.{sym}
use lib.Ieee.{of_bits, of_int}
use Rattle.course.specs.Rules.Arithmetic.{natural}
use Rattle.course.specs.Grader.Cause.{check}
use Rattle.course.specs.Grader.Angle.{answer, angle_cause, sine_call, cosine_call}
use Rattle.course.proofs.Turned.{cos-is, sin-is}
use Rattle.course.proofs.trig.checked_sin_cos.Goals as goal

pub returns-then-inside-clause-cosine : goal.returns-then-inside-clause-cosine
unfolding of_bits of_int natural check answer angle_cause cosine_call
returns-then-inside-clause-cosine c = rw (sym c.inside.ensures, c.if-inside.true, cos-is _ _ c.sin_cos.ensures)

pub returns-then-inside-clause-sine : goal.returns-then-inside-clause-sine
unfolding of_bits of_int natural check answer angle_cause sine_call
returns-then-inside-clause-sine c = rw (sym c.inside.ensures, c.if-inside.true, sin-is _ _ c.sin_cos.ensures)

pub returns-clause-cosine : goal.returns-clause-cosine
unfolding of_bits of_int natural check answer angle_cause cosine_call
returns-clause-cosine c = rw (sym c.inside.ensures, c.if-inside.false)

pub returns-clause-sine : goal.returns-clause-sine
unfolding of_bits of_int natural check answer angle_cause sine_call
returns-clause-sine c = rw (sym c.inside.ensures, c.if-inside.false)
