-- Document 01, "Refusals by cause": what sine, cosine and `atan2` answer, and their cause 8. Assumes nothing.
use Rattle.std.specs.Prelude.{ℕ, ◌&&◌, Result, Ok, Float}
use Rattle.std.specs.Result.{result_and, result_unwrap_or}
use Rattle.course.specs.Rules.Arithmetic.{natural}
use Rattle.course.specs.Rules.Numeric.{within}
use Rattle.course.specs.Rules.Trig.{sine_of, cosine_of, atan2_of}
use Rattle.course.specs.Grader.Cause.{cause_number, check}
use Rattle.course.specs.declared.cause.Cause.{Cause}
use Rattle.course.specs.declared.cause.Cause.TheVariants.{Range}

-- the value where no cause holds, else the cause
unfoldable pub answer : Result Unit Cause → Float → Result Float Cause
answer cause v = result_and cause (Ok v)

-- number and value of an answer: 0 where no cause holds; a refusal has no value (0)
unfoldable pub angle_cause_of : Result Float Cause → ℕ
angle_cause_of r = cause_number r

unfoldable pub value_of : Result Float Cause → Float
value_of r = result_unwrap_or r (natural 0)

-- cause 8: not finite, or beyond ±16 for a sine's argument and ±1,000,000 for another's
unfoldable pub angle_cause : Float → Result Unit Cause
angle_cause a = check (within (natural 16) a) Range

unfoldable pub pair_cause : Float → Float → Result Unit Cause
pair_cause y x = check (within (natural 1000000) y && within (natural 1000000) x) Range

unfoldable pub sine_call : Float → Result Float Cause
sine_call a = answer (angle_cause a) (sine_of a)

unfoldable pub cosine_call : Float → Result Float Cause
cosine_call a = answer (angle_cause a) (cosine_of a)

unfoldable pub atan2_call : Float → Float → Result Float Cause
atan2_call y x = answer (pair_cause y x) (atan2_of y x)
