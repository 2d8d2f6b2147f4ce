-- Document 01, "Lay" and "Refusals by cause" (2 and 3): what a call of lay does with the lent columns. Assumes nothing.
use Rattle.std.specs.Prelude.{ℕ, List, Result, Ok, Err}
use Rattle.course.specs.Rules.Lay.{CoursePoints, course_on, course_within}
use Rattle.course.specs.Rules.Lengths.{laid_length}
use Rattle.course.specs.Grader.Outcome.{CourseColumns, Outcome, outcome, roomy_of, lay_into}
use Rattle.course.specs.Grader.Cause.{check}
use Rattle.course.specs.declared.cause.Cause.{Cause}
use Rattle.course.specs.declared.cause.Cause.TheVariants.{Length}
use Rattle.course.specs.declared.points.LayError.TheVariants.{Refused}
use Rattle.course.specs.declared.checkpoints.Checkpoint.{Checkpoint}

-- cause 2 where a lent column is short
unfoldable pub lay_cause : CourseColumns → Result Unit Cause
lay_cause l = check (roomy_of laid_length l.alpha l.beta l.x l.y l.tiles l.offsets) Length

-- a call refused by a cause leaves the columns as they were; else the course is laid, or cause 3 holds
unfoldable pub lay_at : Result Unit Cause → CoursePoints → CourseColumns → Outcome
lay_at (Ok none) c l = lay_into laid_length c.fallback c.points l
lay_at (Err k) c l = outcome (Err (Refused k)) l

unfoldable pub lay_call : ℕ → ℕ → CourseColumns → Outcome
lay_call attempts seed l = lay_at (lay_cause l) (course_within attempts seed) l

-- the same with the checkpoints given
unfoldable pub lay_on_call : List Checkpoint → CourseColumns → Outcome
lay_on_call cs l = lay_at (lay_cause l) (course_on cs) l
