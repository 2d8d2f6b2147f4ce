-- Document 01, "Refusals by cause", and document 02, order 1 (11 and 12): the number of each cause. Cause 3 is lay's and points' alone, and comes with a length
-- (Outcome). Assumes nothing.
use Rattle.std.specs.Prelude.{ℕ, Bool, cond, Result, Ok, Err}
use Rattle.course.specs.declared.cause.Cause.{Cause}
use Rattle.course.specs.declared.cause.Cause.TheVariants.{Settings, Length, State, Turn, Limit, Action, Range, Count, Index, Form, Course}

unfoldable pub number_of : Cause → ℕ
number_of Settings = 1
number_of Length = 2
number_of State = 4
number_of Turn = 5
number_of Limit = 6
number_of Action = 7
number_of Range = 8
number_of Count = 9
number_of Index = 10
number_of Form = 11
number_of Course = 12

-- the number of an answer's error, by the number that each error has; 0 where the call was not refused
abbrev pub number_by : {A E : Type 0} → (E → ℕ) → Result A E → ℕ
number_by number (Ok values) = 0
number_by number (Err error) = number error

-- the number of an answer's cause, 0 where it was not refused
unfoldable pub cause_number : {A : Type 0} → Result A Cause → ℕ
cause_number r = number_by number_of r

-- a test that a call passes, or is refused by the cause
unfoldable pub check : Bool → Cause → Result Unit Cause
check passes c = cond passes (Ok tt) (Err c)
