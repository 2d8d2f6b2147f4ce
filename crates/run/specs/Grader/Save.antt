-- Document 02, order 1: a save and its causes, 4 (without its ended part), 5, 2. For states whose sets hold `most` tiles. Assumes nothing.
use Rattle.std.specs.Prelude.{cond, List, ◌++◌, ℕ, ltb, length, drop, Result, Ok, Err}
use Rattle.course.specs.declared.cause.Cause.{Cause}
use Rattle.run.specs.Rules.Arguments.{save_room}
use Rattle.run.specs.Grader.State.{State, unfit}
use Rattle.run.specs.Grader.Saved.{fields_of, saved_form}
use Rattle.run.specs.declared.state.Setup.{Setup}
use Rattle.run.specs.declared.state.Progress.{Progress}

-- the first cause that holds, if one does: an ended run is saved; the output has room for the longest form, whatever is written
unfoldable pub save_check : ℕ → Setup → Progress → ℕ → Result Unit Cause
save_check most u p room =
    cond (unfit most u p) (Err Cause.State)
    (cond p.driven (Err Cause.Turn)
    (cond (ltb room save_room) (Err Cause.Length) (Ok tt)))

-- an answer, its length where there is no cause, and what the output holds after it
pub record AfterSave : Type 0 where
  pub answer : Result ℕ Cause
  pub out : List ℕ

abbrev pub after_save : Result ℕ Cause → List ℕ → AfterSave
after_save r out = record { answer = r; out = out }

-- no cause: the length, and the saved form before what stood past it; a cause, and the output as it was
unfoldable pub save_at : Result Unit Cause → State → List ℕ → AfterSave
save_at (Ok none) s out =
    let bs = saved_form (fields_of s) in
    after_save (Ok (length bs)) (bs ++ drop (length bs) out)
save_at (Err k) s out = after_save (Err k) out

unfoldable pub save_of : ℕ → State → List ℕ → AfterSave
save_of most s out = save_at (save_check most s.setup s.progress (length out)) s out
