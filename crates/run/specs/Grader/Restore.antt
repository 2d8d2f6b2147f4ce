-- Document 02, order 1: a restore and its causes, 11, 12, 2, 10; and which course saved bytes are of. For states whose sets have m words and take n up
-- to `most`. Assumes nothing.
use Rattle.std.specs.Prelude.{false, cond, not, List, ◌∷◌, [], ◌++◌, ℕ, ◌*◌, eqb, length, Option, Some, None, Result, Ok, Err}
use Rattle.course.specs.declared.cause.Cause.{Cause}
use Rattle.run.specs.Rules.Below.{how_many}
use Rattle.run.specs.Grader.Words.{member}
use Rattle.run.specs.Grader.State.{State, Columns, short_of}
use Rattle.run.specs.Grader.Numbers.{poses_at, car_from}
use Rattle.run.specs.Grader.Touch.{sound_poses}
use Rattle.run.specs.Grader.Start.{zero_state, first_contact}
use Rattle.run.specs.Grader.Saved.{Fields, loaded}
use Rattle.run.specs.declared.restore.SavedFor.{SavedFor}

-- ---- the restore

-- the first cause that holds, if one does
unfoldable pub restore_check : Columns → ℕ → Option Fields → Result Unit Cause
restore_check l n None = Err Cause.Form
restore_check l n (Some f) =
    cond (not (eqb n f.n)) (Err Cause.Course)
    (cond (short_of n l) (Err Cause.Length)
    (cond (not (sound_poses l.offsets l.list n (poses_at f.poses 0))) (Err Cause.Index) (Ok tt)))

-- how many tiles a set has
unfoldable pub bit_count : List ℕ → ℕ
bit_count ws = how_many (64 * length ws) (member ws)

-- the run that the fields say, with these sets of credited tiles and of the wheels. The credited count is the bits set, and no settle is due
abbrev pub run_from : Fields → List ℕ → List ℕ → State
run_from f credited wheels =
    record {
      setup = record { n = f.n; tick_limit = f.limit; lap_share = f.share; fallback = f.fallback };
      progress = record { visited_count = bit_count credited; tick = f.tick; lap = f.lap; ended = f.ended; driven = false };
      car = car_from (f.controls ++ (f.fuel ∷ []));
      credited = credited;
      wheels = wheels;
      poses = f.poses;
      seed = f.seed;
    }

-- the tiles credited are those saved; the wheels' sets are what they touch at the last poses, as the Rust's `contact_pass_derived` rebuilds them: nothing
-- is credited by that, and no lap is judged
unfoldable pub restored_state : ℕ → Columns → Fields → State
restored_state m l f = run_from f f.credited (first_contact m l (poses_at f.poses 0)).wheels

-- an answer and the state beside it
pub record AfterRestore : Type 0 where
  pub answer : Result Unit Cause
  pub state : State

abbrev pub after_restore : Result Unit Cause → State → AfterRestore
after_restore r s = record { answer = r; state = s }

-- no cause: the run; a cause, and the state of zeros
unfoldable pub restore_at : ℕ → Result Unit Cause → Columns → Option Fields → AfterRestore
restore_at m (Ok none) l (Some f) = after_restore (Ok tt) (restored_state m l f)
restore_at m (Ok none) l None = after_restore (Err Cause.Form) (zero_state m)
restore_at m (Err k) l r = after_restore (Err k) (zero_state m)

unfoldable pub restore_of : ℕ → ℕ → List ℕ → Columns → ℕ → AfterRestore
restore_of m most bs l n = restore_at m (restore_check l n (loaded m most bs)) l (loaded m most bs)

-- ---- the course of saved bytes: its seed and tile count, or 11 exactly where a restore gives it

-- a refusal has none
abbrev pub no_saved_for : SavedFor
no_saved_for = record { seed = 0; n = 0 }

abbrev pub course_at : Option Fields → Result SavedFor Cause
course_at (Some f) = Ok (record { seed = f.seed; n = f.n })
course_at None = Err Cause.Form

unfoldable pub saved_course_of : ℕ → ℕ → List ℕ → Result SavedFor Cause
saved_course_of m most bs = course_at (loaded m most bs)
