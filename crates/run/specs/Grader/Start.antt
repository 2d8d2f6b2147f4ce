-- Document 01, "Start: the first contact" and "Refusals by cause": start 1, 2, 8, 10; document 02, order 1: the seed. For states whose sets have m words and take n up to
-- `most`. Assumes nothing.
use Rattle.std.specs.Prelude.{Bool, false, cond, not, ◌||◌, List, ℕ, ◌*◌, ltb, replicate, Result, Ok, Err}
use Rattle.course.specs.declared.cause.Cause.{Cause}
use Rattle.course.specs.Rules.Arithmetic.{nought}
use Rattle.run.specs.Grader.State.{State, state_of, Columns, short_of}
use Rattle.run.specs.Rules.Arguments.{settings_ok, poses_ok}
use Rattle.run.specs.Rules.Pass.{still_car}
use Rattle.run.specs.Rules.Wheel.{quad_of}
use Rattle.run.specs.Grader.Touch.{touched_by, sound_poses}
use Rattle.run.specs.Grader.Contact.{Contacted, contact_of}
use Rattle.run.specs.Grader.Numbers.{pose_count, pose_numbers}
use Rattle.run.specs.Rules.Lap.{lap_of}
use Rattle.run.specs.declared.state.Pose.{Pose}
use Rattle.run.specs.declared.state.Setup.{Setup}
use Rattle.run.specs.declared.state.Progress.{Progress}
use Rattle.run.specs.declared.start.StartValues.{StartValues}
use Rattle.run.specs.declared.start.Settings.{Settings}

-- ---- causes

-- 2: a lent column is short, or n is outside 1 to most
unfoldable pub start_short : ℕ → Columns → ℕ → Bool
start_short most l n = short_of n l || (ltb n 1 || ltb most n)

-- the first that holds, if one does
unfoldable pub start_check : ℕ → Columns → Settings → Result Unit Cause
start_check most l a =
    cond (not (settings_ok a.share a.limit)) (Err Cause.Settings)
    (cond (start_short most l a.n) (Err Cause.Length)
    (cond (not (poses_ok a.poses)) (Err Cause.Range)
    (cond (not (sound_poses l.offsets l.list a.n a.poses)) (Err Cause.Index) (Ok tt))))

-- a refusal has none
abbrev pub no_start : StartValues
no_start = record { count = 0; lap = false }

-- ---- the call

-- what start fixes
unfoldable pub setup_of : Settings → Setup
setup_of a = record { n = a.n; tick_limit = a.limit; lap_share = a.share; fallback = a.fallback }

-- so many tiles credited, tick 0, and no drive made
unfoldable pub first_progress : ℕ → Bool → Progress
first_progress count lap = record { visited_count = count; tick = 0; lap = lap; ended = false; driven = false }

-- the state of zeros
unfoldable pub zero_state : ℕ → State
zero_state m =
    record {
      setup = record { n = 0; tick_limit = 0; lap_share = nought; fallback = false };
      progress = first_progress 0 false;
      car = still_car;
      credited = replicate m 0;
      wheels = replicate (4 * m) 0;
      poses = replicate pose_count nought;
      seed = 0;
    }

-- an answer and the state beside it
pub record Begun : Type 0 where
  pub answer : Result StartValues Cause
  pub state : State

abbrev pub begun : Result StartValues Cause → State → Begun
begun r s = record { answer = r; state = s }

-- the first contact, from empty sets
unfoldable pub first_contact : ℕ → Columns → List Pose → Contacted
first_contact m l ps = contact_of m (replicate m 0) (replicate (4 * m) 0) (λ w. touched_by l.tiles l.offsets l.list (quad_of ps w))

-- controls and fuel begin at 0; poses and seed are kept
unfoldable pub started_by : Settings → Contacted → Begun
started_by a c =
    let lap = lap_of false c.zero c.fresh a.n a.share in
    begun (Ok (record { count = c.fresh; lap = lap })) (state_of (setup_of a) (first_progress c.fresh lap) still_car c.credited c.wheels (pose_numbers a.poses) a.seed)

-- no cause: the first contact; a cause, and the state of zeros
unfoldable pub start_at : ℕ → Result Unit Cause → Columns → Settings → Begun
start_at m (Ok none) l a = started_by a (first_contact m l a.poses)
start_at m (Err k) l a = begun (Err k) (zero_state m)

unfoldable pub start_of : ℕ → ℕ → Columns → Settings → Begun
start_of m most l a = start_at m (start_check most l a) l a
