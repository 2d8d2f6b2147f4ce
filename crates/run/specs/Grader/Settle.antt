-- Document 01, "Settle: contact after physics" and "Refusals by cause": settle 4, 5, 6, 2, 8, 10; document 02, order 1: the last poses. For states whose sets have m words and
-- take n up to `most`. Assumes nothing.
use Rattle.std.specs.Prelude.{Bool, false, cond, not, ◌||◌, List, ℕ, ◌+◌, leb, Float, Result, Ok, Err}
use Rattle.course.specs.declared.cause.Cause.{Cause}
use Rattle.course.specs.declared.cause.Cause.TheVariants.{State as NoRun, Length, Turn, Limit, Range, Index}
use Rattle.run.specs.Grader.State.{State, state_of, Columns, short_of, unfit}
use Rattle.run.specs.Rules.Arguments.{places_ok}
use Rattle.run.specs.Rules.Wheel.{quad_of}
use Rattle.run.specs.Grader.Touch.{touched_by, sound_poses}
use Rattle.run.specs.Grader.Contact.{Contacted, contact_of}
use Rattle.run.specs.Grader.Numbers.{pose_numbers}
use Rattle.run.specs.Rules.Lap.{lap_of, off_field, end_of}
use Rattle.run.specs.declared.state.Pose.{Pose}
use Rattle.run.specs.declared.state.Setup.{Setup}
use Rattle.run.specs.declared.state.Progress.{Progress}
use Rattle.run.specs.declared.settle.SettleValues.{SettleValues}

-- ---- refusals

-- the first cause that holds, if one does
unfoldable pub settle_check : ℕ → Setup → Progress → Columns → Float → Float → List Pose → Result Unit Cause
settle_check most u p l x y ps =
    cond (unfit most u p || p.ended) (Err NoRun)
    (cond (not p.driven) (Err Turn)
    (cond (leb u.tick_limit p.tick) (Err Limit)
    (cond (short_of u.n l) (Err Length)
    (cond (not (places_ok x y ps)) (Err Range)
    (cond (not (sound_poses l.offsets l.list u.n ps)) (Err Index) (Ok tt))))))

-- ---- the call

-- after a contact with `fresh` new tiles: tick, credit, lap, end
unfoldable pub settled_progress : Setup → Progress → ℕ → Bool → Bool → Progress
settled_progress u p fresh enters_zero off =
    let count = p.visited_count + fresh in
    let lap = lap_of p.lap enters_zero count u.n u.lap_share in
    record { visited_count = count; tick = p.tick + 1; lap = lap; ended = end_of count u.n lap off; driven = false }

-- an answer, and the parts that a settle changes
pub record SettledParts : Type 0 where
  pub answer : Result SettleValues Cause
  pub progress : Progress
  pub credited : List ℕ
  pub wheels : List ℕ

abbrev pub settled_parts : Result SettleValues Cause → Progress → List ℕ → List ℕ → SettledParts
settled_parts r p c ws = record { answer = r; progress = p; credited = c; wheels = ws }

-- the answer says of the progress what a host is told
unfoldable pub settled_by : Setup → Progress → Bool → Contacted → SettledParts
settled_by u p off c =
    let next = settled_progress u p c.fresh c.zero off in
    settled_parts (Ok (record { new_tiles = c.fresh; n = u.n; off = off; lap = next.lap; ended = next.ended })) next c.credited c.wheels

-- no cause: the contact; a cause: all as before
unfoldable pub settle_at : ℕ → Result Unit Cause → Setup → Progress → List ℕ → List ℕ → Columns → Float → Float → List Pose → SettledParts
settle_at m (Ok none) u p credited wheels l x y ps = settled_by u p (off_field x y) (contact_of m credited wheels (λ w. touched_by l.tiles l.offsets l.list (quad_of ps w)))
settle_at m (Err c) u p credited wheels l x y ps = settled_parts (Err c) p credited wheels

-- on the parts that it reads and changes, in sets of m words, which hold `most` tiles
unfoldable pub settle_parts_of : ℕ → ℕ → Setup → Progress → List ℕ → List ℕ → Columns → Float → Float → List Pose → SettledParts
settle_parts_of m most u p credited wheels l x y ps = settle_at m (settle_check most u p l x y ps) u p credited wheels l x y ps

-- the last poses after it: an accepted settle's, else as they were
unfoldable pub poses_after : Result SettleValues Cause → List Pose → List Float → List Float
poses_after (Ok v) ps last = pose_numbers ps
poses_after (Err c) ps last = last

-- the same with the last poses
pub record SettledPoses : Type 0 where
  pub parts : SettledParts
  pub poses : List Float

abbrev pub settled_poses : SettledParts → List Float → SettledPoses
settled_poses d last = record { parts = d; poses = last }

unfoldable pub settle_poses_of : ℕ → ℕ → Setup → Progress → List ℕ → List ℕ → List Float → Columns → Float → Float → List Pose → SettledPoses
settle_poses_of m most u p credited wheels last l x y ps =
    let d = settle_parts_of m most u p credited wheels l x y ps in
    settled_poses d (poses_after d.answer ps last)

-- an answer and the state beside it
pub record AfterSettle : Type 0 where
  pub answer : Result SettleValues Cause
  pub state : State

abbrev pub after_settle : Result SettleValues Cause → State → AfterSettle
after_settle r s = record { answer = r; state = s }

-- on a whole state
unfoldable pub settle_of : ℕ → ℕ → State → Columns → Float → Float → List Pose → AfterSettle
settle_of m most s l x y ps =
    let d = settle_poses_of m most s.setup s.progress s.credited s.wheels s.poses l x y ps in
    after_settle d.parts.answer
    (state_of s.setup d.parts.progress s.car d.parts.credited d.parts.wheels d.poses s.seed)
