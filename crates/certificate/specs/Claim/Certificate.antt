-- Demand 3 (document 01, "The plain scorer"; document 02, order 1): one claim about a course, a start on it and the whole list of calls after it. Each call
-- gets the state that the one before it returned, refused or not; after an accepted restore the next call gets the restored state. Stated for the course
-- of any list of points, and for states whose sets have m words and take n up to `most`; `Certificate` at the end is the claim for a seed's course and
-- the full state. Assumes nothing.
use Rattle.std.specs.Prelude.{◌≡◌, Bool, true, false, cond, ◌&&◌, List, [], map, ℕ, ◌<◌, ltb, length, Ok}
use Rattle.std.specs.Result.{result_unwrap_or}
use Rattle.course.specs.Grader.Cause.{cause_number}
use Rattle.course.specs.Rules.Lengths.{laid_length}
use Rattle.course.specs.Rules.Constants.{max_attempts}
use Rattle.course.specs.Grader.Course.{from_points, cells_of}
use Rattle.course.specs.Grader.Outcome.{CourseColumns, Outcome, outcome, roomy_of, written, laid_figures, laid_cause_of, laid_values_of}
use Rattle.course.specs.Rules.Lay.{course_of}
use Rattle.course.specs.Grader.LayCall.{lay_call}
use Rattle.course.specs.declared.tiles.TrackPoint.{TrackPoint}
use Rattle.run.specs.Grader.Widths.{full_words, most_tiles}
use Rattle.run.specs.Grader.State.{State}
use Rattle.run.specs.Grader.Words.{member}
use Rattle.run.specs.Grader.Contact.{wheel_part}
use Rattle.run.specs.Grader.Numbers.{pose_numbers}
use Rattle.run.specs.declared.start.Settings.{Settings}
use Rattle.run.specs.Grader.Start.{setup_of, Begun, start_of, no_start}
use Rattle.certificate.specs.Rules.Answers.{Reply}
use Rattle.certificate.specs.Grader.Calls.{going, requests_said, going_after}
use Rattle.certificate.specs.Claim.Scorer.{Opening, History, kept_calls, drives, settles, last_poses, touch, touched, touched_count, lap_done, over, ended, passed, start_number, after_items}
use Rattle.certificate.specs.Claim.Scorer.History.{begun}
use Rattle.certificate.specs.Claim.Items.{Lending, lent_by, lengths_of, CourseItem, requests_of, items_of, replies_to, KeptSums, sums, kept_sums, sums_over, all_occur, turned_down, typed}
use Rattle.run.specs.declared.state.Progress.{Progress}

-- what start is told of the course beside its n, and keeps: any values
pub record CourseLabel : Type 0 where
  pub fallback : Bool
  pub seed : ℕ

-- what start is told on a course of n tiles
abbrev pub settings_for : ℕ → CourseLabel → Opening → Settings
settings_for n label b = record { n = n; fallback = label.fallback; seed = label.seed; share = b.share; limit = b.limit; poses = b.poses }

-- the same of the course that laying left in o: its n as answered
abbrev pub settings_on : Outcome → CourseLabel → Opening → Settings
settings_on o label b = settings_for (laid_values_of o.answer).n label b

abbrev pub start_on : {n : ℕ} → ℕ → ℕ → Outcome → Lending n → CourseLabel → Opening → Begun
start_on m most o by label b = start_of m most (lent_by o by) (settings_on o label b)

-- after the list: the calls that the plain scorer keeps, what the grader replied, what its replies sum up to, and the state that it returned
abbrev pub kept_by : {n : ℕ} → List TrackPoint → Outcome → Opening → List (CourseItem n) → History
kept_by c o b is = (after_items c (kept_calls (begun b) []) (items_of o is)).calls

abbrev pub replied_by : {n : ℕ} → ℕ → ℕ → Outcome → Begun → List (CourseItem n) → List Reply
replied_by m most o s is = requests_said m most (going s.state []) (requests_of o is)

abbrev pub summed_by : {n : ℕ} → ℕ → ℕ → Outcome → Begun → List (CourseItem n) → KeptSums
summed_by m most o s is = sums_over (kept_sums (sums (result_unwrap_or s.answer no_start).count false) []) is (replied_by m most o s is)

abbrev pub state_by : {n : ℕ} → ℕ → ℕ → Outcome → Begun → List (CourseItem n) → State
state_by m most o s is = (going_after m most (going s.state []) (requests_of o is)).state

-- the progress that the kept calls make
abbrev pub progress_by : List TrackPoint → History → Progress
progress_by c h = record { visited_count = touched_count c h; tick = settles h; lap = lap_done c h; ended = ended c h; driven = ltb (settles h) (drives h) }

-- ---- the claim

-- after a start s that is accepted on the course of the points c, with opening b: the list of items is
pub record Graded (m most : ℕ) (c : List TrackPoint) (o : Outcome) (s : Begun) (label : CourseLabel) (b : Opening) (is : List (CourseItem (length c))) : Type 0 where
  -- start's credited count and lap
  pub start : s.answer ≡ Ok (record { count = touched_count c (begun b); lap = lap_done c (begun b) })
  -- which calls are refused and by what number, and each accepted drive's and settle's whole answer
  pub answers : replied_by m most o s is ≡ replies_to c (kept_calls (begun b) []) (items_of o is)
  -- the tiles credited at the start plus the new tiles of all accepted settles that stand equal in number the distinct tiles touched
  pub counts : (summed_by m most o s is).now.total ≡ touched_count c (kept_by c o b is)
  -- once a settle stands, the run has ended exactly when all tiles are touched, a lap is complete or the last settled hull is off the field
  pub ends : 0 < settles (kept_by c o b is) → (summed_by m most o s is).now.ended ≡ over c (kept_by c o b is)
  -- numbers that do not occur: 10, a settle's 6, a save's 4, a restore's 12
  pub occur : all_occur is (replied_by m most o s is) ≡ true
  -- the returned state: what start was told; count, tick, lap, end and turn; the tyre rules' controls and fuel over the kept drives
  pub state-setup : (state_by m most o s is).setup ≡ setup_of (settings_on o label b)
  pub state-seed : (state_by m most o s is).seed ≡ label.seed
  pub state-progress : (state_by m most o s is).progress ≡ progress_by c (kept_by c o b is)
  pub state-car : (state_by m most o s is).car ≡ (passed c (kept_by c o b is)).car
  -- its credited tiles are those touched, and none from n on; each wheel's are those that it touched at the last contact, whose poses are kept
  pub state-credited : (t : ℕ) → member (state_by m most o s is).credited t ≡ (ltb t (length c) && touched c (kept_by c o b is) t)
  pub state-wheels : (w t : ℕ) → w < 4 → member (wheel_part m (state_by m most o s is).wheels w) t ≡ (ltb t (length c) && touch c (last_poses (kept_by c o b is)) w t)
  pub state-poses : (state_by m most o s is).poses ≡ pose_numbers (last_poses (kept_by c o b is))

-- the course of the points c as laying left it in o, a start on it and a list of items
pub record Demand3 (m most : ℕ) (c : List TrackPoint) (o : Outcome) (by : Lending (length c)) (label : CourseLabel) (b : Opening) (is : List (CourseItem (length c))) : Type 0 where
  -- start refuses exactly when document 01 has a cause for it
  pub starts : cause_number (start_on m most o by label b).answer ≡ start_number c most (lengths_of (lent_by o by)) b
  -- an accepted start and any list of items after it; where it holds a restore, of values that bytes can carry
  pub runs : start_number c most (lengths_of (lent_by o by)) b ≡ 0 → typed label.seed b is ≡ true → Graded m most c o (start_on m most o by label b) label b is
  -- after a refused start every drive, settle and save is refused by 4, every restore by 11
  pub stays : (start_number c most (lengths_of (lent_by o by)) b ≡ 0 → ⊥) → replied_by m most o (start_on m most o by label b) is ≡ map turned_down is

-- lay's cause: 2 where a lent column is short, else 3 where the index list is, else none
unfoldable pub lay_number : ℕ → CourseColumns → ℕ
lay_number seed l = cond (roomy_of laid_length l.alpha l.beta l.x l.y l.tiles l.offsets) (cond (ltb (length l.list) (cells_of (course_of seed).points)) 3 0) 2

-- n of a seed's course
abbrev pub seed_tiles : ℕ → ℕ
seed_tiles seed = length (course_of seed).points

-- for any seed and lent columns, any start and any list of drives, settles, saves and restores after it
pub record Certificate (seed : ℕ) (l : CourseColumns) (by : Lending (seed_tiles seed)) (label : CourseLabel) (b : Opening) (is : List (CourseItem (seed_tiles seed))) : Type 0 where
  -- lay refuses exactly when document 01 has a cause for it
  pub lays : laid_cause_of (lay_call max_attempts seed l).answer ≡ lay_number seed l
  -- the course is exactly the one that document 01 gives the seed: all that is answered and written
  pub course : lay_number seed l ≡ 0 → lay_call max_attempts seed l ≡ outcome (Ok (laid_figures (course_of seed).fallback (course_of seed).points)) (written laid_length false (from_points (course_of seed).points) l)
  -- and on it the run is the plain scorer's
  pub run : lay_number seed l ≡ 0 → Demand3 full_words most_tiles (course_of seed).points (lay_call max_attempts seed l) by label b is
