-- The batch grader: a seed's course is laid, a run is started on it, and a whole list of calls is answered from lent columns. What it writes and
-- answers is said by the plain scorer (document 01, "The plain scorer") on the definition's course. Assumes nothing.
use Rattle.std.specs.Prelude.{Bool, false, cond, ◌&&◌, List, [], ◌∷◌, ◌++◌, ℕ, zero, suc, ◌*◌, min, leb, eqb, length, get_or, drop, replicate, Float, Result, Ok, Err}
use Rattle.course.specs.Rules.Constants.{max_attempts}
use Rattle.course.specs.Grader.Outcome.{CourseColumns}
use Rattle.course.specs.Rules.Lay.{CoursePoints, course_of}
use Rattle.course.specs.Grader.LayCall.{lay_call}
use Rattle.course.specs.declared.cause.Cause.{Cause}
use Rattle.course.specs.declared.tiles.TrackPoint.{TrackPoint}
use Rattle.course.specs.declared.cause.Cause.TheVariants.{Length}
use Rattle.course.specs.declared.points.LaidCourse.{LaidCourse}
use Rattle.course.specs.declared.points.LayError.{LayError}
use Rattle.course.specs.declared.points.LayError.TheVariants.{Refused as NotLaid}
use Rattle.run.specs.Grader.Widths.{most_tiles}
use Rattle.run.specs.Grader.Sheet.{share_of}
use Rattle.certificate.specs.Rules.Answers.{Answer}
use Rattle.certificate.specs.Rules.Answers.Answer.{refused}
use Rattle.certificate.specs.Claim.Scorer.{LentLengths, Opening, Told, History, settles, touched_count, lap_done, ended, start_number, scores, kept_of}
use Rattle.certificate.specs.Claim.Scorer.History.{begun}
use Rattle.certificate.specs.Claim.Certificate.{lay_number}
use Rattle.course.specs.Rules.Tiles.{number_at}
use Rattle.run.specs.Grader.Numbers.{motions_from, poses_from}
use Rattle.certificate.specs.Grader.CallColumns.{call_words, call_numbers, answer_words, answer_numbers, part_at, all_words, all_numbers}
use Rattle.run.specs.declared.start.StartValues.{StartValues}
use Rattle.run.specs.declared.sheet.RunSheet.{RunSheet}

-- ---- the calls, as the plain scorer is told of them

-- the call that four words and twenty numbers hold; a settle is lent the first of the tiles and offsets, as many as it asks for and there are
unfoldable pub told_from : LentLengths → List ℕ → List Float → Told
told_from k ws ns =
    cond (eqb (get_or ws 0 0) 0) (Told.drive (get_or ws 1 0) (motions_from ns))
    (Told.settle (record { tiles = min (get_or ws 2 0) k.tiles; offsets = min (get_or ws 3 0) k.offsets }) (number_at ns 0) (number_at ns 1) (poses_from ns))

-- the first n calls of the columns
unfoldable pub tolds_to : LentLengths → List ℕ → List Float → ℕ → List Told
tolds_to k ws ns zero = []
tolds_to k ws ns (suc n) = tolds_to k ws ns n ++ (told_from k (part_at call_words ws n) (part_at call_numbers ns n) ∷ [])

-- ---- the plain scorer's answers to a start and the calls after it, by the number of start's cause: after a refused start every call is refused by 4

-- the cause that has this number; for a number that no cause has, the last
unfoldable pub cause_of : ℕ → Cause
cause_of k =
    cond (eqb k 1) Cause.Settings
    (cond (eqb k 2) Cause.Length
    (cond (eqb k 4) Cause.State
    (cond (eqb k 5) Cause.Turn
    (cond (eqb k 6) Cause.Limit
    (cond (eqb k 7) Cause.Action
    (cond (eqb k 8) Cause.Range
    (cond (eqb k 9) Cause.Count
    (cond (eqb k 10) Cause.Index
    (cond (eqb k 11) Cause.Form Cause.Course)))))))))

-- an answer by the number of its cause, with values where it is 0
unfoldable pub answer_by : {A : Type 0} → ℕ → A → Result A Cause
answer_by zero v = Ok v
answer_by (suc k) v = Err (cause_of (suc k))

unfoldable pub plain_start : ℕ → List TrackPoint → Opening → Result StartValues Cause
plain_start k c b = answer_by k (record { count = touched_count c (begun b); lap = lap_done c (begun b) })

unfoldable pub plain_answers : ℕ → List TrackPoint → Opening → List Told → List Answer
plain_answers zero c b ts = scores c (begun b) ts
plain_answers (suc k) c b ts = replicate (length ts) (refused 4)

-- the sheet of the calls kept; the state of zeros has none
unfoldable pub sheet_on : List TrackPoint → Bool → History → Result RunSheet Cause
sheet_on c fallback h =
    Ok (record {
      tick = settles h;
      credited = touched_count c h;
      n = length c;
      lap = lap_done c h;
      ended = ended c h;
      fallback = fallback;
      share = share_of (touched_count c h) (length c);
    })

unfoldable pub plain_sheet : ℕ → CoursePoints → Opening → List Told → Result RunSheet Cause
plain_sheet zero c b ts = sheet_on c.points c.fallback (kept_of c.points (begun b) ts)
plain_sheet (suc k) c b ts = Err Cause.State

-- ---- the call

-- the course that lay leaves, by the number of its cause: the seed's, or none, on which every start is refused
unfoldable pub laid_course : ℕ → ℕ → CoursePoints
laid_course zero seed = course_of seed
laid_course (suc k) seed = record { points = []; fallback = false }

-- what a replay leaves: the answers of lay and start, the sheet after the last call, the lent columns, and every answer in words and numbers
pub record Replay : Type 0 where
  pub laid : Result LaidCourse LayError
  pub start : Result StartValues Cause
  pub sheet : Result RunSheet Cause
  pub lent : CourseColumns
  pub words : List ℕ
  pub numbers : List Float

abbrev pub replay : Result LaidCourse LayError → Result StartValues Cause → Result RunSheet Cause → CourseColumns → List ℕ → List Float → Replay
replay laid start sheet l words numbers = record { laid = laid; start = start; sheet = sheet; lent = l; words = words; numbers = numbers }

-- on the course c, with start's cause k and n calls
unfoldable pub replay_on : CourseColumns → ℕ → CoursePoints → ℕ → Opening → ℕ → List Told → List ℕ → List Float → Replay
replay_on l seed c k b n ts words numbers =
    record {
      laid = (lay_call max_attempts seed l).answer;
      start = plain_start k c.points b;
      sheet = plain_sheet k c b ts;
      lent = (lay_call max_attempts seed l).lent;
      words = all_words (plain_answers k c.points b ts) ++ drop (answer_words * n) words;
      numbers = all_numbers (plain_answers k c.points b ts) ++ drop (answer_numbers * n) numbers;
    }

-- the lengths of the lent tiles and offsets
abbrev pub lengths_in : CourseColumns → LentLengths
lengths_in l = record { tiles = length l.tiles; offsets = length l.offsets }

-- the columns of calls and answers, by their lengths, have room for n calls
unfoldable pub room_for : ℕ → ℕ → ℕ → ℕ → ℕ → Bool
room_for n calls given words numbers =
    leb (call_words * n) calls && (leb (call_numbers * n) given && (leb (answer_words * n) words && leb (answer_numbers * n) numbers))

-- 2 where a column of calls or answers is short: nothing is laid, started or written
unfoldable pub replay_of : ℕ → CourseColumns → Opening → ℕ → List ℕ → List Float → List ℕ → List Float → Replay
replay_of seed l b n calls given words numbers =
    let k = lengths_in l in
    let c = laid_course (lay_number seed l) seed in
    cond (room_for n (length calls) (length given) (length words) (length numbers))
    (replay_on l seed c (start_number c.points most_tiles k b) b n (tolds_to k calls given n) words numbers)
    (record { laid = Err (NotLaid Length); start = Err Cause.Length; sheet = Err Cause.State; lent = l; words = words; numbers = numbers })
