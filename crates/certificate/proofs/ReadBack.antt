-- No two answers are written alike: every answer is read back from its words and numbers. Assumes nothing.
use mathlib.Core.Bool.{Bool, true, false}
use mathlib.Core.List.{List, [], ◌∷◌, ◌++◌, append_assoc}
use mathlib.Core.Path.{◌≡◌, refl, sym, ap, ap₂, ◌∙◌}
use Prim.Native.Nat.{ℕ, zero, suc, ◌+◌, ◌*◌}
use native.Mathlib.Omega.{arith}
use lib.ListN.{length, take, drop, replicate, length-replicate}
use lib.Seq.{take_at, drop_at}
use lib.Ieee.{Float}
use Rattle.certificate.specs.Rules.Answers.{Answer}
use Rattle.certificate.specs.Rules.Answers.Answer.{drove, settled, refused}
use Rattle.run.specs.Grader.Numbers.{force_from, forces_from, force_numbers}
use Rattle.certificate.specs.Grader.CallColumns.{answer_words, answer_numbers, values_from, words_of, numbers_of, all_words, all_numbers, answer_from, answers_from}
use Rattle.course.specs.Rules.Counting.{digit}
use Rattle.course.specs.Grader.Outcome.{CourseColumns}
use Rattle.course.specs.Rules.Lay.{CoursePoints}
use Rattle.course.specs.declared.tiles.TrackPoint.{TrackPoint}
use Rattle.run.specs.Rules.Pass.{gathered_of, pass_of}
use Rattle.certificate.specs.Claim.Scorer.{start_number, Opening, Told, History, passed, drive_number, settle_number, drive_score, settle_score, score, scores}
use Rattle.certificate.specs.Grader.Replay.{tolds_to, plain_answers, laid_course, replay_on, lengths_in, room_for, replay_of}
use Rattle.run.specs.declared.state.Pose.{Pose}
use Rattle.run.specs.declared.dynamics.Motion.{Motion}
use Rattle.run.specs.declared.dynamics.Force.{Force}
use Rattle.run.specs.Grader.Widths.{most_tiles}
use Rattle.certificate.specs.Claim.Certificate.{lay_number}
use Rattle.certificate.proofs.ReplayLaws.{tolds-many}
use Rattle.certificate.proofs.CallColumnLaws.{words-four, numbers-twelve}

-- forces are four, one to a wheel
abbrev pub Whole : Answer → Type 0
Whole (drove fs) = length fs ≡ 4
Whole (settled v) = Unit
Whole (refused k) = Unit

abbrev pub AllWhole : List Answer → Type 0
AllWhole [] = Unit
AllWhole (a ∷ rest) = Whole a × AllWhole rest

four-back : (fs : List Force) → length fs ≡ 4 → answer_from (words_of (drove fs)) (numbers_of (drove fs)) ≡ drove fs
unfolding answer_from force_numbers forces_from force_from
four-back (a ∷ b ∷ c ∷ d ∷ []) e = refl
four-back [] e = absurd (omega (arith, e))
four-back (a ∷ []) e = absurd (omega (arith, e))
four-back (a ∷ b ∷ []) e = absurd (omega (arith, e))
four-back (a ∷ b ∷ c ∷ []) e = absurd (omega (arith, e))
four-back (a ∷ b ∷ c ∷ d ∷ f ∷ fs) e = absurd (omega (arith, e))

flags-back : (off lap ended : Bool) (new n : ℕ) → values_from new n (digit off + 2 * digit lap + 4 * digit ended) ≡ record { new_tiles = new; n = n; off = off; lap = lap; ended = ended }
unfolding values_from
flags-back false false false new n = refl
flags-back false false true new n = refl
flags-back false true false new n = refl
flags-back false true true new n = refl
flags-back true false false new n = refl
flags-back true false true new n = refl
flags-back true true false new n = refl
flags-back true true true new n = refl

pub read_back : (a : Answer) → Whole a → answer_from (words_of a) (numbers_of a) ≡ a
unfolding answer_from
read_back (drove fs) h = four-back fs h
read_back (settled v) h = ap settled (flags-back v.off v.lap v.ended v.new_tiles v.n)
read_back (refused k) h = refl

pub all_back : (r : List Answer) → AllWhole r → (ws : List ℕ) (ns : List Float) → answers_from (length r) (all_words r ++ ws) (all_numbers r ++ ns) ≡ r
unfolding answers_from
all_back [] h ws ns = refl
all_back (a ∷ r) h ws ns =
    ap₂ (λ (x : List ℕ) (y : List Float). answer_from (take answer_words x) (take answer_numbers y) ∷ answers_from (length r) (drop answer_words x) (drop answer_numbers y)) (append_assoc (words_of a) (all_words r) ws) (append_assoc (numbers_of a) (all_numbers r) ns)
    ∙ ap₂ ◌∷◌
    (ap₂ answer_from (take_at (words_of a) (all_words r ++ ws) answer_words (words-four a)) (take_at (numbers_of a) (all_numbers r ++ ns) answer_numbers (numbers-twelve a)) ∙ read_back a h.0)
    (ap₂ (answers_from (length r)) (drop_at (words_of a) (all_words r ++ ws) answer_words (words-four a)) (drop_at (numbers_of a) (all_numbers r ++ ns) answer_numbers (numbers-twelve a)) ∙ all_back r h.1 ws ns)

-- ---- the plain scorer's answers are whole, so that all of them are read back
module _ (c : List TrackPoint) where
  drive-whole : (k : ℕ) (h : History) (a : ℕ) (ms : List Motion) → Whole (drive_score c k h a ms).answer
  unfolding drive_score passed pass_of gathered_of
  drive-whole zero h a ms = refl
  drive-whole (suc k) h a ms = tt

  settle-whole : (k : ℕ) (h : History) (x y : Float) (ps : List Pose) → Whole (settle_score c k h x y ps).answer
  unfolding settle_score
  settle-whole zero h x y ps = tt
  settle-whole (suc k) h x y ps = tt

  one-whole : (h : History) (t : Told) → Whole (score c h t).answer
  unfolding score
  one-whole h (Told.drive a ms) = drive-whole (drive_number c h a ms) h a ms
  one-whole h (Told.settle k x y ps) = settle-whole (settle_number c h k x y ps) h x y ps

  pub scores-whole : (ts : List Told) (h : History) → AllWhole (scores c h ts)
  unfolding scores
  scores-whole [] h = tt
  scores-whole (t ∷ ts) h = (one-whole h t, scores-whole ts (score c h t).kept)

  scores-many : (ts : List Told) (h : History) → length (scores c h ts) ≡ length ts
  unfolding scores
  scores-many [] h = refl
  scores-many (t ∷ ts) h = ap suc (scores-many ts (score c h t).kept)

  refusals-whole : (n : ℕ) → AllWhole (replicate n (refused 4))
  refusals-whole zero = tt
  refusals-whole (suc n) = (tt, refusals-whole n)

  plain-whole : (k : ℕ) (b : Opening) (ts : List Told) → AllWhole (plain_answers k c b ts)
  unfolding plain_answers
  plain-whole zero b ts = scores-whole ts (History.begun b)
  plain-whole (suc k) b ts = refusals-whole (length ts)

  plain-many : (k : ℕ) (b : Opening) (ts : List Told) → length (plain_answers k c b ts) ≡ length ts
  unfolding plain_answers
  plain-many zero b ts = scores-many ts (History.begun b)
  plain-many (suc k) b ts = length-replicate (length ts) (refused 4)

-- what a replay of n calls on the course c wrote gives back the plain scorer's answers to them, whatever stands beyond
read-on : (l : CourseColumns) (seed : ℕ) (c : CoursePoints) (k : ℕ) (b : Opening) (n : ℕ) (ts : List Told) (words : List ℕ) (numbers : List Float) → length ts ≡ n
    → answers_from n (replay_on l seed c k b n ts words numbers).words (replay_on l seed c k b n ts words numbers).numbers ≡ plain_answers k c.points b ts
unfolding replay_on
read-on l seed c k b n ts words numbers e =
    ap (λ (m : ℕ). answers_from m (all_words (plain_answers k c.points b ts) ++ drop (answer_words * n) words) (all_numbers (plain_answers k c.points b ts) ++ drop (answer_numbers * n) numbers))
    (sym (plain-many c.points k b ts ∙ e))
    ∙ all_back (plain_answers k c.points b ts) (plain-whole c.points k b ts) (drop (answer_words * n) words) (drop (answer_numbers * n) numbers)

-- the same of the call: where the columns of calls and answers have room for n calls, what they hold after it is read as the plain scorer's answers
pub replay-read : (seed : ℕ) (l : CourseColumns) (b : Opening) (n : ℕ) (calls : List ℕ) (given : List Float) (words : List ℕ) (numbers : List Float)
    → room_for n (length calls) (length given) (length words) (length numbers) ≡ true
    → answers_from n (replay_of seed l b n calls given words numbers).words (replay_of seed l b n calls given words numbers).numbers
    ≡ plain_answers (start_number (laid_course (lay_number seed l) seed).points most_tiles (lengths_in l) b) (laid_course (lay_number seed l) seed).points b (tolds_to (lengths_in l) calls given n)
unfolding replay_of
replay-read seed l b n calls given words numbers room =
    rw room
    (read-on l seed (laid_course (lay_number seed l) seed) (start_number (laid_course (lay_number seed l) seed).points most_tiles (lengths_in l) b) b n (tolds_to (lengths_in l) calls given n) words numbers (tolds-many (lengths_in l) calls given n))
