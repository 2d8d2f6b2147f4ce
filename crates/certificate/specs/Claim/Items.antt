-- Demand 3 (document 01, "The plain scorer"; document 02, order 1): what a list of calls after a start holds and is lent, what its replies say, and which
-- values a list with a restore may carry. For the course of any list of points. Assumes nothing.
use Rattle.std.specs.Prelude.{◌≡◌, Bool, true, false, cond, not, ◌&&◌, ◌||◌, List, [], ◌∷◌, ◌++◌, map, ℕ, zero, suc, ◌+◌, ◌^◌, eqb, ltb, length, get_or, take, Float}
use Rattle.std.specs.Float.{binary64}
use Rattle.std.specs.Float.Ieee.{fits}
use Rattle.course.specs.Rules.Lengths.{column_length, quad_numbers, offset_count}
use Rattle.course.specs.Grader.Outcome.{Outcome, laid_values_of}
use Rattle.course.specs.declared.tiles.TrackPoint.{TrackPoint}
use Rattle.run.specs.Grader.State.{Columns, columns, short_of}
use Rattle.run.specs.Grader.Numbers.{pose_numbers}
use Rattle.certificate.specs.Rules.Answers.{Reply}
use Rattle.certificate.specs.Rules.Answers.Answer.{drove, settled, refused}
use Rattle.certificate.specs.Rules.Answers.Reply.{answered, decided}
use Rattle.certificate.specs.Grader.Calls.{Call, Request}
use Rattle.certificate.specs.Claim.Scorer.{LentLengths, Opening, Told, Item, KeptCalls, score, save_number, restore_number, after_item}
use Rattle.run.specs.declared.state.Pose.{Pose}
use Rattle.run.specs.declared.dynamics.Motion.{Motion}

-- ---- what the calls are lent

-- of a course of n points: the tiles, offsets and all index entries that were laid, unaltered, with anything beyond them; or columns of which one is
-- too short, whatever they hold
pub data Lending (n : ℕ) : Type 0 where
  laid : List Float → List ℕ → List ℕ → Lending n
  short : (l : Columns) → short_of n l ≡ true → Lending n

-- the columns of a lending, where `o` is what laying left and answered
unfoldable pub lent_by : {n : ℕ} → Outcome → Lending n → Columns
lent_by {n} o (laid ts offs l) =
    columns (take (quad_numbers (column_length n)) o.lent.tiles ++ ts) (take offset_count o.lent.offsets ++ offs)
    (take (laid_values_of o.answer).entries o.lent.list ++ l)
lent_by {n} o (short l is) = l

unfoldable pub lengths_of : Columns → LentLengths
lengths_of l = record { tiles = length l.tiles; offsets = length l.offsets }

-- a drive or settle on a course of n points, whatever action, motions, hull and poses it carries
pub data CourseCall (n : ℕ) : Type 0 where
  drive : ℕ → List Motion → CourseCall n
  settle : Lending n → Float → Float → List Pose → CourseCall n

-- as the grader gets it
unfoldable pub call_of : {n : ℕ} → Outcome → CourseCall n → Call
call_of o (drive a ms) = Call.drive a ms
call_of o (settle by x y ps) = Call.settle (lent_by o by) x y ps

-- as the plain scorer is told of it: of lent columns the lengths alone
unfoldable pub told_of : {n : ℕ} → Outcome → CourseCall n → Told
told_of o (drive a ms) = Told.drive a ms
told_of o (settle by x y ps) = Told.settle (lengths_of (lent_by o by)) x y ps

abbrev pub calls_of : {n : ℕ} → Outcome → List (CourseCall n) → List Call
calls_of o cs = map (call_of o) cs

abbrev pub tolds_of : {n : ℕ} → Outcome → List (CourseCall n) → List Told
tolds_of o cs = map (told_of o) cs

-- ---- the list: drives and settles; saves with any output; restores of what an accepted save of the list wrote, unaltered, on the same course. A restore
-- names its save by how many were accepted after it, so that it may mean any of them, also one before an earlier restore, and as often as it likes

pub data CourseItem (n : ℕ) : Type 0 where
  call : CourseCall n → CourseItem n
  save : List ℕ → CourseItem n
  restore : Lending n → ℕ → CourseItem n

-- as the grader gets it: a restore with the n that laying answered
unfoldable pub request_by : {n : ℕ} → Outcome → CourseItem n → Request
request_by o (call c) = Request.call (call_of o c)
request_by o (save out) = Request.save out
request_by o (restore by i) = Request.restore (lent_by o by) (laid_values_of o.answer).n i

-- as the plain scorer is told of it: of an output and of lent columns the lengths alone, and no bytes
unfoldable pub item_by : {n : ℕ} → Outcome → CourseItem n → Item
item_by o (call c) = Item.call (told_of o c)
item_by o (save out) = Item.save (length out)
item_by o (restore by i) = Item.restore (lengths_of (lent_by o by)) i

abbrev pub requests_of : {n : ℕ} → Outcome → List (CourseItem n) → List Request
requests_of o is = map (request_by o) is

abbrev pub items_of : {n : ℕ} → Outcome → List (CourseItem n) → List Item
items_of o is = map (item_by o) is

-- ---- what is to be replied, on the course of the points c: to drives and settles the plain scorer's answers; to saves and restores, which it does not answer,
-- the number of the cause
module _ (c : List TrackPoint) where
  unfoldable pub reply_to : KeptCalls → Item → Reply
  reply_to k (Item.call t) = answered (score c k.calls t).answer
  reply_to k (Item.save room) = decided (save_number c k.calls room)
  reply_to k (Item.restore l i) = decided (restore_number c k l i)

  unfoldable pub replies_to : KeptCalls → List Item → List Reply
  replies_to k [] = []
  replies_to k (i ∷ is) = reply_to k i ∷ replies_to (after_item c k i) is

-- ---- what a list of replies says of the calls that stand: an accepted restore leaves those of its save

-- the tiles credited at the start with the new tiles of the accepted settles; and whether the last of these says that the run has ended
pub record Sums : Type 0 where
  pub total : ℕ
  pub ended : Bool

abbrev pub sums : ℕ → Bool → Sums
sums n e = record { total = n; ended = e }

unfoldable pub sums_by : Sums → Reply → Sums
sums_by s (answered (drove fs)) = s
sums_by s (answered (settled v)) = sums (s.total + v.new_tiles) v.ended
sums_by s (answered (refused k)) = s
sums_by s (decided k) = s

-- a save or restore is accepted
unfoldable pub was_accepted : Reply → Bool
was_accepted (answered a) = false
was_accepted (decided zero) = true
was_accepted (decided (suc k)) = false

-- those of now, and those at each accepted save, the last one first
pub record KeptSums : Type 0 where
  pub now : Sums
  pub saves : List Sums

abbrev pub kept_sums : Sums → List Sums → KeptSums
kept_sums s ss = record { now = s; saves = ss }

unfoldable pub sums_after : {n : ℕ} → KeptSums → CourseItem n → Reply → KeptSums
sums_after t (call c) r = kept_sums (sums_by t.now r) t.saves
sums_after t (save out) r = cond (was_accepted r) (kept_sums t.now (t.now ∷ t.saves)) t
sums_after t (restore by i) r = cond (was_accepted r) (kept_sums (get_or t.saves i t.now) t.saves) t

unfoldable pub sums_over : {n : ℕ} → KeptSums → List (CourseItem n) → List Reply → KeptSums
sums_over t [] rs = t
sums_over t (i ∷ is) [] = t
sums_over t (i ∷ is) (r ∷ rs) = sums_over (sums_after t i r) is rs

-- ---- a reply that can occur here: 10 and a settle's 6 cannot, nor a save's 4 and a restore's 12
unfoldable pub occurs : {n : ℕ} → CourseItem n → Reply → Bool
occurs i (answered (drove fs)) = true
occurs i (answered (settled v)) = true
occurs (call (drive a ms)) (answered (refused k)) = not (eqb k 10)
occurs (call (settle by x y ps)) (answered (refused k)) = not (eqb k 10) && not (eqb k 6)
occurs (save out) (decided k) = not (eqb k 4)
occurs (restore by i) (decided k) = not (eqb k 10) && not (eqb k 12)
occurs (call c) (decided k) = false
occurs (save out) (answered (refused k)) = false
occurs (restore by i) (answered (refused k)) = false

unfoldable pub all_occur : {n : ℕ} → List (CourseItem n) → List Reply → Bool
all_occur [] rs = true
all_occur (i ∷ is) [] = true
all_occur (i ∷ is) (r ∷ rs) = occurs i r && all_occur is rs

-- ---- after a refused start: every drive, settle and save by 4, every restore by 11
unfoldable pub turned_down : {n : ℕ} → CourseItem n → Reply
turned_down (call c) = answered (refused 4)
turned_down (save out) = decided 4
turned_down (restore by i) = decided 11

-- ---- values that bytes can carry. Here a float is any number of the arithmetic and a seed any natural number, but a save has 8 bytes for either (order 3).
-- Of the code's own types, f64 and u64, every value passes. Asked only of a list with a restore: without one nothing is read back

unfoldable pub all_fit : List Float → Bool
all_fit [] = true
all_fit (x ∷ xs) = fits binary64 x && all_fit xs

unfoldable pub is_restore : {n : ℕ} → CourseItem n → Bool
is_restore (call c) = false
is_restore (save out) = false
is_restore (restore by i) = true

unfoldable pub some_restore : {n : ℕ} → List (CourseItem n) → Bool
some_restore [] = false
some_restore (i ∷ is) = is_restore i || some_restore is

unfoldable pub typed_item : {n : ℕ} → CourseItem n → Bool
typed_item (call (drive a ms)) = true
typed_item (call (settle by x y ps)) = all_fit (pose_numbers ps)
typed_item (save out) = true
typed_item (restore by i) = true

unfoldable pub typed_items : {n : ℕ} → List (CourseItem n) → Bool
typed_items [] = true
typed_items (i ∷ is) = typed_item i && typed_items is

-- the seed, share and poses that start is told, and the poses of every settle
unfoldable pub typed : {n : ℕ} → ℕ → Opening → List (CourseItem n) → Bool
typed seed b is = not (some_restore is) || (ltb seed (2 ^ 64) && (fits binary64 b.share && (all_fit (pose_numbers b.poses) && typed_items is)))
