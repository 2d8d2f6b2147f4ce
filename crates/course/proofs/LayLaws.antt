-- What a call of lay leaves and answers: the course of its seed, refusals by 2 and 3 alone, and nothing that depends on what stood in the columns. Assumes nothing.
use Rattle.std.proofs.Common.{◌≡◌, ℕ, ◌+◌, ◌-◌, ◌<◌, ◌≤◌, Bool, true, false, cond, ltb, List, [], ◌++◌, length, take, drop, replicate, sym, refl, ap, ◌∙◌, ap₂, append_assoc, arith, length-append, take-append-drop, take_at}
use lib.Bits.{bit_xor}
use Rattle.std.specs.Prelude.{Result, Ok, Err}
use lib.ListN.{length-replicate, length-map}
use lib.Ieee.{Float}
use Rattle.course.specs.Rules.Arithmetic.{nought}
use Rattle.course.specs.Rules.Constants.{max_attempts}
use Rattle.course.specs.Rules.Lengths.{most_points, laid_length, column_length, quad_numbers}
use Rattle.course.specs.Rules.Tiles.{betas, xs, ys, points_of, tiles_of}
use Rattle.course.specs.Grader.Course.{from_points, cells_of}
use Rattle.course.specs.Grader.Outcome.{CourseColumns, lent, Outcome, outcome, roomy_of, filled, written, answered, lay_into, laid_cause_of, laid_values_of, error_number, error_entries}
use Rattle.course.specs.Grader.Cause.{number_of, check}
use Rattle.course.specs.declared.cause.Cause.{Cause}
use Rattle.course.specs.declared.cause.Cause.TheVariants.{Length}
use Rattle.rng.specs.Rules.SplitMix.{at_state, seeded}
use Rattle.course.specs.Rules.Lay.{CoursePoints, course_from, course_within, course_of}
use Rattle.course.specs.Grader.LayCall.{lay_cause, lay_at, lay_call}
use Rattle.course.specs.Steps.Lay.{Columns}
use Rattle.course.specs.declared.tiles.TrackPoint.{TrackPoint}
use Rattle.course.specs.declared.points.LaidCourse.{LaidCourse}
use Rattle.course.specs.declared.points.LayError.{LayError}
use Rattle.course.specs.declared.points.LayError.TheVariants.{Short, Refused}
use Rattle.course.proofs.CourseTiles.{points-are, tiles-long}
use Rattle.course.proofs.CourseSizes.{Sized, within-sized, course-sized}
use Rattle.course.proofs.LengthLaws.{laid-few, column-laid}
use Rattle.course.proofs.LaidColumns.{lay-past}
use Rattle.course.proofs.Generating.{Made}

-- the columns lent to lay have their lengths
abbrev pub roomy : CourseColumns → Bool
roomy l = roomy_of laid_length l.alpha l.beta l.x l.y l.tiles l.offsets

-- ---- for the proofs of the calls
pub refused-short : (c : CoursePoints) {l : CourseColumns} {r : Result LaidCourse LayError} {x : Cause} → r ≡ Err (Refused x) → Err x ≡ check (roomy l) Length → outcome r l ≡ lay_at (lay_cause l) c l
unfolding lay_cause lay_at
refused-short c {l} is h = ap (λ (z : Result LaidCourse LayError). outcome z l) is ∙ ap (λ (z : Result Unit Cause). lay_at z c l) h

short-columns : (c : CoursePoints) (l : CourseColumns) → roomy l ≡ false → outcome (Err (Refused Length)) l ≡ lay_at (lay_cause l) c l
unfolding check
short-columns c l h = refused-short c refl (rw h)

pub laid-roomy : (c : CoursePoints) (l : CourseColumns) → roomy l ≡ true → lay_into laid_length c.fallback c.points l ≡ lay_at (lay_cause l) c l
unfolding lay_cause lay_at check
laid-roomy c l h = rw h

in-front : (own c : List Float) (n : ℕ) → take n c ≡ own → c ≡ own ++ drop n c
in-front own c n e = sym (take-append-drop n c) ∙ ap (λ (z : List Float). z ++ drop n c) e

-- the columns of points among those lent
abbrev pub points_lent : CourseColumns → Columns
points_lent l = record { alpha = l.alpha; beta = l.beta; x = l.x; y = l.y }

-- when `finish` is called: the columns that lay was lent have their lengths, and the course's points stand in front
pub finish-size : {p : CoursePoints} {c₀ c : Columns} {n : ℕ} {fallback : Bool} → Made p c₀ c n fallback → Sized p → (0 < n) × (n ≤ laid_length) × (laid_length ≤ most_points)
finish-size r s = (rw r.front.count s.some, omega (arith, r.front.count, s.few), laid-few)

-- what it leaves and answers is what lay does
pub laid : {p : CoursePoints} (l : CourseColumns) {c : Columns} {a b x y : List Float} {n : ℕ} {fallback : Bool} {w : Outcome} → roomy l ≡ true → Made p (points_lent l) c n fallback
    → a ≡ c.alpha → b ≡ c.beta → x ≡ c.x → y ≡ c.y
    → w ≡ lay_into laid_length fallback (points_of b x y n) (lent a b x y l.tiles l.offsets l.list) → w ≡ lay_at (lay_cause l) p l
laid {p} l {c} {n = n} {fallback} full r ea eb ex ey is =
    let d = r.front in
    let there : points_of c.beta c.x c.y n ≡ p.points =
    (λ i. points_of (in-front _ c.beta n d.beta i) (in-front _ c.x n d.x i) (in-front _ c.y n d.y i) (d.count i))
    ∙ points-are p.points (drop n c.beta) (drop n c.x) (drop n c.y) in
    is
    ∙ (λ i. lay_into laid_length fallback (points_of (eb i) (ex i) (ey i) n) (lent (ea i) (eb i) (ex i) (ey i) l.tiles l.offsets l.list))
    ∙ lay-past laid_length fallback (points_of c.beta c.x c.y n) l.alpha l.beta l.x l.y c.alpha c.beta c.x c.y l.tiles l.offsets l.list d.kept-a d.kept_b d.kept-x d.kept-y
    ∙ ap₂ (λ (f : Bool) (ps : List TrackPoint). lay_into laid_length f ps l) r.ring there
    ∙ laid-roomy p l full

-- ---- an answer gives its number back, a course's answer its values, and cause 3 the length needed
pub number-back : (e : LayError) → laid_cause_of (Err e) ≡ error_number e
unfolding laid_cause_of
number-back e = refl

-- 0 where the call was not refused
pub accepted-number : (v : LaidCourse) → laid_cause_of (Ok v) ≡ 0
unfolding laid_cause_of
accepted-number v = refl

pub values-back : (v : LaidCourse) → laid_values_of (Ok v) ≡ v
unfolding laid_values_of
values-back v = refl

pub length_back : (k : ℕ) → (laid_values_of (Err (Short k))).entries ≡ k
unfolding laid_values_of error_entries
length_back k = refl

-- ---- laws of the calls. Lay refuses by 2 exactly where a column is short, and then by 3 exactly where the list is
laid-cause : (short fallback : Bool) (ps : List TrackPoint) → laid_cause_of (answered short fallback ps) ≡ cond short 3 0
unfolding answered laid_cause_of error_number
laid-cause true fallback ps = refl
laid-cause false fallback ps = refl

cause-at : (c : CoursePoints) (l : CourseColumns) (b : Bool) → roomy l ≡ b → laid_cause_of (lay_at (lay_cause l) c l).answer ≡ cond b (cond (ltb (length l.list) (cells_of c.points)) 3 0) 2
unfolding lay_into laid_cause_of error_number number_of
cause-at c l true h = ap (λ (w : Outcome). laid_cause_of w.answer) (sym (laid-roomy c l h)) ∙ laid-cause (ltb (length l.list) (cells_of c.points)) c.fallback c.points
cause-at c l false h = ap (λ (w : Outcome). laid_cause_of w.answer) (sym (short-columns c l h))

pub lay-cause : (attempts seed : ℕ) (l : CourseColumns)
    → laid_cause_of (lay_call attempts seed l).answer ≡ cond (roomy l) (cond (ltb (length l.list) (cells_of (course_within attempts seed).points)) 3 0) 2
unfolding lay_call
lay-cause attempts seed l = cause-at (course_within attempts seed) l (roomy l) refl

-- a call refused by 2 leaves the columns as they were
pub lay-untouched : (attempts seed : ℕ) (l : CourseColumns) → roomy l ≡ false → lay_call attempts seed l ≡ outcome (Err (Refused Length)) l
unfolding lay_call
lay-untouched attempts seed l h = sym (short-columns (course_within attempts seed) l h)

-- with room, lay writes and answers by the seed's points
pub lay-roomy : (attempts seed : ℕ) (l : CourseColumns) → roomy l ≡ true → lay_call attempts seed l ≡ lay_into laid_length (course_within attempts seed).fallback (course_within attempts seed).points l
unfolding lay_call
lay-roomy attempts seed l h = sym (laid-roomy (course_within attempts seed) l h)

-- the same of `lay`, by the seed's course
pub lay-course : (seed : ℕ) (l : CourseColumns) → roomy l ≡ true → lay_call max_attempts seed l ≡ lay_into laid_length (course_of seed).fallback (course_of seed).points l
unfolding course_of
lay-course seed l h = lay-roomy max_attempts seed l h

-- and in columns of that course's length
pub lay-columns : (seed : ℕ) (l : CourseColumns) → roomy l ≡ true → lay_call max_attempts seed l ≡ lay_into (column_length (length (course_of seed).points)) (course_of seed).fallback (course_of seed).points l
lay-columns seed l h =
    lay-course seed l h
    ∙ ap (λ (m : ℕ). lay_into m (course_of seed).fallback (course_of seed).points l) (sym (column-laid (length (course_of seed).points) (omega (arith, (course-sized seed).few))))

-- ---- the course is a function of the seed alone

-- a seed of any width enters it by its generator, whose state is hexadecimal CA75EED0 xor the seed (document 02, order 3): below 2^32 as before
pub seed-enters : (seed : ℕ) → course_of seed ≡ course_from max_attempts (at_state (bit_xor 0xCA75_EED0 seed))
unfolding course_of course_within seeded
seed-enters seed = refl

-- what lay leaves in the stated lengths
filled-stated : (m : ℕ) (own c : List Float) → length own ≤ m → take m (filled m own c) ≡ own ++ replicate (m - length own) nought
unfolding filled
filled-stated m own c h =
    ap (take m) (sym (append_assoc own (replicate (m - length own) nought) (drop m c)))
    ∙ take_at (own ++ replicate (m - length own) nought) (drop m c) m (length-append own _ ∙ ap (λ (k : ℕ). length own + k) (length-replicate (m - length own) nought) ∙ back (length own) h)
  where
    back : (k : ℕ) → k ≤ m → k + (m - k) ≡ m
    back k e = omega arith

-- two sets of columns agree in the lengths of m points
pub record Agree (m : ℕ) (l l' : CourseColumns) : Type 0 where
  pub alpha : take m l.alpha ≡ take m l'.alpha
  pub beta : take m l.beta ≡ take m l'.beta
  pub x : take m l.x ≡ take m l'.x
  pub y : take m l.y ≡ take m l'.y
  pub tiles : take (quad_numbers m) l.tiles ≡ take (quad_numbers m) l'.tiles

same-filled : (m : ℕ) (own c c' : List Float) → length own ≤ m → take m (filled m own c) ≡ take m (filled m own c')
same-filled m own c c' h = filled-stated m own c h ∙ sym (filled-stated m own c' h)

into-agree : (m : ℕ) (fallback : Bool) (ps : List TrackPoint) (l l' : CourseColumns) → length ps ≤ m → Agree m (lay_into m fallback ps l).lent (lay_into m fallback ps l').lent
unfolding lay_into written from_points
into-agree m fallback ps l l' few =
    record {
      alpha = same-filled m [] l.alpha l'.alpha (omega arith);
      beta = same-filled m (betas ps) l.beta l'.beta (rw (length-map ps (λ (p : TrackPoint). p.beta)) few);
      x = same-filled m (xs ps) l.x l'.x (rw (length-map ps (λ (p : TrackPoint). p.x)) few);
      y = same-filled m (ys ps) l.y l'.y (rw (length-map ps (λ (p : TrackPoint). p.y)) few);
      tiles = same-filled (quad_numbers m) (tiles_of ps) l.tiles l'.tiles (rw (tiles-long ps (length ps)) (omega (arith, few)));
    }

pub same-course : (attempts seed : ℕ) (l l' : CourseColumns) → roomy l ≡ true → roomy l' ≡ true → Agree laid_length (lay_call attempts seed l).lent (lay_call attempts seed l').lent
same-course attempts seed l l' h h' =
    rw (lay-roomy attempts seed l h, lay-roomy attempts seed l' h') (into-agree laid_length _ _ l l' (omega (arith, (within-sized attempts seed).few)))
