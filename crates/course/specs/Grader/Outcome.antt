-- Document 01, "Lay" (Lent) and "Refusals by cause": what a course leaves in the lent columns, and what is answered. Assumes nothing.
use Rattle.std.specs.Prelude.{ℕ, ◌-◌, Bool, false, cond, ◌&&◌, List, [], ◌++◌, length, drop, replicate, nat_le, nat_lt, slice_index_or, Result, Ok, Err, Float}
use Rattle.std.specs.Borrow.{MutBor}
use Rattle.course.specs.Rules.Arithmetic.{nought}
use Rattle.course.specs.Rules.Lengths.{quad_numbers, offset_count}
use Rattle.course.specs.Rules.Tiles.{no_point}
use Rattle.course.specs.Grader.Course.{Course, from_points, cells_of}
use Rattle.course.specs.Grader.Cause.{number_of, number_by}
use Rattle.course.specs.declared.tiles.TrackPoint.{TrackPoint}
use Rattle.course.specs.declared.lent.LentColumns.{LentColumns}
use Rattle.course.specs.declared.points.LaidCourse.{LaidCourse}
use Rattle.course.specs.declared.points.LayError.{LayError}
use Rattle.course.specs.declared.points.LayError.TheVariants.{Short, Refused}

-- the lent columns
pub record CourseColumns : Type 0 where
  pub alpha : List Float
  pub beta : List Float
  pub x : List Float
  pub y : List Float
  pub tiles : List Float
  pub offsets : List ℕ
  pub list : List ℕ

abbrev pub lent : List Float → List Float → List Float → List Float → List Float → List ℕ → List ℕ → CourseColumns
lent a b x y t o l = record { alpha = a; beta = b; x = x; y = y; tiles = t; offsets = o; list = l }

-- the columns that a call is lent together, and those that it leaves: at its exit the fields stand in pairs, in their order
abbrev pub lent_to : LentColumns → CourseColumns
lent_to c = lent c.alpha.now c.beta.now c.x.now c.y.now c.tiles.now c.offsets.now c.list.now

abbrev Numbers : Type 0
Numbers = MutBor (List Float)

abbrev Counts : Type 0
Counts = MutBor (List ℕ)

abbrev pub left_by : Numbers × (Numbers × (Numbers × (Numbers × (Numbers × (Counts × (Counts × Unit {0})))))) → CourseColumns
left_by c = lent c.0.now c.1.0.now c.1.1.0.now c.1.1.1.0.now c.1.1.1.1.0.now c.1.1.1.1.1.0.now c.1.1.1.1.1.1.0.now

-- an answer, and the lent columns after the call
pub record Outcome : Type 0 where
  pub answer : Result LaidCourse LayError
  pub lent : CourseColumns

abbrev pub outcome : Result LaidCourse LayError → CourseColumns → Outcome
outcome r l = record { answer = r; lent = l }

-- the lent columns have their lengths, those of points m entries; the index list has none
unfoldable pub roomy_of : ℕ → List Float → List Float → List Float → List Float → List Float → List ℕ → Bool
roomy_of m a b x y t o =
    nat_le m (length a)
    && (nat_le m (length b) && (nat_le m (length x) && (nat_le m (length y) && (nat_le (quad_numbers m) (length t) && nat_le offset_count (length o)))))

-- a column of m entries afterwards: the course's own, 0 up to m, and what stood beyond
unfoldable pub filled : ℕ → List Float → List Float → List Float
filled m own c = own ++ (replicate (m - length own) nought ++ drop m c)

-- columns of m points with the course; offsets and list as before where the list is too short (cause 3)
unfoldable pub written : ℕ → Bool → Course → CourseColumns → CourseColumns
written m short c l = record {
  alpha = filled m [] l.alpha;
  beta = filled m c.beta l.beta;
  x = filled m c.x l.x;
  y = filled m c.y l.y;
  tiles = filled (quad_numbers m) c.tiles l.tiles;
  offsets = cond short l.offsets (c.offsets ++ drop offset_count l.offsets);
  list = cond short l.list (c.list ++ drop (length c.list) l.list);
}

-- ---- what is answered

-- the values of a course's answer: n, fallback, list length and the first point
unfoldable pub laid_figures : Bool → List TrackPoint → LaidCourse
laid_figures fallback ps = record { n = length ps; fallback = fallback; entries = cells_of ps; first = slice_index_or ps 0 no_point }

-- where a case has no values: zeros, no fallback and a point of noughts
abbrev pub no_course : ℕ → LaidCourse
no_course entries = record { n = 0; fallback = false; entries = entries; first = record { beta = nought; x = nought; y = nought } }

abbrev pub no_values : LaidCourse
no_values = no_course 0

-- number and values of each case: an error's number is its cause's, 3 for a short list; `no_values` for what a case does not have
unfoldable pub error_number : LayError → ℕ
error_number (Short length-needed) = 3
error_number (Refused c) = number_of c

unfoldable pub laid_cause_of : Result LaidCourse LayError → ℕ
laid_cause_of r = number_by error_number r

-- the length needed at cause 3
unfoldable pub error_entries : LayError → ℕ
error_entries (Short length-needed) = length-needed
error_entries (Refused c) = 0

unfoldable pub laid_values_of : Result LaidCourse LayError → LaidCourse
laid_values_of (Ok v) = v
laid_values_of (Err e) = no_course (error_entries e)

-- the answer of a call with room, by whether the list is too short: cause 3 with the length needed, or the values
unfoldable pub answered : Bool → Bool → List TrackPoint → Result LaidCourse LayError
answered short fallback ps = cond short (Err (Short (cells_of ps))) (Ok (laid_figures fallback ps))

-- ---- what is done

-- what lay and points do, in columns of m points, once the course's points are known
unfoldable pub lay_into : ℕ → Bool → List TrackPoint → CourseColumns → Outcome
lay_into m fallback ps l =
    outcome (answered (nat_lt (length l.list) (cells_of ps)) fallback ps) (written m (nat_lt (length l.list) (cells_of ps)) (from_points ps) l)
