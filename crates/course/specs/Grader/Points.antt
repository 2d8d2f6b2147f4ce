-- Document 01, "Beside the run" (Points) and "Refusals by cause": points 9, 2, 8, 3. Assumes nothing.
use Rattle.std.specs.Prelude.{ℕ, Bool, true, false, cond, not, ◌&&◌, List, [], ◌∷◌, length, ◌==◌, nat_le, nat_lt, Result, Ok, Err, Float}
use Rattle.std.specs.Result.{result_and}
use Rattle.course.specs.Rules.Arithmetic.{natural}
use Rattle.course.specs.Rules.Numeric.{within}
use Rattle.course.specs.Rules.Lengths.{most_points, column_length}
use Rattle.course.specs.Rules.Tiles.{points_of}
use Rattle.course.specs.Grader.Outcome.{CourseColumns, Outcome, outcome, roomy_of, lay_into}
use Rattle.course.specs.Grader.Cause.{check}
use Rattle.course.specs.declared.cause.Cause.{Cause}
use Rattle.course.specs.declared.cause.Cause.TheVariants.{Length, Count, Range}
use Rattle.course.specs.declared.tiles.TrackPoint.{TrackPoint}
use Rattle.course.specs.declared.points.LayError.TheVariants.{Refused}

-- beta within ±16, x and y within ±1,000
unfoldable pub good_point : TrackPoint → Bool
good_point p = within (natural 16) p.beta && (within (natural 1000) p.x && within (natural 1000) p.y)

unfoldable pub all_good : List TrackPoint → Bool
all_good [] = true
all_good (p ∷ ps) = good_point p && all_good ps

-- the given columns have the count given with them
unfoldable pub given_of : List Float → List Float → List Float → ℕ → Bool
given_of b x y k = nat_le k (length b) && (nat_le k (length x) && nat_le k (length y))

-- none, or too many (9)
unfoldable pub count_cause : ℕ → Result Unit Cause
count_cause k = cond (k == 0) (Err Count) (cond (nat_lt most_points k) (Err Count) (Ok tt))

-- a given column that is short (2), or a point out of its range (8)
unfoldable pub columns_cause : List Float → List Float → List Float → ℕ → Result Unit Cause
columns_cause b x y k = cond (not (given_of b x y k)) (Err Length) (cond (not (all_good (points_of b x y k))) (Err Range) (Ok tt))

-- The first cause of given points b, x, y and their count k that holds: 9 for none or too many, 2 where a lent column (`roomy` says that
-- none is) or a given one is short, 8.
unfoldable pub given_cause : Bool → List Float → List Float → List Float → ℕ → Result Unit Cause
given_cause roomy b x y k = result_and (count_cause k) (result_and (check roomy Length) (columns_cause b x y k))

unfoldable pub points_cause : List Float → List Float → List Float → ℕ → CourseColumns → Result Unit Cause
points_cause b x y k l = given_cause (roomy_of (column_length k) l.alpha l.beta l.x l.y l.tiles l.offsets) b x y k

-- by the cause: an accepted call lays the course of the given points, in columns of m; a refused one leaves the columns as they were
unfoldable pub points_at : ℕ → Result Unit Cause → List TrackPoint → CourseColumns → Outcome
points_at m (Ok none) ps l = lay_into m false ps l
points_at m (Err c) ps l = outcome (Err (Refused c)) l

unfoldable pub points_call : List Float → List Float → List Float → ℕ → CourseColumns → Outcome
points_call b x y k l = points_at (column_length k) (points_cause b x y k l) (points_of b x y k) l
