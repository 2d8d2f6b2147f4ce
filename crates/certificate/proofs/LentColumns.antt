-- What a start or settle is lent of a laid course: its tiles, offsets and index entries, in their lengths. Assumes nothing.
use mathlib.Core.Bool.{Bool, false, ◌||◌}
use mathlib.Core.List.{List, ◌++◌, append_assoc}
use mathlib.Core.Path.{◌≡◌, sym, ap, ap₂, ◌∙◌}
use Prim.Native.Nat.{ℕ, ◌+◌, ◌-◌, ◌≤◌}
use native.Mathlib.Omega.{arith}
use lib.Dec.{ltb}
use lib.ListN.{length, take, drop, replicate, length-append, length-replicate}
use lib.Seq.{take_at}
use lib.Ieee.{Float}
use borrow.Author.Tests.{le-ltb}
use Rattle.std.specs.Prelude.{Ok}
use Rattle.course.specs.Rules.Arithmetic.{nought}
use Rattle.course.specs.Rules.Lengths.{most_points, column_length, quad_numbers, cell_count, offset_count}
use Rattle.course.specs.Rules.Tiles.{tiles_of}
use Rattle.course.specs.Rules.Rect.{holds_of}
use Rattle.course.specs.Grader.Index.{start}
use Rattle.course.specs.Grader.Course.{from_points, cells_of}
use Rattle.course.specs.Grader.Outcome.{CourseColumns, Outcome, outcome, filled, written, answered, lay_into, laid_figures, laid_cause_of, laid_values_of}
use Rattle.course.specs.declared.tiles.TrackPoint.{TrackPoint}
use Rattle.course.proofs.LengthLaws.{points-fit}
use Rattle.course.proofs.CourseTiles.{tiles-long}
use Rattle.course.proofs.IndexLaws.{table-length, index-length}
use Rattle.course.proofs.CourseRects.{needed-start}
use Rattle.run.specs.Rules.Arguments.{short_columns}
use Rattle.run.specs.Grader.State.{columns, short_of}
use Rattle.certificate.specs.Claim.Items.{lent_by}
use Rattle.certificate.specs.Claim.Items.Lending.{laid}

-- ---- lengths of a course's columns

-- the tiles have room
pub tiles-few : (m : ℕ) (c : List TrackPoint) → length c ≤ m → length (tiles_of c) ≤ quad_numbers m
tiles-few m c h = omega (arith, tiles-long c (length c), h)

-- an offset for each cell, and the list's end
pub offsets-long : (c : List TrackPoint) → length (from_points c).offsets ≡ offset_count
unfolding from_points
offsets-long c = table-length (start (holds_of (tiles_of c)) (length c)) (cell_count + 1)

-- the list has the rectangles' cells summed
list-long : (c : List TrackPoint) → length (from_points c).list ≡ cells_of c
unfolding from_points cells_of
list-long c = index-length (holds_of (tiles_of c)) (length c) cell_count ∙ sym (needed-start (tiles_of c) (length c))

-- a course's own numbers and the zeros behind them are m
pub own-long : (m : ℕ) (own : List Float) → length own ≤ m → length (own ++ replicate (m - length own) nought) ≡ m
own-long m own h = omega (arith, length-append own (replicate (m - length own) nought), length-replicate (m - length own) nought, h)

-- the first m entries of a filled column, with anything beyond them
filled-front : (m : ℕ) (own was ts : List Float) → length own ≤ m → take m (filled m own was) ++ ts ≡ own ++ (replicate (m - length own) nought ++ ts)
unfolding filled
filled-front m own was ts h =
    let zeros : List Float = replicate (m - length own) nought in
    ap (λ (z : List Float). z ++ ts) (ap (take m) (sym (append_assoc own zeros (drop m was))) ∙ take_at (own ++ zeros) (drop m was) m (own-long m own h))
    ∙ append_assoc own zeros ts

-- a front of m entries, with anything beyond them
front : (m : ℕ) (own past offs : List ℕ) → length own ≡ m → take m (own ++ past) ++ offs ≡ own ++ offs
front m own past offs e = ap (λ (z : List ℕ). z ++ offs) (take_at own past m e)

-- columns of equal lists are equal
same-columns : {ts ts' : List Float} {o o' l l' : List ℕ} → ts ≡ ts' → o ≡ o' → l ≡ l' → columns ts o l ≡ columns ts' o' l'
same-columns p q r = λ i. columns (p i) (q i) (r i)

-- ---- laid in columns of m points, with a list that is long enough
module _ (m : ℕ) (fallback : Bool) (c : List TrackPoint) (l : CourseColumns) (fits : ltb (length l.list) (cells_of c) ≡ false) where
  -- all is written, and the answer is the course
  pub laid-whole : lay_into m fallback c l ≡ outcome (Ok (laid_figures fallback c)) (written m false (from_points c) l)
  unfolding lay_into answered
  laid-whole = ap (λ (s : Bool). outcome (answered s fallback c) (written m s (from_points c) l)) fits

  -- n is the number of points
  pub count : (laid_values_of (lay_into m fallback c l).answer).n ≡ length c
  unfolding laid_values_of laid_figures
  count = ap (λ (o : Outcome). (laid_values_of o.answer).n) laid-whole

  -- laying is not refused
  pub cause : laid_cause_of (lay_into m fallback c l).answer ≡ 0
  unfolding laid_cause_of
  cause = ap (λ (o : Outcome). laid_cause_of o.answer) laid-whole

-- ---- what is lent of a course laid in columns of its own length
abbrev pub own_length : List TrackPoint → ℕ
own_length c = column_length (length c)

-- zeros behind the course's own tiles
abbrev pub zeros_past : List TrackPoint → List Float
zeros_past c = replicate (quad_numbers (own_length c) - length (tiles_of c)) nought

module _ (fallback : Bool) (c : List TrackPoint) (l : CourseColumns) (fits : ltb (length l.list) (cells_of c) ≡ false) (few : length c ≤ most_points) where
  tiles-fit : length (tiles_of c) ≤ quad_numbers (own_length c)
  tiles-fit = tiles-few (own_length c) c (points-fit (length c) few)

  -- the course's own tiles, zeros and what is lent beyond; all its offsets and index entries and what is lent beyond
  pub lent_laid : (ts : List Float) (offs l' : List ℕ) → lent_by {n = length c} (lay_into (own_length c) fallback c l) (laid ts offs l')
      ≡ columns (tiles_of c ++ (zeros_past c ++ ts)) ((from_points c).offsets ++ offs) ((from_points c).list ++ l')
  unfolding lent_by laid_values_of laid_figures written from_points
  lent_laid ts offs l' =
      ap (λ (o : Outcome). lent_by {n = length c} o (laid ts offs l')) (laid-whole (own_length c) fallback c l fits)
      ∙ same-columns (filled-front (quad_numbers (own_length c)) (tiles_of c) l.tiles ts tiles-fit)
      (front offset_count (from_points c).offsets (drop offset_count l.offsets) offs (offsets-long c))
      (front (cells_of c) (from_points c).list (drop (length (from_points c).list) l.list) l' (list-long c))

  -- the lent columns are never short
  pub not_short : (ts : List Float) (offs l' : List ℕ) → short_of (length c) (lent_by {n = length c} (lay_into (own_length c) fallback c l) (laid ts offs l')) ≡ false
  unfolding short_of short_columns
  not_short ts offs l' =
      ap (short_of (length c)) (lent_laid ts offs l')
      ∙ ap₂ ◌||◌
      (le-ltb (length (tiles_of c ++ (zeros_past c ++ ts))) (quad_numbers (own_length c))
      (omega (arith, tiles-fit, length-append (tiles_of c) (zeros_past c ++ ts), length-append (zeros_past c) ts, length-replicate (quad_numbers (own_length c) - length (tiles_of c)) nought)))
      (le-ltb (length ((from_points c).offsets ++ offs)) offset_count (omega (arith, length-append (from_points c).offsets offs, offsets-long c)))
