-- Document 01, "Beside the run" (Curbs; the Rust's `border_quads`) and "Refusals by cause": curbs 9, 2, 8. Over the given columns
-- b (beta), x and y of k points. Assumes nothing.
use Rattle.std.specs.Prelude.{ℕ, zero, suc, ◌+◌, ◌-◌, ◌%◌, Bool, cond, ◌&&◌, ◌||◌, List, [], ◌∷◌, ◌++◌, length, drop, replicate, nat_le, nat_lt, slice_index_or, Result, Ok, Err, Float}
use Rattle.std.specs.Result.{result_unwrap_or}
use Rattle.std.specs.Float.{nan}
use Rattle.std.specs.Float.Ieee.{lt, neg}
use Rattle.course.specs.Rules.Arithmetic.{◌⊕◌, ◌⊖◌, ◌⊗◌, natural, decimal, nought}
use Rattle.course.specs.Rules.Constants.{track_width, border, track_turn_rate}
use Rattle.course.specs.Rules.Numeric.{abs_of}
use Rattle.course.specs.Rules.Trig.{sine_of, cosine_of}
use Rattle.course.specs.Rules.Lengths.{column_length, quad_numbers}
use Rattle.course.specs.Rules.Tiles.{pair, eight, point_at, before_of}
use Rattle.course.specs.Grader.Outcome.{filled}
use Rattle.course.specs.Grader.Points.{given_cause}
use Rattle.course.specs.Grader.Cause.{cause_number}
use Rattle.course.specs.declared.cause.Cause.{Cause}
use Rattle.course.specs.declared.tiles.TrackPoint.{TrackPoint}

-- ---- which points have a curb

-- how far beta turns at point i, from the point before
unfoldable pub turn_at : List Float → ℕ → ℕ → Float
turn_at b k i = slice_index_or b i nan ⊖ slice_index_or b (before_of k i) nan

-- steeper than TRACK_TURN_RATE · 0.2
unfoldable pub steep_turn : Float → Bool
steep_turn d = lt (track_turn_rate ⊗ decimal 2 10) (abs_of d)

-- four turns (BORDER_MIN_COUNT) are steep and all to one side
unfoldable pub one_way : Float → Float → Float → Float → Bool
one_way t u v w =
    (steep_turn t && (steep_turn u && (steep_turn v && steep_turn w)))
    && ((lt nought t && (lt nought u && (lt nought v && lt nought w))) || (lt t nought && (lt u nought && (lt v nought && lt w nought))))

-- the mark of point i: its turn and those of the three points before it
unfoldable pub mark_at : List Float → ℕ → ℕ → Bool
mark_at b k i =
    one_way (turn_at b k i) (turn_at b k (before_of k i)) (turn_at b k (before_of k (before_of k i))) (turn_at b k (before_of k (before_of k (before_of k i))))

-- the point after point i of k, round the course
unfoldable pub after_of : ℕ → ℕ → ℕ
after_of k i = cond (nat_lt (i + 1) k) (i + 1) 0

-- each mark, taken before any is spread, is spread to the three points before it: i has a curb where it or one of the three after it is marked
unfoldable pub bordered : List Float → ℕ → ℕ → Bool
bordered b k i =
    mark_at b k i
    || (mark_at b k (after_of k i)
    || (mark_at b k (after_of k (after_of k i)) || mark_at b k (after_of k (after_of k (after_of k i)))))

-- ---- a curb's quad and colour

-- the outer side of the turn from q to p
unfoldable pub side_of : TrackPoint → TrackPoint → Float
side_of p q = cond (lt nought (q.beta ⊖ p.beta)) (natural 1) (neg (natural 1))

-- TRACK_WIDTH + BORDER
unfoldable pub outer_width : Float
outer_width = track_width ⊕ border

-- the corner at distance w from p, on side s
unfoldable pub edge_of : TrackPoint → Float → Float → List Float
edge_of p s w = pair (p.x ⊕ s ⊗ w ⊗ cosine_of p.beta) (p.y ⊕ s ⊗ w ⊗ sine_of p.beta)

unfoldable pub curb_quad : TrackPoint → TrackPoint → List (List Float)
curb_quad p q =
    edge_of p (side_of p q) track_width
    ∷ edge_of p (side_of p q) outer_width
    ∷ edge_of q (side_of p q) outer_width
    ∷ edge_of q (side_of p q) track_width
    ∷ []

-- 1 for white, the points of even number, else 0
unfoldable pub white_of : ℕ → ℕ
white_of i = 1 - i % 2

module _ (b x y : List Float) (k : ℕ) where
  -- the quads, and the white marks, of the first i points
  unfoldable pub quads_to : ℕ → List Float
  quads_to zero = []
  quads_to (suc i) = quads_to i ++ cond (bordered b k i) (eight (curb_quad (point_at b x y i) (point_at b x y (before_of k i)))) []

  unfoldable pub whites_to : ℕ → List ℕ
  whites_to zero = []
  whites_to (suc i) = whites_to i ++ cond (bordered b k i) (white_of i ∷ []) []

-- ---- the call

-- a lent column of marks afterwards: its own, 0 up to m, and what stood beyond
unfoldable pub filled_marks : ℕ → List ℕ → List ℕ → List ℕ
filled_marks m own c = own ++ (replicate (m - length own) 0 ++ drop m c)

-- the answer, and the two lent columns after the call
pub record Edged : Type 0 where
  pub answer : Result ℕ Cause
  pub quads : List Float
  pub white : List ℕ

abbrev pub edged : Result ℕ Cause → List Float → List ℕ → Edged
edged r q w = record { answer = r; quads = q; white = w }

-- number and count of an answer: 0 where no cause holds; a refusal has no count (0)
unfoldable pub curb_cause_of : Result ℕ Cause → ℕ
curb_cause_of r = cause_number r

unfoldable pub curb_count_of : Result ℕ Cause → ℕ
curb_count_of r = result_unwrap_or r 0

-- the lent columns have their lengths, for m curbs
unfoldable pub curb_room : ℕ → List Float → List ℕ → Bool
curb_room m q w = nat_le (quad_numbers m) (length q) && nat_le m (length w)

unfoldable pub curb_cause : List Float → List Float → List Float → ℕ → List Float → List ℕ → Result Unit Cause
curb_cause b x y k q w = given_cause (curb_room (column_length k) q w) b x y k

-- by the cause: the curbs in columns for m of them, or the columns as they were
unfoldable pub curbs_at : ℕ → Result Unit Cause → List Float → List Float → List Float → ℕ → List Float → List ℕ → Edged
curbs_at m (Ok none) b x y k q w =
    edged (Ok (length (whites_to b x y k k))) (filled (quad_numbers m) (quads_to b x y k k) q) (filled_marks m (whites_to b x y k k) w)
curbs_at m (Err c) b x y k q w = edged (Err c) q w

unfoldable pub curbs_call : List Float → List Float → List Float → ℕ → List Float → List ℕ → Edged
curbs_call b x y k q w = curbs_at (column_length k) (curb_cause b x y k q w) b x y k q w
