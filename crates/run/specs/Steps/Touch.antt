-- Only functions that no other crate can call cite this, most in `quad`, `touch`, `contact` and `words`: a quad's first side, the cells of four
-- wheels, the tiles of a wheel that were tested so far with those of them that it touches, what these steps are given, and credit apart from
-- touch. Assumes nothing.
use Rattle.std.specs.Prelude.{◌≡◌, Bool, true, false, not, ◌&&◌, ◌||◌, List, [], ◌∷◌, ℕ, ◌*◌, ◌^◌, ◌≤◌, ◌<◌, Float, length}
use Rattle.std.specs.Float.Ieee.{lt}
use Rattle.course.specs.Rules.Arithmetic.{◌⊕◌, ◌⊖◌, ◌⊗◌}
use Rattle.course.specs.Rules.Tiles.{number_at, pair, corner, tile_of}
use Rattle.run.specs.Rules.Overlap.{least_on, greatest_on, apart_along, overlap_of}
use Rattle.run.specs.Rules.Wheel.{quad_of, box_cells}
use Rattle.run.specs.Rules.Below.{how_many}
use Rattle.run.specs.Grader.Touch.{sound_quad}
use Rattle.run.specs.Grader.Contact.{wheel_part, entered}
use Rattle.run.specs.Grader.Words.{member, set_of}
use Rattle.run.specs.declared.state.Pose.{Pose}
use Rattle.run.specs.declared.quad.Span.{Span}
use Rattle.run.specs.declared.quad.Side.{Side}

-- the normal of the edge from a to b, as `apart_along` takes it
abbrev pub edge_normal : List Float → List Float → List Float
edge_normal a b = pair (number_at b 1 ⊖ number_at a 1) (number_at a 0 ⊖ number_at b 0)

-- the projection of a corner on an axis
abbrev pub projected : List Float → List Float → Float
projected n p = number_at n 0 ⊗ number_at p 0 ⊕ number_at n 1 ⊗ number_at p 1

-- a quad's least and greatest projection on an axis
abbrev pub span_on : List Float → List (List Float) → Span
span_on n q = record { low = least_on (number_at n 0) (number_at n 1) q; high = greatest_on (number_at n 0) (number_at n 1) q }

-- one of the two ends before the other begins
abbrev pub spans_apart : Span → Span → Bool
spans_apart p r = lt p.high r.low || lt r.high p.low

-- a normal with the quad's own span on it
abbrev pub side_along : List Float → List (List Float) → Side
side_along n q = record { normal = n; span = span_on n q }

-- the side of a quad's edge from corner 0 to corner 1
unfoldable pub first_side : List (List Float) → Side
first_side q = side_along (pair (corner q 1 1 ⊖ corner q 0 1) (corner q 0 0 ⊖ corner q 1 0)) q

-- the quad lies apart on the side's normal from the quad that the side is of
unfoldable pub beyond : Side → List (List Float) → Bool
beyond s q = spans_apart s.span (span_on s.normal q)

-- the quads lie apart on a normal of one of the edges of q after the first
unfoldable pub apart_by_others : List (List Float) → List (List Float) → List (List Float) → Bool
apart_by_others q a b = apart_along q 1 2 a b || (apart_along q 2 3 a b || apart_along q 3 0 a b)

-- the cells of four wheels' boxes
unfoldable pub sixteen_cells : List Pose → List (List ℕ)
sixteen_cells ps = box_cells (quad_of ps 0) ∷ box_cells (quad_of ps 1) ∷ box_cells (quad_of ps 2) ∷ box_cells (quad_of ps 3) ∷ []

-- the quad overlaps tile t of the lent tiles
abbrev pub overlaps_tile : List (List Float) → List Float → ℕ → Bool
overlaps_tile q ts t = overlap_of q (tile_of ts t)

-- `tested` holds the tiles t with L t, and `touched` those of them with o t
pub record Tested (m : ℕ) (o L : ℕ → Bool) (tested touched : List ℕ) : Type 0 where
  pub all : tested ≡ set_of m L
  pub hit : touched ≡ set_of m (λ t. L t && o t)

-- a step tests the tiles with N: whatever was tested before it, these are tested too after it
abbrev pub Tests : (ℕ → Bool) → (ℕ → Bool) → List ℕ → List ℕ → List ℕ → List ℕ → Type 0
Tests o N tested touched tested' touched' = (L : ℕ → Bool) → Tested (length tested) o L tested touched → Tested (length tested) o (λ t. L t || N t) tested' touched'

-- ---- what the steps are given

-- `touched` has k sets as wide as `tested`, a set holds n tiles, and n tiles are lent
pub record Room (k n : ℕ) (ts : List Float) (tested touched : List ℕ) : Type 0 where
  pub sets : length touched ≡ k * length tested
  pub words : n ≤ 64 * length tested
  pub tiles : n * 8 ≤ length ts

-- the cells are those of the quad's box, and each may be looked up
pub record Looked (offs l : List ℕ) (n : ℕ) (q : List (List Float)) (cells : List ℕ) : Type 0 where
  pub are : cells ≡ box_cells q
  pub sound : sound_quad offs l n q ≡ true

-- a wheel's sets before and now have m words, and no tile from n on is in the set now
pub record Creditable (m n : ℕ) (before wheel : List ℕ) : Type 0 where
  pub last : length before ≡ m
  pub long : length wheel ≡ m
  pub small : 64 * m < 2 ^ 32
  pub some : 0 < n
  pub few : n ≤ 64 * m
  pub past : (t : ℕ) → n ≤ t → t < 64 * m → member wheel t ≡ false

-- the same of four wheels, whose sets stand one after the other
pub record AllCreditable (m n : ℕ) (before ws : List ℕ) : Type 0 where
  pub last : length before ≡ 4 * m
  pub long : length ws ≡ 4 * m
  pub each : (w : ℕ) → w < 4 → Creditable m n (wheel_part m before w) (wheel_part m ws w)

-- ---- credit apart from touch

-- wheel w has tile t in its set among those of the four wheels
abbrev pub in_sets : ℕ → List ℕ → ℕ → ℕ → Bool
in_sets m ws w t = member (wheel_part m ws w) t

-- some wheel has tile t in its set now and had it not before
abbrev pub entered_since : ℕ → List ℕ → List ℕ → ℕ → Bool
entered_since m before ws = entered m before (in_sets m ws)

pub record Credits : Type 0 where
  pub credited : List ℕ
  pub fresh : ℕ
  pub zero : Bool

abbrev pub credits : List ℕ → ℕ → Bool → Credits
credits c fresh first = record { credited = c; fresh = fresh; zero = first }

-- where the tiles E are entered: what is credited, how many of them are new, and whether tile 0 is one
unfoldable pub credits_of : List ℕ → (ℕ → Bool) → Credits
credits_of c E = credits (set_of (length c) (λ t. member c t || E t)) (how_many (64 * length c) (λ t. E t && not (member c t))) (E 0)
