-- Definitions that only private functions of `tiles`, `points` and `curbs` cite. Assumes nothing.
use Rattle.std.specs.Prelude.{◌≡◌, ℕ, ◌+◌, ◌*◌, ◌≤◌, Bool, cond, List, [], ◌∷◌, ◌++◌, length, take, drop, slice_set, Float}
use Rattle.course.specs.Rules.Lengths.{quad_numbers, offset_count}
use Rattle.course.specs.Rules.Arithmetic.{◌⊕◌, ◌⊖◌, ◌⊗◌}
use Rattle.course.specs.Rules.Constants.{track_width}
use Rattle.course.specs.Rules.Trig.{sine_of, cosine_of}
use Rattle.course.specs.Rules.Tiles.{pair, eight}
use Rattle.course.specs.Rules.Counting.{digit}
use Rattle.course.specs.Grader.Curbs.{quads_to, whites_to}
use Rattle.course.specs.declared.tiles.TrackPoint.{TrackPoint}
use Rattle.course.specs.declared.tiles.Edges.{Edges}

-- the numbers vs stand from number i on
unfoldable pub puts : List Float → ℕ → List Float → List Float
puts vs i l = take i l ++ (vs ++ drop (i + length vs) l)

-- the edges of the track at a point
unfoldable pub edges_at : TrackPoint → Edges
edges_at p =
    record {
      left = pair (p.x ⊖ track_width ⊗ cosine_of p.beta) (p.y ⊖ track_width ⊗ sine_of p.beta);
      right = pair (p.x ⊕ track_width ⊗ cosine_of p.beta) (p.y ⊕ track_width ⊗ sine_of p.beta);
    }

-- the quad of the edges of two points
unfoldable pub quad_between : Edges → Edges → List (List Float)
quad_between e f = e.left ∷ e.right ∷ f.right ∷ f.left ∷ []

-- the lent columns have their lengths, those of points m entries, as facts
pub record Roomy (m : ℕ) (a b u v t : List Float) (o : List ℕ) : Type 0 where
  pub alpha : m ≤ length a
  pub beta : m ≤ length b
  pub x : m ≤ length u
  pub y : m ≤ length v
  pub tiles : quad_numbers m ≤ length t
  pub offsets : offset_count ≤ length o

-- a curb more where the point has one, else as before
pub record Curbed (has : Bool) (quad : List (List Float)) (mark m : ℕ) (q : List Float) (w : List ℕ) (m' : ℕ) (q' : List Float) (w' : List ℕ) : Type 0 where
  pub count : m' ≡ m + digit has
  pub quads : q' ≡ cond has (puts (eight quad) (m * 8) q) q
  pub white : w' ≡ cond has (slice_set w m mark) w

-- the curbs of the first i points stand in front
pub record CurbsTo (b x y : List Float) (k i m : ℕ) (q : List Float) (w : List ℕ) (q' : List Float) (w' : List ℕ) : Type 0 where
  pub few : m ≤ i
  pub count : length (whites_to b x y k i) ≡ m
  pub long : length (quads_to b x y k i) ≡ m * 8
  pub quads : q' ≡ quads_to b x y k i ++ drop (m * 8) q
  pub white : w' ≡ whites_to b x y k i ++ drop m w
  pub same-quads : length q' ≡ length q
  pub same-white : length w' ≡ length w
