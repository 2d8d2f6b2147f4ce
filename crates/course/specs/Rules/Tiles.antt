-- Document 01, "Tiles and index": the tiles of a list of points (the Rust's `tile_quad` and `from_points`). Assumes nothing.
use Rattle.std.specs.Prelude.{ℕ, zero, suc, ◌+◌, ◌-◌, ◌*◌, List, [], ◌∷◌, ◌++◌, map, length, slice_index_or, Float}
use Rattle.std.specs.Float.{nan}
use Rattle.course.specs.Rules.Arithmetic.{◌⊕◌, ◌⊖◌, ◌⊗◌}
use Rattle.course.specs.Rules.Constants.{track_width}
use Rattle.course.specs.Rules.Trig.{sine_of, cosine_of}
use Rattle.course.specs.declared.tiles.TrackPoint.{TrackPoint}

-- number i of a column; NaN past its end
abbrev pub number_at : List Float → ℕ → Float
number_at ns i = slice_index_or ns i nan

-- ---- points and their columns
abbrev pub betas : List TrackPoint → List Float
betas ps = map (λ (p : TrackPoint). p.beta) ps

abbrev pub xs : List TrackPoint → List Float
xs ps = map (λ (p : TrackPoint). p.x) ps

abbrev pub ys : List TrackPoint → List Float
ys ps = map (λ (p : TrackPoint). p.y) ps

-- point i of the columns b (beta), x and y
unfoldable pub point_at : List Float → List Float → List Float → ℕ → TrackPoint
point_at b x y i = record { beta = number_at b i; x = number_at x i; y = number_at y i }

-- the first k points of three columns
unfoldable pub points_of : List Float → List Float → List Float → ℕ → List TrackPoint
points_of b x y zero = []
points_of b x y (suc k) = points_of b x y k ++ (point_at b x y k ∷ [])

abbrev pub no_point : TrackPoint
no_point = record { beta = nan; x = nan; y = nan }

-- the point before point i of n: tile 0 joins point 0 to point n−1
unfoldable pub before_of : ℕ → ℕ → ℕ
before_of n zero = n - 1
before_of n (suc i) = i

-- ---- quads: four corners of two numbers each
abbrev pub pair : Float → Float → List Float
pair a b = a ∷ b ∷ []

-- `tile_quad`
unfoldable pub tile_quad : TrackPoint → TrackPoint → List (List Float)
tile_quad p q =
    pair (p.x ⊖ track_width ⊗ cosine_of p.beta) (p.y ⊖ track_width ⊗ sine_of p.beta)
    ∷ pair (p.x ⊕ track_width ⊗ cosine_of p.beta) (p.y ⊕ track_width ⊗ sine_of p.beta)
    ∷ pair (q.x ⊕ track_width ⊗ cosine_of q.beta) (q.y ⊕ track_width ⊗ sine_of q.beta)
    ∷ pair (q.x ⊖ track_width ⊗ cosine_of q.beta) (q.y ⊖ track_width ⊗ sine_of q.beta)
    ∷ []

-- the k-th number of corner c
abbrev pub corner : List (List Float) → ℕ → ℕ → Float
corner q c k = slice_index_or (slice_index_or q c []) k nan

-- a quad's eight numbers, as a column holds them
unfoldable pub eight : List (List Float) → List Float
eight q =
    corner q 0 0 ∷ corner q 0 1 ∷ corner q 1 0 ∷ corner q 1 1 ∷ corner q 2 0 ∷ corner q 2 1 ∷ corner q 3 0 ∷ corner q 3 1 ∷ []

-- tile t of such a column as a quad
unfoldable pub tile_of : List Float → ℕ → List (List Float)
tile_of ts t =
    pair (number_at ts (t * 8)) (number_at ts (t * 8 + 1))
    ∷ pair (number_at ts (t * 8 + 2)) (number_at ts (t * 8 + 3))
    ∷ pair (number_at ts (t * 8 + 4)) (number_at ts (t * 8 + 5))
    ∷ pair (number_at ts (t * 8 + 6)) (number_at ts (t * 8 + 7))
    ∷ []

-- tile i of a list of points
unfoldable pub tile_at : List TrackPoint → ℕ → List (List Float)
tile_at ps i = tile_quad (slice_index_or ps i no_point) (slice_index_or ps (before_of (length ps) i) no_point)

-- the numbers of the first k tiles, eight to a tile
unfoldable pub tiles_to : List TrackPoint → ℕ → List Float
tiles_to ps zero = []
tiles_to ps (suc k) = tiles_to ps k ++ eight (tile_at ps k)

abbrev pub tiles_of : List TrackPoint → List Float
tiles_of ps = tiles_to ps (length ps)
