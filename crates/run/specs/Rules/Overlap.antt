-- Document 01, "Touch": `quad_overlap`. On none of the eight edge normals is one quad's greatest projection below the other's least. Equality
-- overlaps. Least and greatest are folded as in the Rust. Assumes nothing.
use Rattle.std.specs.Prelude.{Bool, not, ◌||◌, List, ℕ, Float}
use Rattle.std.specs.Float.Ieee.{lt}
use Rattle.course.specs.Rules.Arithmetic.{◌⊕◌, ◌⊖◌, ◌⊗◌}
use Rattle.course.specs.Rules.Numeric.{least_of, greatest_of}
use Rattle.course.specs.Rules.Tiles.{corner}

-- the projection of corner i of a quad on the axis (nx, ny)
abbrev pub projection : Float → Float → List (List Float) → ℕ → Float
projection nx ny q i = nx ⊗ corner q i 0 ⊕ ny ⊗ corner q i 1

-- a quad's least and greatest projection
unfoldable pub least_on : Float → Float → List (List Float) → Float
least_on nx ny q = least_of (projection nx ny q 0) (projection nx ny q 1) (projection nx ny q 2) (projection nx ny q 3)

unfoldable pub greatest_on : Float → Float → List (List Float) → Float
greatest_on nx ny q = greatest_of (projection nx ny q 0) (projection nx ny q 1) (projection nx ny q 2) (projection nx ny q 3)

-- on the axis (nx, ny) one greatest projection is below the other's least
unfoldable pub apart_on : Float → Float → List (List Float) → List (List Float) → Bool
apart_on nx ny a b = lt (greatest_on nx ny a) (least_on nx ny b) || lt (greatest_on nx ny b) (least_on nx ny a)

-- the same on the normal of the edge from corner i to corner j of q
unfoldable pub apart_along : List (List Float) → ℕ → ℕ → List (List Float) → List (List Float) → Bool
apart_along q i j a b = apart_on (corner q j 1 ⊖ corner q i 1) (corner q i 0 ⊖ corner q j 0) a b

-- on a normal of one of the four edges of q
unfoldable pub apart_by_edges : List (List Float) → List (List Float) → List (List Float) → Bool
apart_by_edges q a b = apart_along q 0 1 a b || (apart_along q 1 2 a b || (apart_along q 2 3 a b || apart_along q 3 0 a b))

unfoldable pub overlap_of : List (List Float) → List (List Float) → Bool
overlap_of a b = not (apart_by_edges a a b || apart_by_edges b a b)
