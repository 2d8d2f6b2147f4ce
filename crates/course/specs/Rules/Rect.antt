-- Document 01, "Tiles and index": the box of a quad, and a tile's rectangle of cells. The tiles stand in a column, eight numbers to a tile. Assumes nothing.
use Rattle.std.specs.Prelude.{ℕ, zero, suc, ◌+◌, ◌-◌, ◌*◌, ◌/◌, ◌%◌, Bool, ◌&&◌, List, nat_le, Float}
use Rattle.course.specs.Rules.Numeric.{least_of, greatest_of}
use Rattle.course.specs.Rules.Constants.{grid_dim}
use Rattle.course.specs.Rules.Cell.{cell_of}
use Rattle.course.specs.Rules.Tiles.{corner, tile_of}

-- ---- the box of a quad: its least and greatest coordinates
unfoldable pub least_x : List (List Float) → Float
least_x q = least_of (corner q 0 0) (corner q 1 0) (corner q 2 0) (corner q 3 0)

unfoldable pub least_y : List (List Float) → Float
least_y q = least_of (corner q 0 1) (corner q 1 1) (corner q 2 1) (corner q 3 1)

unfoldable pub greatest_x : List (List Float) → Float
greatest_x q = greatest_of (corner q 0 0) (corner q 1 0) (corner q 2 0) (corner q 3 0)

unfoldable pub greatest_y : List (List Float) → Float
greatest_y q = greatest_of (corner q 0 1) (corner q 1 1) (corner q 2 1) (corner q 3 1)

-- a rectangle of cells: its first and last column, and its first and last row
pub record Rect : Type 0 where
  pub x0 : ℕ
  pub x1 : ℕ
  pub y0 : ℕ
  pub y1 : ℕ

-- ---- from the cells of a quad's least to those of its greatest coordinates
abbrev pub rect_around : List (List Float) → Rect
rect_around q = record { x0 = cell_of (least_x q); x1 = cell_of (greatest_x q); y0 = cell_of (least_y q); y1 = cell_of (greatest_y q) }

-- the same of tile i
unfoldable pub rect_of : List Float → ℕ → Rect
rect_of tiles i = rect_around (tile_of tiles i)

-- cell c stands in row c / 67 and column c % 67: its number is row times 67 plus column
unfoldable pub holds : Rect → ℕ → Bool
holds r c = (nat_le r.y0 (c / grid_dim) && nat_le (c / grid_dim) r.y1) && (nat_le r.x0 (c % grid_dim) && nat_le (c % grid_dim) r.x1)

-- whether the rectangle of tile i holds cell c
abbrev pub holds_of : List Float → ℕ → ℕ → Bool
holds_of tiles i c = holds (rect_of tiles i) c

-- the number of a rectangle's cells
unfoldable pub area_of : Rect → ℕ
area_of r = (r.x1 + 1 - r.x0) * (r.y1 + 1 - r.y0)

-- the rectangles' cells summed, of the tiles below n: the list length needed (cause 3)
unfoldable pub needed : List Float → ℕ → ℕ
needed tiles zero = 0
needed tiles (suc n) = needed tiles n + area_of (rect_of tiles n)
