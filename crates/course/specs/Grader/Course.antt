-- Document 01, "Tiles and index": all that a list of points becomes (the Rust's `Track::from_points`). Assumes nothing.
use Rattle.std.specs.Prelude.{ℕ, List, length, Float}
use Rattle.course.specs.Rules.Lengths.{cell_count}
use Rattle.course.specs.Rules.Tiles.{betas, xs, ys, tiles_of}
use Rattle.course.specs.Rules.Rect.{holds_of, needed}
use Rattle.course.specs.Grader.Index.{offsets_of, index_of}
use Rattle.course.specs.declared.tiles.TrackPoint.{TrackPoint}

pub record Course : Type 0 where
  pub beta : List Float
  pub x : List Float
  pub y : List Float
  pub tiles : List Float
  pub offsets : List ℕ
  pub list : List ℕ

unfoldable pub from_points : List TrackPoint → Course
from_points ps = record {
  beta = betas ps;
  x = xs ps;
  y = ys ps;
  tiles = tiles_of ps;
  offsets = offsets_of (holds_of (tiles_of ps)) (length ps) cell_count;
  list = index_of (holds_of (tiles_of ps)) (length ps) cell_count;
}

-- the rectangles' cells summed: the list length needed
unfoldable pub cells_of : List TrackPoint → ℕ
cells_of ps = needed (tiles_of ps) (length ps)
