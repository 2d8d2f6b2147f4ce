-- Document 01, "Tiles and index": the cells of the grid. Assumes nothing.
use Rattle.std.specs.Prelude.{ℕ, suc, ◌+◌, ◌-◌, ◌*◌, Float}
use Rattle.std.specs.Float.Ieee.{le}
use Rattle.course.specs.Rules.Arithmetic.{◌⊕◌, ◌⊘◌, natural}
use Rattle.course.specs.Rules.Constants.{playfield, grid_cell, grid_dim}
use Rattle.course.specs.Rules.Counting.{how_many}

-- (v + P) / 10
unfoldable pub along : Float → Float
along v = (v ⊕ playfield) ⊘ grid_cell

-- the count of k from 1 to 66 with k ≤ (v + P) / 10. Every comparison with NaN is false, so NaN gives 0.
unfoldable pub cell_of : Float → ℕ
cell_of v = how_many (grid_dim - 1) (λ k. le (natural (suc k)) (along v))

-- the number of a point's cell: row times 67 plus column
unfoldable pub cell_at : Float → Float → ℕ
cell_at x y = cell_of y * grid_dim + cell_of x
