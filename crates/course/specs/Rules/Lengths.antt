-- Document 01, "Lay" (Lent), "Beside the run" and "Refusals by cause": the limits of walks and points, and the lengths of lent columns, each
-- named once. Assumes nothing.
use Rattle.std.specs.Prelude.{ℕ, ◌+◌, ◌*◌}
use Rattle.course.specs.Rules.Constants.{grid_dim}

-- the most steps of a walk
abbrev pub step_limit : ℕ
step_limit = 2500

-- the most points of a course: of given ones (9), and so the bound of the ids in an index
abbrev pub most_points : ℕ
most_points = 2500

-- the length of the columns alpha, beta, x and y that lay is lent
abbrev pub laid_length : ℕ
laid_length = 2500

-- the same of the columns lent with a course of n points, and of white marks; one for every n
abbrev pub column_length : ℕ → ℕ
column_length n = laid_length

-- eight numbers to a tile or curb quad: the length of tiles and curb quads where columns have m entries
abbrev pub quad_numbers : ℕ → ℕ
quad_numbers m = 8 * m

-- the grid's cells, 67 rows of 67
abbrev pub cell_count : ℕ
cell_count = grid_dim * grid_dim

-- the offsets: one for each cell, and the list's end
abbrev pub offset_count : ℕ
offset_count = cell_count + 1
