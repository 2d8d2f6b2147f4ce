-- Document 01, "Touch", over lent tiles, offsets and list: a wheel touches tile t when the cell of one of the four corners of its box lists t, and the
-- quads overlap; and cause 10. Assumes nothing.
use Rattle.std.specs.Prelude.{Bool, ◌&&◌, List, ℕ, eqb, ltb, Float}
use Rattle.course.specs.Rules.Tiles.{tile_of}
use Rattle.course.specs.Grader.Index.{part_ok, lookup}
use Rattle.run.specs.Rules.Below.{every_below, some_of, every_of}
use Rattle.run.specs.Rules.Overlap.{overlap_of}
use Rattle.run.specs.Rules.Wheel.{quad_of, box_cells}
use Rattle.run.specs.declared.state.Pose.{Pose}

-- the list has t
abbrev pub lists : List ℕ → ℕ → Bool
lists ids t = some_of (eqb t) ids

-- the cell of one of the four corners of the quad's box lists t
unfoldable pub listed_by : List ℕ → List ℕ → List (List Float) → ℕ → Bool
listed_by offs l q t = some_of (λ c. lists (lookup offs l c) t) (box_cells q)

unfoldable pub touched_by : List Float → List ℕ → List ℕ → List (List Float) → ℕ → Bool
touched_by ts offs l q t = listed_by offs l q t && overlap_of q (tile_of ts t)

-- ---- cause 10: in a cell looked up, offsets fall or pass the list, or an id is n or more

unfoldable pub sound_cell : List ℕ → List ℕ → ℕ → ℕ → Bool
sound_cell offs l n c = part_ok offs l c && every_of (λ t. ltb t n) (lookup offs l c)

-- the four cells of a quad's box
unfoldable pub sound_quad : List ℕ → List ℕ → ℕ → List (List Float) → Bool
sound_quad offs l n q = every_of (sound_cell offs l n) (box_cells q)

-- all sixteen look-ups of the four wheels
unfoldable pub sound_poses : List ℕ → List ℕ → ℕ → List Pose → Bool
sound_poses offs l n ps = every_below 4 (λ w. sound_quad offs l n (quad_of ps w))
