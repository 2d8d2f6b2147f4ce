-- `run::quad::box_cells` meets its contract. Assumes nothing.
use Rattle.course.specs.Rules.Constants.{grid_dim}
use Rattle.course.specs.Rules.Cell.{cell_at}
use Rattle.course.specs.Rules.Rect.{Rect}
use Rattle.run.specs.Rules.Wheel.{box_cells}
use Prim.Native.Nat.{ℕ, ◌+◌, ◌*◌}
use mathlib.Core.List.{List, [], ◌∷◌}
use mathlib.Core.Path.{ap}
use Rattle.run.proofs.quad.box_cells.Goals as goal

-- the cells of a rectangle's corners
corners : Rect → List ℕ
corners r = (r.y0 * grid_dim + r.x0) ∷ (r.y0 * grid_dim + r.x1) ∷ (r.y1 * grid_dim + r.x0) ∷ (r.y1 * grid_dim + r.x1) ∷ []

pub returns : goal.returns
unfolding box_cells cell_at corners
returns c = ap corners c.of_quad-r.ensures
