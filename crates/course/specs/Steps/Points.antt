-- Definitions that only private functions of `points` and `curbs` cite. Assumes nothing.
use Rattle.std.specs.Prelude.{◌≡◌, ℕ, List, Float, Ok}
use Rattle.course.specs.Grader.Points.{columns_cause}
use Rattle.course.specs.declared.tiles.PointColumns.{PointColumns}

-- p has the points of b, u and v, k of them, and neither a short column nor a point refuses them
pub record Given (b u v : List Float) (k : ℕ) (p : PointColumns) : Type 0 where
  pub passed : Ok tt ≡ columns_cause b u v k
  pub beta : p.beta.now ≡ b
  pub x : p.x.now ≡ u
  pub y : p.y.now ≡ v
  pub count : p.count ≡ k
