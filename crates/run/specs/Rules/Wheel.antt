-- Document 01, "Touch": a wheel's quad (the Rust's `wheel_quad`) and the cells of its box. Assumes nothing.
use Rattle.std.specs.Prelude.{List, [], ◌∷◌, ℕ, Float}
use Rattle.std.specs.Float.Ieee.{neg}
use Rattle.course.specs.Rules.Arithmetic.{◌⊕◌, ◌⊖◌, ◌⊗◌, natural, decimal}
use Rattle.course.specs.Rules.Cell.{cell_at}
use Rattle.course.specs.Rules.Tiles.{pair}
use Rattle.course.specs.Rules.Rect.{least_x, least_y, greatest_x, greatest_y}
use Rattle.run.specs.Rules.Arguments.{pose_at}
use Rattle.run.specs.declared.state.Pose.{Pose}

-- SIZE
unfoldable pub size : Float
size = decimal 2 100

-- WHEEL_W and WHEEL_R
unfoldable pub wheel_w : Float
wheel_w = natural 14

unfoldable pub wheel_r : Float
wheel_r = natural 27

-- the place (u, v) of a wheel's own frame under its pose
unfoldable pub placed : Pose → Float → Float → List Float
placed p u v = pair (p.x ⊕ p.cos ⊗ u ⊖ p.sin ⊗ v) (p.y ⊕ p.sin ⊗ u ⊕ p.cos ⊗ v)

unfoldable pub wheel_quad : Pose → List (List Float)
wheel_quad p =
    placed p (neg wheel_w ⊗ size) (wheel_r ⊗ size)
    ∷ placed p (wheel_w ⊗ size) (wheel_r ⊗ size)
    ∷ placed p (wheel_w ⊗ size) (neg wheel_r ⊗ size)
    ∷ placed p (neg wheel_w ⊗ size) (neg wheel_r ⊗ size)
    ∷ []

-- the quad of wheel w of four poses
unfoldable pub quad_of : List Pose → ℕ → List (List Float)
quad_of ps w = wheel_quad (pose_at ps w)

-- the cells of the four corners of a quad's box
unfoldable pub box_cells : List (List Float) → List ℕ
box_cells q =
    cell_at (least_x q) (least_y q) ∷ cell_at (greatest_x q) (least_y q) ∷ cell_at (least_x q) (greatest_y q) ∷ cell_at (greatest_x q) (greatest_y q) ∷ []
