-- Document 01, "Drive": which wheels touched any tile at the last contact. For sets of m words to a wheel, one after the other. Assumes nothing.
use Rattle.std.specs.Prelude.{Bool, List, [], ◌∷◌, ℕ, ◌*◌}
use Rattle.run.specs.Rules.Below.{any_below}
use Rattle.run.specs.Grader.Words.{member}
use Rattle.run.specs.Grader.Contact.{wheel_part}

-- some tile is in the set of wheel w
unfoldable pub on_road : ℕ → List ℕ → ℕ → Bool
on_road m wheels w = any_below (64 * m) (member (wheel_part m wheels w))

-- the four wheels in their order
unfoldable pub roads_of : ℕ → List ℕ → List Bool
roads_of m wheels = on_road m wheels 0 ∷ on_road m wheels 1 ∷ on_road m wheels 2 ∷ on_road m wheels 3 ∷ []
