-- Document 01, "Lay" (`try_generate`): the search for the next checkpoint. It is the first one from the present place on whose angle
-- alpha is not above (so none for a NaN). Past the last one the search goes on from the first, with alpha one tau less; a third pass
-- refuses. Assumes nothing.
use Rattle.std.specs.Prelude.{ℕ, suc, cond, List, [], ◌∷◌, drop, Option, Some, None, Float}
use Rattle.std.specs.Float.Ieee.{le}
use Rattle.course.specs.Rules.Arithmetic.{◌⊖◌}
use Rattle.course.specs.Rules.Constants.{tau}
use Rattle.course.specs.declared.checkpoints.Checkpoint.{Checkpoint}

-- a checkpoint that is found, with its place and alpha as it then is
pub record Destination : Type 0 where
  pub place : ℕ
  pub alpha : Float
  pub checkpoint : Checkpoint

-- one pass, over the checkpoints from place i on; none where alpha is above the angles of all of them
unfoldable pub scan : List Checkpoint → ℕ → Float → Option Destination
scan [] i alpha = None
scan (c ∷ rest) i alpha = cond (le alpha c.angle) (Some (record { place = i; alpha = alpha; checkpoint = c })) (scan rest (suc i) alpha)

-- what a pass found, or else what another finds
unfoldable pub or_again : Option Destination → Option Destination → Option Destination
or_again None again = again
or_again (Some d) again = Some d

-- two passes, the first from place i on
unfoldable pub dest_of : List Checkpoint → ℕ → Float → Option Destination
dest_of cs i alpha = or_again (scan (drop i cs) i alpha) (scan cs 0 (alpha ⊖ tau))
