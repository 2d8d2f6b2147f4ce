-- Document 01, "Lap" and "Settle": the lap flag, off, and the end of a run. Assumes nothing.
use Rattle.std.specs.Prelude.{Bool, ◌&&◌, ◌||◌, ℕ, eqb, Float}
use Rattle.std.specs.Float.Ieee.{lt}
use Rattle.course.specs.Rules.Arithmetic.{◌⊘◌, natural}
use Rattle.course.specs.Rules.Constants.{playfield}
use Rattle.course.specs.Rules.Numeric.{abs_of}

-- credited / n is strictly above the lap share
abbrev pub above_share : ℕ → ℕ → Float → Bool
above_share credited n share = lt share (natural credited ⊘ natural n)

-- flagged before, or some wheel touches tile 0 that did not at the contact before, and credited / n is strictly above the lap share
unfoldable pub lap_of : Bool → Bool → ℕ → ℕ → Float → Bool
lap_of lap enters_zero credited n share = lap || (enters_zero && above_share credited n share)

-- |x| > P or |y| > P
unfoldable pub off_field : Float → Float → Bool
off_field x y = lt playfield (abs_of x) || lt playfield (abs_of y)

-- all credited, lap or off
unfoldable pub end_of : ℕ → ℕ → Bool → Bool → Bool
end_of credited n lap off = eqb credited n || (lap || off)
