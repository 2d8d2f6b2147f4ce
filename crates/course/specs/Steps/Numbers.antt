-- Definitions that only private functions' contracts cite. Assumes nothing.
use Rattle.std.specs.Prelude.{◌≡◌, ℕ, ◌*◌, ◌≤◌, ℤ, pos, Float}
use Rattle.std.specs.Float.{nan, inf, fin, binary64}
use Rattle.std.specs.Float.Ieee.{up, down, of_int}
use Rattle.course.specs.Rules.Trig.{SinCos, quarter_of, turns_of}
use Rattle.course.specs.declared.trig.SinCos.{SinCos as CodeSinCos}
use Rattle.course.specs.declared.trig.Turns.{Turns}
use Rattle.course.specs.declared.trig.Whole.{Whole}

-- |x| ≤ n for a whole number n, over whole numbers
abbrev pub Bounded : Float → ℕ → Type 0
Bounded nan n = ⊥
Bounded (inf s) n = ⊥
Bounded (fin s m e) n = m * up e ≤ n * down e

-- a whole number, and the same as a float
unfoldable pub whole_at : ℕ → Whole
whole_at n = record { n = n; f = of_int binary64 (pos n) }

-- a whole number as a float, and modulo 4
unfoldable pub turns_at : ℤ → Turns
turns_at k = record { k = of_int binary64 k; quarter = quarter_of k }

-- the quarter turns in some angle
pub record OfAngle (t : Turns) : Type 0 where
  pub angle : Float
  pub is : t ≡ turns_at (turns_of angle)

-- the code's cosine and sine as the definitions' own
abbrev pub sin_cos_as : CodeSinCos → SinCos
sin_cos_as t = record { cos = t.cos; sin = t.sin }
