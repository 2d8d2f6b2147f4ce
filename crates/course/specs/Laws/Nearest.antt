-- Document 01, "Stand-ins", of `sqrt`: the nearest f64, ties to even, stated over whole numbers: the operand beside the squares of the halfway points, all brought to one power of two. Definitions only.
-- In units of 2 ^ -1074 let x be n, r be a, and another f64 y be b. Halfway between r and y is (a + b) / 2, and its square is (a + b) * (a + b) / 4 in units of 2 ^ -2148, in which x is n * 2 ^ 1074.
-- So r is as near to the root of x as y is where 4 * (n * 2 ^ 1074) lies on r's side of (a + b) * (a + b). `sqrt-nearest` in proofs/RootLaw.antt says it of `sqrt_of`.
use Rattle.std.specs.Prelude.{◌≡◌, ℕ, ◌+◌, ◌*◌, ◌%◌, ◌^◌, ◌<◌, ◌≤◌, Bool, false, not, T, ◌≢◌, to_bits, Float}
use Rattle.std.specs.Float.{nan, inf, fin, binary64}
use Rattle.std.specs.Float.Ieee.{fits}
use Rattle.course.specs.Rules.Root.{in_units}

-- finite and not below zero
abbrev pub plain : Float → Bool
plain nan = false
plain (inf s) = false
plain (fin s m e) = not s

-- four times x, and four times the square of what is halfway between r and y, both in units of 2 ^ -2148
abbrev pub operand : Float → ℕ
operand x = 4 * (in_units x * 2 ^ 1074)

abbrev pub halfway : Float → Float → ℕ
halfway r y = (in_units r + in_units y) * (in_units r + in_units y)

-- The f64 r is as near to the root of x as any f64 is. Where another one is just as near, r is the one whose last digit is 0.
pub record Nearest (x r : Float) : Type 0 where
  pub representable : T (fits binary64 r)
  pub finite : T (plain r)
  pub above : (y : Float) → T (fits binary64 y) → T (plain y) → in_units r < in_units y → operand x ≤ halfway r y
  pub below : (y : Float) → T (fits binary64 y) → T (plain y) → in_units y < in_units r → halfway r y ≤ operand x
  pub even : (y : Float) → T (fits binary64 y) → T (plain y) → (in_units y ≢ in_units r) → halfway r y ≡ operand x → to_bits binary64 r % 2 ≡ 0
