-- f64 arithmetic as the rules write it: each operation is rounded once, to the nearest, ties to even (IEEE 754). Assumes nothing.
use Rattle.std.specs.Prelude.{ℕ, false, pos, from_bits, Float}
use Rattle.std.specs.Float.{binary64}
use Rattle.std.specs.Float.Ieee.{add, sub, mul, div, of_int, round}

infixl 6 ◌⊕◌
infixl 6 ◌⊖◌
infixl 7 ◌⊗◌
infixl 7 ◌⊘◌
abbrev pub ◌⊕◌ : Float → Float → Float
◌⊕◌ x y = add binary64 x y

abbrev pub ◌⊖◌ : Float → Float → Float
◌⊖◌ x y = sub binary64 x y

abbrev pub ◌⊗◌ : Float → Float → Float
◌⊗◌ x y = mul binary64 x y

abbrev pub ◌⊘◌ : Float → Float → Float
◌⊘◌ x y = div binary64 x y

-- the whole number n as an f64
unfoldable pub natural : ℕ → Float
natural n = of_int binary64 (pos n)

-- the f64 nearest to n / d: what a decimal literal of Rust stands for
unfoldable pub decimal : ℕ → ℕ → Float
decimal n d = round binary64 false n d

-- 0.0: all bits zero
abbrev pub nought : Float
nought = from_bits binary64 0
