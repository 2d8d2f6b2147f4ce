-- Document 01, "Random numbers": `unit`, and the Rust's `uniform` (track.rs), over IEEE 754 binary64. Assumes nothing.
use Rattle.std.specs.Prelude.{ℕ, ◌/◌, ◌^◌, pos, Float}
use Rattle.std.specs.Float.{binary64}
use Rattle.std.specs.Float.Ieee.{add, sub, mul, div, of_int}
use Rattle.rng.specs.declared.SplitMix64.{SplitMix64}
use Rattle.rng.specs.Rules.SplitMix.{Drawn, draw_of, after}

-- the draw shifted right 11, over 2^53
unfoldable pub unit_of : ℕ → Float
unit_of draw = div binary64 (of_int binary64 (pos (draw / 2 ^ 11))) (of_int binary64 (pos (2 ^ 53)))

-- lo + (hi − lo)·u, rounded operation by operation
unfoldable pub between : Float → Float → Float → Float
between lo hi u = add binary64 lo (mul binary64 (sub binary64 hi lo) u)

-- a generator's next draw as a unit, and as a number from lo to hi
unfoldable pub unit_draw_of : SplitMix64 → Drawn Float
unit_draw_of g = record { value = unit_of (draw_of g).value; rng = (draw_of g).rng }

unfoldable pub uniform_draw_of : SplitMix64 → Float → Float → Drawn Float
uniform_draw_of g lo hi = record { value = between lo hi (unit_draw_of g).value; rng = (unit_draw_of g).rng }

-- the unit that draw number n gives, counted from 0
unfoldable pub unit_at : ℕ → SplitMix64 → Float
unit_at n g = (unit_draw_of (after n g)).value
