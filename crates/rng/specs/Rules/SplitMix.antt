-- Document 01, "Random numbers". SplitMix64 (Steele, Lea, Flood 2014) over 64-bit words: sums wrap, products keep
-- their low 64 bits. Assumes nothing.
use Rattle.std.specs.Prelude.{ℕ, zero, suc, ◌+◌, ◌*◌, ◌/◌, ◌%◌, ◌^◌, bit_xor}
use Rattle.rng.specs.declared.SplitMix64.{SplitMix64}

-- the low 64 bits of a sum and of a product
abbrev pub sum64 : ℕ → ℕ → ℕ
sum64 a b = (a + b) % 2 ^ 64

abbrev pub product64 : ℕ → ℕ → ℕ
product64 a b = (a * b) % 2 ^ 64

-- the generator at a state, and that of a seed: its state is hexadecimal CA75EED0 xor the seed
unfoldable pub at_state : ℕ → SplitMix64
at_state s = record { state = s }

unfoldable pub seeded : ℕ → SplitMix64
seeded seed = at_state (bit_xor 0xCA75_EED0 seed)

-- z xor z shifted right by k
unfoldable pub xor_shift : ℕ → ℕ → ℕ
xor_shift k z = bit_xor z (z / 2 ^ k)

-- what a draw adds to the state: the odd number nearest to 2^64 over the golden ratio
abbrev pub gamma : ℕ
gamma = 0x9E37_79B9_7F4A_7C15

unfoldable pub next_state : ℕ → ℕ
next_state s = sum64 s gamma

-- the output of a state
unfoldable pub mix64 : ℕ → ℕ
mix64 z =
    xor_shift 31 (product64 (xor_shift 27 (product64 (xor_shift 30 z) 0xBF58_476D_1CE4_E5B9)) 0x94D0_49BB_1331_11EB)

-- what is drawn, and the generator to go on with
pub record Drawn (A : Type 0) : Type 0 where
  pub value : A
  pub rng : SplitMix64

-- a draw of a generator: the output of its next state, and the generator at that state
unfoldable pub draw_of : SplitMix64 → Drawn ℕ
draw_of g = record { value = mix64 (next_state g.state); rng = record { state = next_state g.state } }

-- the generator after n draws, and what its draw number n gives, counted from 0
unfoldable pub after : ℕ → SplitMix64 → SplitMix64
after zero g = g
after (suc n) g = (draw_of (after n g)).rng

unfoldable pub draw_at : ℕ → SplitMix64 → ℕ
draw_at n g = (draw_of (after n g)).value
