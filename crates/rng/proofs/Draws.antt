-- Laws of draws, for callers that do not look into `draw_of`: every draw has 64 bits, so every unit is from 0 to below 1;
-- n draws in a row, and the state after them. Assumes nothing.
use Rattle.std.proofs.Common.{◌≡◌, ℕ, zero, suc, ◌+◌, ◌*◌, ◌/◌, ◌%◌, ◌^◌, ◌<◌, false, not, T, pos, sym, refl, ap, ◌∙◌, lt_of_le_of_lt, add-zero, add_assoc, add-suc, mod-lt, mod-eq_of_lt, suc-mul, zero-mul, add-one, pow_pos}
use native.Mathlib.Nat.{mod-add-mod}
use lib.Pow.{shr_le}
use lib.Bits.{xor_lt}
use lib.Ieee.{fin, lt, le, is_nan}
use lib.Ieee.Exact.{HasValue}
use Rattle.rng.specs.declared.SplitMix64.{SplitMix64}
use Rattle.rng.specs.Rules.SplitMix.{gamma, xor_shift, product64, mix64, next_state, draw_of, after, draw_at}
use Rattle.rng.specs.Rules.Unit.{unit_draw_of}
use Rattle.rng.proofs.Units.{unit-value, unit-range, unit-not-nan}

-- ---- every draw is below 2^64
xor-shift-lt : (k z : ℕ) → z < 2 ^ 64 → xor_shift k z < 2 ^ 64
unfolding xor_shift
xor-shift-lt k z h = xor_lt 64 z (z / 2 ^ k) h (lt_of_le_of_lt (shr_le z k) h)

pub mix-lt : (z : ℕ) → mix64 z < 2 ^ 64
unfolding mix64
mix-lt z =
    let p = xor_shift 27 (product64 (xor_shift 30 z) 0xBF58_476D_1CE4_E5B9) * 0x94D0_49BB_1331_11EB in
    xor-shift-lt 31 (p % 2 ^ 64) (mod-lt p (pow_pos 64))

pub draw-lt : (g : SplitMix64) → (draw_of g).value < 2 ^ 64
unfolding draw_of
draw-lt g = mix-lt (next_state g.state)

pub draw-at-lt : (n : ℕ) (g : SplitMix64) → draw_at n g < 2 ^ 64
unfolding draw_at
draw-at-lt n g = draw-lt (after n g)

-- ---- so a generator's units are exact, from 0 to below 1, and no NaN
pub unit-draw-value : (g : SplitMix64) → HasValue (unit_draw_of g).value false ((draw_of g).value / 2 ^ 11) (2 ^ 53)
unfolding unit_draw_of
unit-draw-value g = unit-value (draw_of g).value (draw-lt g)

pub unit-draw-range : (g : SplitMix64) → T (le (fin false 0 (pos 0)) (unit_draw_of g).value) × T (lt (unit_draw_of g).value (fin false 1 (pos 0)))
unfolding unit_draw_of
unit-draw-range g = unit-range (draw_of g).value (draw-lt g)

pub unit-draw-not-nan : (g : SplitMix64) → T (not (is_nan (unit_draw_of g).value))
unfolding unit_draw_of
unit-draw-not-nan g = unit-not-nan (draw_of g).value (draw-lt g)

-- ---- draws in a row
pub after-zero : (g : SplitMix64) → after 0 g ≡ g
unfolding after
after-zero g = refl

pub after_next : (n : ℕ) (g : SplitMix64) → (unit_draw_of (after n g)).rng ≡ after (n + 1) g
unfolding after unit_draw_of
after_next n g = rw add-one

pub after-add : (m n : ℕ) (g : SplitMix64) → after n (after m g) ≡ after (m + n) g
unfolding after
after-add m zero g = rw add-zero
after-add m (suc n) g = rw (add-suc m n) (ap (λ (x : SplitMix64). (draw_of x).rng) (after-add m n g))

-- the state after n draws: it has grown n times by the same number, modulo 2^64
pub after-state : (n : ℕ) (g : SplitMix64) → g.state < 2 ^ 64 → (after n g).state ≡ (g.state + n * gamma) % 2 ^ 64
unfolding after draw_of next_state
after-state zero g h = sym (ap (λ (s : ℕ). (g.state + s) % 2 ^ 64) (zero-mul gamma) ∙ ap (λ (s : ℕ). s % 2 ^ 64) (add-zero g.state) ∙ mod-eq_of_lt h)
after-state (suc n) g h =
    ap (λ (s : ℕ). (s + gamma) % 2 ^ 64) (after-state n g h)
    ∙ mod-add-mod (g.state + n * gamma) (2 ^ 64) gamma
    ∙ ap (λ (s : ℕ). s % 2 ^ 64) (add_assoc g.state (n * gamma) gamma ∙ ap (λ (s : ℕ). g.state + s) (sym (suc-mul n gamma)))
