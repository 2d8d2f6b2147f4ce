-- Laws of `unit_of`: a unit is exactly the draw shifted right 11 over 2^53, from 0 to below 1; and multiplying by 2^−53 gives it too.
-- Assumes nothing.
use Rattle.std.proofs.Common.{◌≡◌, ℕ, suc, ◌+◌, ◌*◌, ◌/◌, ◌^◌, ◌<◌, Bool, true, false, not, T, pos, negsuc, sym, refl, ap, ◌∙◌, subst, zero-le, lt_of_lt_of_le, le_of_lt, mul_assoc, mul_comm, lt_of_mul-lt-mul_right, mul-lt-mul_of_pos_right, mul-pos, one-mul, zero-mul, mul-one, arith, lit<, lit≤, lt→ltb, pow_pos, pow_mono, pow-add, shl_lt, shr_lt}
use lib.Ieee.{Float, nan, inf, fin, Format, binary64, up, down, unlike, mul, div, round, of_int, to_bits, lt, le, is_nan}
use lib.Ieee.Fits.{down_pos}
use lib.Ieee.Exact.{HasValue, round_exact}
use lib.Ieee.Back.{round_whole}
use lib.Ieee.Order.{le_of_values}
use lib.Ieee.Scale.{round_same}
use Rattle.rng.specs.Rules.Unit.{unit_of}

-- 2^53 as an f64, in lowest terms
two53 : of_int binary64 (pos (2 ^ 53)) ≡ fin false 1 (pos 53)
unfolding of_int round
two53 = refl

over-two53 : (draw : ℕ) → unit_of draw ≡ div binary64 (of_int binary64 (pos (draw / 2 ^ 11))) (fin false 1 (pos 53))
unfolding unit_of
over-two53 draw = ap (div binary64 (of_int binary64 (pos (draw / 2 ^ 11)))) two53

-- Dividing by 2^(k+1) and multiplying by 2^−(k+1) give the same value, whatever the dividend and the format.
pub div-is-mul : (f : Format) (k : ℕ) (x : Float) → div f x (fin false 1 (pos (suc k))) ≡ mul f x (fin false 1 (negsuc k))
unfolding div mul
div-is-mul f k nan = refl
div-is-mul f k (inf s) = refl
div-is-mul f k (fin s m e) =
    ap (λ (d : ℕ). round f (unlike s false) (m * up e * 1) d)
    (ap (λ (n : ℕ). n * down e) (one-mul (2 ^ suc k)) ∙ mul_comm (2 ^ suc k) (down e))

pub unit-by-mul : (draw : ℕ) → mul binary64 (of_int binary64 (pos (draw / 2 ^ 11))) (fin false 1 (negsuc 52)) ≡ unit_of draw
unit-by-mul draw = sym (over-two53 draw ∙ div-is-mul binary64 52 (of_int binary64 (pos (draw / 2 ^ 11))))

-- so every draw has the bits that the quotient gave it; none is a NaN, whose bits would be free (`unit-not-nan`)
pub unit-bits : (draw : ℕ) → to_bits binary64 (mul binary64 (of_int binary64 (pos (draw / 2 ^ 11))) (fin false 1 (negsuc 52))) ≡ to_bits binary64 (unit_of draw)
unit-bits draw = ap (to_bits binary64) (unit-by-mul draw)

-- a quotient by 2^53 of a value n, rounded: the fraction n / 2^53
div_value : (x : Float) (n : ℕ) → HasValue x false n 1 → div binary64 x (fin false 1 (pos 53)) ≡ round binary64 false n (2 ^ 53)
unfolding div
div_value nan n h = absurd h
div_value (inf s) n h = absurd h
div_value (fin s m e) n h =
    ap (λ (b : Bool). round binary64 (unlike b false) (m * up e * 1) (2 ^ 53 * down e)) h.0
    ∙ round_same binary64 false (m * up e * 1) (2 ^ 53 * down e) n (2 ^ 53) (mul-pos (pow_pos 53) (down_pos e)) (pow_pos 53)
    (ap (λ (z : ℕ). z * 2 ^ 53) h.1 ∙ mul_assoc n (down e) (2 ^ 53) ∙ ap (λ (z : ℕ). n * z) (mul_comm (down e) (2 ^ 53)))

-- a unit is exactly the draw shifted right 11, over 2^53
pub unit-value : (draw : ℕ) → draw < 2 ^ 64 → HasValue (unit_of draw) false (draw / 2 ^ 11) (2 ^ 53)
unfolding of_int
unit-value draw h =
    let n = draw / 2 ^ 11 in
    let small : n < 2 ^ 53 = shr_lt 53 11 h in
    let is : unit_of draw ≡ round binary64 false n (2 ^ 53) = over-two53 draw ∙ div_value (of_int binary64 (pos n)) n (round_whole binary64 false n (le_of_lt small)) in
    subst (λ (x : Float). HasValue x false n (2 ^ 53)) (sym is)
    (round_exact binary64 false n (2 ^ 53) n 1021 (pow_pos 53) small
    (lt_of_lt_of_le (shl_lt 53 1021 small) (pow_mono {i = 53 + 1021} {j = 1074 + 1024} (lit≤ tt)))
    (ap (λ (z : ℕ). n * z) (pow-add 2 1021 53) ∙ sym (mul_assoc n (2 ^ 1021) (2 ^ 53))))

-- from 0, and below 1
below_one : (x : Float) (a c : ℕ) → a < c → HasValue x false a c → T (lt x (fin false 1 (pos 0)))
unfolding lt
below_one nan a c l h = absurd h
below_one (inf s) a c l h = absurd h
below_one (fin true m e) a c l h = lt→ltb 0 (m * up e * 1 + 1 * down e) (omega (arith, down_pos e))
below_one (fin false m e) a c l h =
    let n = m * up e in
    let k : n * c < down e * c = rw (h.1, mul_comm (down e) c) (mul-lt-mul_of_pos_right l (down_pos e)) in
    lt→ltb (n * 1) (1 * down e) (rw (mul-one, one-mul) (lt_of_mul-lt-mul_right c k))

from_zero : (x : Float) (a c : ℕ) → 0 < c → HasValue x false a c → T (le (fin false 0 (pos 0)) x)
from_zero x a c p h = le_of_values (fin false 0 (pos 0)) x 0 1 a c (lit< tt) p (refl, refl) h (rw zero-mul zero-le)

pub unit-range : (draw : ℕ) → draw < 2 ^ 64 → T (le (fin false 0 (pos 0)) (unit_of draw)) × T (lt (unit_of draw) (fin false 1 (pos 0)))
unit-range draw h =
    let v = unit-value draw h in
    (from_zero (unit_of draw) (draw / 2 ^ 11) (2 ^ 53) (pow_pos 53) v, below_one (unit_of draw) (draw / 2 ^ 11) (2 ^ 53) (shr_lt 53 11 h) v)

not-nan : (x : Float) (a c : ℕ) → HasValue x false a c → T (not (is_nan x))
unfolding is_nan
not-nan nan a c h = absurd h
not-nan (inf s) a c h = absurd h
not-nan (fin s m e) a c h = tt

pub unit-not-nan : (draw : ℕ) → draw < 2 ^ 64 → T (not (is_nan (unit_of draw)))
unit-not-nan draw h = not-nan (unit_of draw) (draw / 2 ^ 11) (2 ^ 53) (unit-value draw h)
