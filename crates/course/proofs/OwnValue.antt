-- Rounding changes no value that the format holds: m * 2 ^ e, rounded, is the float m * 2 ^ e. Assumes nothing.
use Rattle.std.proofs.Common.{◌≡◌, ℕ, zero, suc, ◌+◌, ◌-◌, ◌*◌, ◌%◌, ◌^◌, ◌<◌, ◌≤◌, true, false, ◌&&◌, T, eqb, ltb, leb, ℤ, pos, negsuc, sym, refl, ap, ◌∙◌, true≢false, le_of_eq, lt_of_lt_of_le, lt_of_le_of_lt, lt_irrefl, mul_assoc, lt_of_mul-lt-mul_right, mul-lt-mul_of_pos_right, one-mul, lt_of_not-le, zero-mul, mul-one, mul_right_comm, arith, lit<, ltb→lt, leb→le, pow_pos, pow-add}
use lib.Pow.{pow-lt}
use lib.Ieee.{Float, nan, inf, fin, binary64, up, down, round, fits}
use lib.Ieee.Digits.{back}
use lib.Ieee.Fits.{down_pos, and_l, and_r, round-fits}
use lib.Ieee.Exact.{HasValue, round_exact}
use lib.Ieee.Scale.{round_same}
use Rattle.course.specs.Laws.Nearest.{plain}
use Rattle.course.proofs.RootLaw.{units-value, same_units}

-- ---- in units of 2 ^ -1074, the smallest value above 0

-- 2 ^ e is 2 ^ j units
power : (e : ℤ) → down e ≤ 2 ^ 1074 → (j : ℕ) × (up e * 2 ^ 1074 ≡ 2 ^ j * down e)
power (pos k) h = (k + 1074, sym (pow-add 2 k 1074) ∙ sym (mul-one (2 ^ (k + 1074))))
power (negsuc k) h =
    let l : suc k ≤ 1074 = lt_of_not-le (λ (g : 1074 ≤ k). let q : 1074 < suc k = omega (arith, g) in lt_irrefl (2 ^ 1074) (lt_of_lt_of_le (pow-lt q) h)) in
    (1074 - suc k, one-mul (2 ^ 1074) ∙ sym (ap (λ (x : ℕ). 2 ^ x) (back 1074 (suc k) l)) ∙ pow-add 2 (1074 - suc k) (suc k))

-- a float of m * 2 ^ j units, m with no more digits than the format keeps
rounded : (m : ℕ) (e : ℤ) (j : ℕ) → T (fits binary64 (fin false m e)) → m < 2 ^ 53 → m * 2 ^ j < 2 ^ 2098 → m * up e * 2 ^ 1074 ≡ m * 2 ^ j * down e
    → round binary64 false (m * up e) (down e) ≡ fin false m e
rounded m e j F small fine h =
    let r = round binary64 false (m * 2 ^ j) (2 ^ 1074) in
    let v : HasValue r false (m * 2 ^ j) (2 ^ 1074) = round_exact binary64 false (m * 2 ^ j) (2 ^ 1074) m j (pow_pos 1074) small fine refl in
    round_same binary64 false (m * up e) (down e) (m * 2 ^ j) (2 ^ 1074) (down_pos e) (pow_pos 1074) h
    ∙ same_units r (fin false m e) (round-fits binary64 false (m * 2 ^ j) (2 ^ 1074)) (finite r (m * 2 ^ j) (2 ^ 1074) v) F tt
    (units-value r false (m * 2 ^ j) v ∙ sym (units-value (fin false m e) false (m * 2 ^ j) (refl, h)))
  where
    finite : (r : Float) (a c : ℕ) → HasValue r false a c → T (plain r)
    finite nan a c v = absurd v
    finite (inf s) a c v = absurd v
    finite (fin true n d) a c v = absurd (true≢false v.0)
    finite (fin false n d) a c v = tt

-- m * 2 ^ e below 2 ^ 1024 is below 2 ^ 2098 units
in-range : (m : ℕ) (e : ℤ) (j : ℕ) → up e * 2 ^ 1074 ≡ 2 ^ j * down e → m * up e < 2 ^ 1024 * down e → m * 2 ^ j < 2 ^ 2098
in-range m e j h l =
    lt_of_mul-lt-mul_right (down e) (lt_of_lt_of_le (lt_of_le_of_lt
    (le_of_eq (mul_assoc m (2 ^ j) (down e) ∙ ap (λ (x : ℕ). m * x) (sym h) ∙ sym (mul_assoc m (up e) (2 ^ 1074))))
    (mul-lt-mul_of_pos_right l (pow_pos 1074)))
    (le_of_eq (mul_right_comm (2 ^ 1024) (down e) (2 ^ 1074) ∙ ap (λ (x : ℕ). x * down e) (sym (pow-add 2 1024 1074)))))

-- what `fits` says is what rounding asks
pub own_value : (m : ℕ) (e : ℤ) → T (fits binary64 (fin false m e)) → round binary64 false (m * up e) (down e) ≡ fin false m e
unfolding fits
own_value zero e F = rounded zero e 0 F (lit< tt) (lit< tt) (ap (λ (x : ℕ). x * 2 ^ 1074) (zero-mul (up e)) ∙ zero-mul (2 ^ 1074) ∙ sym (zero-mul (down e)))
own_value (suc n) e F =
    let m = suc n in
    let o = eqb (m % 2) 1 in
    let d = ltb m (2 ^ 53) in
    let b = leb (down e) (2 ^ 1074) in
    let a = ltb (m * up e) (2 ^ 1024 * down e) in
    let lower = and_l (o && d && b) a F in
    let p = power e (leb→le (down e) (2 ^ 1074) (and_r (o && d) b lower)) in
    rounded m e p.0 F (ltb→lt m (2 ^ 53) (and_r o d (and_l (o && d) b lower)))
    (in-range m e p.0 p.1 (ltb→lt (m * up e) (2 ^ 1024 * down e) (and_r (o && d && b) a F)))
    (mul_assoc m (up e) (2 ^ 1074) ∙ ap (λ (x : ℕ). m * x) p.1 ∙ sym (mul_assoc m (2 ^ p.0) (down e)))
