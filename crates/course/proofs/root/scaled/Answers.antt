-- `course::root::scaled` meets its contract: what the leading zeros leave has 53 digits. Assumes nothing.
use Rattle.std.proofs.Common.{◌≡◌, ℕ, suc, ◌+◌, ◌-◌, ◌*◌, ◌/◌, ◌%◌, ◌^◌, ◌<◌, ◌≤◌, sym, ap, ◌∙◌, subst, lt_of_lt_of_le, lt_of_not-le, lt_irrefl, le_trans, mul_assoc, mul-le-mul_right, arith, pow_mono, pow-add, shl_lt}
use Rattle.std.proofs.lemmas.Nat.{leading_top}
use lib.Count.{count_leading_zeros}
use Rattle.course.specs.Steps.Root.{units_of, Scaled}
use Rattle.course.proofs.RootFields.{as-it-is, brought}
use Rattle.course.proofs.root.scaled.Goals as goal

-- b, brought up by its leading zeros but eleven
record Up (b z : ℕ) : Type 0 where
  enough : 11 < z
  few : z < 64
  high : 4503599627370496 ≤ b * 2 ^ (z - 11)
  low : b * 2 ^ (z - 11) < 9007199254740992

up : (b : ℕ) → 0 < b → b < 4503599627370496 → Up b (count_leading_zeros 64 b)
up b p h = go (count_leading_zeros 64 b) (leading_top 64 b p (omega arith))
  where
    go : (z : ℕ) → (j : ℕ) × (z + suc j ≡ 64) × (2 ^ j ≤ b) × (b < 2 ^ suc j) → Up b z
    go z (j, e, l, u) =
        let s : j < 52 = lt_of_not-le (λ (g : 52 ≤ j). lt_irrefl b (lt_of_lt_of_le h (le_trans (pow_mono g) l))) in
        let k : j + (z - 11) ≡ 52 = omega arith in
        let k1 : suc j + (z - 11) ≡ 53 = omega arith in
        record {
          enough = omega arith;
          few = omega arith;
          high = subst (λ (i : ℕ). 2 ^ i ≤ b * 2 ^ (z - 11)) k (subst (λ (i : ℕ). i ≤ b * 2 ^ (z - 11)) (sym (pow-add 2 j (z - 11))) (mul-le-mul_right (2 ^ (z - 11)) l));
          low = subst (λ (i : ℕ). b * 2 ^ (z - 11) < 2 ^ i) k1 (shl_lt (suc j) (z - 11) u);
        }

same : (b u : ℕ) → u ≤ 1074 → b * 2 ^ u * 2 ^ (1074 - u) ≡ b * 2 ^ 1074
same b u h = mul_assoc b (2 ^ u) (2 ^ (1074 - u)) ∙ ap (λ (x : ℕ). b * x) (sym (pow-add 2 u (1074 - u)) ∙ ap (λ (i : ℕ). 2 ^ i) (all u h))
  where
    all : (i : ℕ) → i ≤ 1074 → i + (1074 - i) ≡ 1074
    all i g = omega arith

pub returns-then-b-ge-LEAD : goal.returns-then-b-ge-LEAD
returns-then-b-ge-LEAD c = as-it-is c.args.b (omega arith) (omega arith)

pub overflow_sub-up : goal.overflow_sub-up
overflow_sub-up c = omega (arith, (up c.args.b (omega arith) (omega arith)).enough)

pub overflow_add-result : goal.overflow_add-result
overflow_add-result c =
    let z = count_leading_zeros 64 c.args.b in
    let u : Up c.args.b z = up c.args.b (omega arith) (omega arith) in
    omega (arith, u.low)

pub returns : goal.returns
returns c =
    let b = c.args.b in
    let z = count_leading_zeros 64 b in
    let u : Up b z = up b (omega arith) (omega arith) in
    let m = b * 2 ^ (z - 11) in
    let bits : (1074 - (z - 11) - 1020) * 4503599627370496 + m ≡ (54 - (z - 11)) * 4503599627370496 + m % 18446744073709551616 = omega (arith, u.low, u.few) in
    subst (λ (x : ℕ). Scaled (units_of (b / 4503599627370496) (b % 4503599627370496)) x 27) (bits ∙ ap (λ (u : ℕ). (54 - u) * 4503599627370496 + m % 18446744073709551616) (sym c.from.ensures))
    (brought b m (1074 - (z - 11)) (omega arith) (same b (z - 11) (omega (arith, u.few))) u.high u.low (omega (arith, u.few)) (omega (arith, u.enough)))
