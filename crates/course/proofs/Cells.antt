-- `cell_of` is (v + P) / 10 cut to an integer, 66 at most. Assumes nothing.
use Rattle.std.proofs.Common.{◌≡◌, ℕ, zero, suc, ◌+◌, ◌<◌, ◌≤◌, min, Bool, true, false, leb, refl, ap, ◌∙◌, le_trans, arith, lit≤, leb-false, leb-true}
use lib.Ieee.{Float, le, to_unsigned}
use Rattle.course.specs.Rules.Arithmetic.{natural}
use Rattle.course.proofs.Naturals.{natural-le}
use Rattle.course.specs.Rules.Counting.{digit, how_many}
use Rattle.course.specs.Rules.Cell.{along, cell_of}

-- ---- counting
step : (n q : ℕ) → min n q + digit (leb (suc n) q) ≡ min (suc n) q
step n q = go (leb (suc n) q) (leb-true (suc n) q) (leb-false (suc n) q)
  where
    go : (b : Bool) → (b ≡ true → suc n ≤ q) → (b ≡ false → q < suc n) → min n q + digit b ≡ min (suc n) q
    go true f g = let h : suc n ≤ q = f refl in omega arith
    go false f g = let h : q < suc n = g refl in omega arith

count_cut : (p : ℕ → Bool) (q n : ℕ) → ((k : ℕ) → 0 < k → k ≤ n → p k ≡ leb k q) → how_many n (λ k. p (suc k)) ≡ min n q
unfolding how_many
count_cut p q zero h = omega arith
count_cut p q (suc n) h =
    ap (λ (b : Bool). how_many n (λ k. p (suc k)) + digit b) (h (suc n) (omega arith) (omega arith))
    ∙ ap (λ (c : ℕ). c + digit (leb (suc n) q)) (count_cut p q n (λ k a b. h k a (omega arith)))
    ∙ step n q

-- the cell is (v + P) / 10 as an integer, 66 at most: the Rust's own expression
pub cell_cut : (v : Float) → cell_of v ≡ min 66 (to_unsigned 64 (along v))
unfolding cell_of
cell_cut v = count_cut (λ k. le (natural k) (along v)) (to_unsigned 64 (along v)) 66 (λ k a b. natural-le k a (le_trans b (lit≤ tt)) (along v))

pub cell-high : (v : Float) → cell_of v ≤ 66
cell-high v = let e = cell_cut v in omega arith
