-- Which cells a rectangle holds, and how many. Assumes nothing.
use Rattle.std.proofs.Common.{◌≡◌, ℕ, zero, suc, ◌+◌, ◌-◌, ◌*◌, ◌/◌, ◌%◌, ◌<◌, ◌≤◌, min, Bool, true, false, ◌⊎◌, sym, ap, ◌∙◌, inl, inr, ⊎_elim, add-zero, mod-eq_of_lt, suc-mul, mul-le-mul, mul-zero, zero-mul, mul-suc, arith, le-leb}
use mathlib.Core.Bool.{and-false}
use native.Mathlib.Nat.{div-eq_of_lt, mul-add-div_right, mul-add-mod_self_right}
use borrow.Author.Tests.{lt-leb}
use Rattle.course.specs.Rules.Lengths.{cell_count}
use Rattle.course.specs.Rules.Constants.{grid_dim}
use Rattle.course.specs.Rules.Rect.{Rect, holds, area_of}
use Rattle.course.specs.Steps.Index.{Small}
use Rattle.course.specs.Rules.Counting.{how_many}
use Rattle.course.proofs.IndexLaws.{order, held_none, held-each}

module _ (r : Rect) (c : ℕ) where
  pub holds-in : r.y0 ≤ c / grid_dim → c / grid_dim ≤ r.y1 → r.x0 ≤ c % grid_dim → c % grid_dim ≤ r.x1 → holds r c ≡ true
  unfolding holds
  holds-in a b d e = simp (le-leb _ _ a, le-leb _ _ b, le-leb _ _ d, le-leb _ _ e)

  pub out-row : (c / grid_dim < r.y0) ⊎ (r.y1 < c / grid_dim) → holds r c ≡ false
  unfolding holds
  out-row (inl l) = simp (lt-leb _ _ l)
  out-row (inr l) = simp (lt-leb _ _ l, and-false)

  pub out-column : (c % grid_dim < r.x0) ⊎ (r.x1 < c % grid_dim) → holds r c ≡ false
  unfolding holds
  out-column (inl l) = simp (lt-leb _ _ l, and-false)
  out-column (inr l) = simp (lt-leb _ _ l, and-false)

-- ---- rows of w cells: cell y * w + x stands in row y and column x
module _ (w y x : ℕ) (h : x < w) where
  row_of : (y * w + x) / w ≡ y
  row_of = let some : 0 < w = omega arith in mul-add-div_right some y x ∙ ap (λ (z : ℕ). y + z) (div-eq_of_lt h) ∙ add-zero y

  column-of : (y * w + x) % w ≡ x
  column-of = mul-add-mod_self_right y w x ∙ mod-eq_of_lt h

-- the test g is true of the cells of the rectangle, and of no other cell of a row
record Fills (g : ℕ → Bool) (w : ℕ) (r : Rect) : Type 0 where
  wide : r.x1 < w
  inside : (y x : ℕ) → r.y0 ≤ y → y ≤ r.y1 → r.x0 ≤ x → x ≤ r.x1 → g (y * w + x) ≡ true
  off-row : (y x : ℕ) → x < w → (y < r.y0) ⊎ (r.y1 < y) → g (y * w + x) ≡ false
  off-column : (y x : ℕ) → x < w → (x < r.x0) ⊎ (r.x1 < x) → g (y * w + x) ≡ false

module _ (g : ℕ → Bool) (w : ℕ) (r : Rect) (s : Fills g w r) where
  in_row : (y c : ℕ) → y * w ≤ c → g c ≡ g (y * w + (c - y * w))
  in_row y c l = let e : c ≡ y * w + (c - y * w) = omega arith in ap g e

  -- a row below or above the rectangle adds nothing, and one of its own a row's width
  row_out : (y : ℕ) → (y < r.y0) ⊎ (r.y1 < y) → how_many (y * w + w) g ≡ how_many (y * w) g
  row_out y o = held_none g (y * w) w (λ c a b. in_row y c a ∙ s.off-row y (c - y * w) (omega arith) o)

  row_in : (y : ℕ) → r.y0 ≤ y → y ≤ r.y1 → how_many (y * w + w) g ≡ how_many (y * w) g + (r.x1 + 1 - r.x0)
  row_in y l m = ⊎_elim empty full (order r.x1 r.x0)
    where
      empty : r.x1 < r.x0 → how_many (y * w + w) g ≡ how_many (y * w) g + (r.x1 + 1 - r.x0)
      empty k =
          held_none g (y * w) w
          (λ c a b. in_row y c a ∙ s.off-column y (c - y * w) (omega arith) (⊎_elim (λ q. inl q) (λ q. inr (omega arith)) (order (c - y * w) r.x0)))
          ∙ omega arith

      full : r.x0 ≤ r.x1 → how_many (y * w + w) g ≡ how_many (y * w) g + (r.x1 + 1 - r.x0)
      full k =
          let wide = s.wide in
          let n : ℕ = r.x1 + 1 - r.x0 in
          let p : ℕ = y * w + r.x0 in
          let a : how_many p g ≡ how_many (y * w) g = held_none g (y * w) r.x0 (λ c a b. in_row y c a ∙ s.off-column y (c - y * w) (omega arith) (inl (omega arith))) in
          let b : how_many (p + n) g ≡ how_many p g + n = held-each g p n (λ c a b. in_row y c (omega arith) ∙ s.inside y (c - y * w) l m (omega arith) (omega arith)) in
          let d : how_many ((p + n) + (w - 1 - r.x1)) g ≡ how_many (p + n) g = held_none g (p + n) (w - 1 - r.x1) (λ c a b. in_row y c (omega arith) ∙ s.off-column y (c - y * w) (omega arith) (inr (omega arith))) in
          let e : y * w + w ≡ (p + n) + (w - 1 - r.x1) = omega arith in
          ap (λ (z : ℕ). how_many z g) e ∙ d ∙ b ∙ ap (λ (z : ℕ). z + n) a

  row_next : (y : ℕ) → how_many (y * w) g ≡ (r.x1 + 1 - r.x0) * (min y (r.y1 + 1) - r.y0) → how_many (y * w + w) g ≡ (r.x1 + 1 - r.x0) * (min (suc y) (r.y1 + 1) - r.y0)
  row_next y ih = ⊎_elim below (λ m. ⊎_elim above (between m) (order r.y1 y)) (order y r.y0)
    where
      below : y < r.y0 → how_many (y * w + w) g ≡ (r.x1 + 1 - r.x0) * (min (suc y) (r.y1 + 1) - r.y0)
      below l =
          let e : min y (r.y1 + 1) - r.y0 ≡ min (suc y) (r.y1 + 1) - r.y0 = omega arith in
          row_out y (inl l) ∙ ih ∙ ap (λ (z : ℕ). (r.x1 + 1 - r.x0) * z) e

      above : r.y1 < y → how_many (y * w + w) g ≡ (r.x1 + 1 - r.x0) * (min (suc y) (r.y1 + 1) - r.y0)
      above l =
          let e : min y (r.y1 + 1) - r.y0 ≡ min (suc y) (r.y1 + 1) - r.y0 = omega arith in
          row_out y (inr l) ∙ ih ∙ ap (λ (z : ℕ). (r.x1 + 1 - r.x0) * z) e

      between : r.y0 ≤ y → y ≤ r.y1 → how_many (y * w + w) g ≡ (r.x1 + 1 - r.x0) * (min (suc y) (r.y1 + 1) - r.y0)
      between l m =
          let e : suc (min y (r.y1 + 1) - r.y0) ≡ min (suc y) (r.y1 + 1) - r.y0 = omega arith in
          row_in y l m ∙ ap (λ (z : ℕ). z + (r.x1 + 1 - r.x0)) ih ∙ sym (mul-suc (r.x1 + 1 - r.x0) (min y (r.y1 + 1) - r.y0)) ∙ ap (λ (z : ℕ). (r.x1 + 1 - r.x0) * z) e

  rows : (y : ℕ) → how_many (y * w) g ≡ (r.x1 + 1 - r.x0) * (min y (r.y1 + 1) - r.y0)
  unfolding how_many
  rows zero =
      let e : min 0 (r.y1 + 1) - r.y0 ≡ 0 = omega arith in
      ap (λ (z : ℕ). how_many z g) (zero-mul w) ∙ sym (ap (λ (z : ℕ). (r.x1 + 1 - r.x0) * z) e ∙ mul-zero (r.x1 + 1 - r.x0))
  rows (suc y) = ap (λ (z : ℕ). how_many z g) (suc-mul y w) ∙ row_next y (rows y)

-- ---- in the grid
module _ (r : Rect) (s : Small r) where
  fills : Fills (holds r) grid_dim r
  fills = record {
    wide = omega (arith, s.right);
    inside = λ y x a b d e.
        let h : x < grid_dim = omega (arith, s.right) in
        holds-in r _ (rw (row_of grid_dim y x h) a) (rw (row_of grid_dim y x h) b) (rw (column-of grid_dim y x h) d) (rw (column-of grid_dim y x h) e);
    off-row = λ y x h o. out-row r _ (rw (row_of grid_dim y x h) o);
    off-column = λ y x h o. out-column r _ (rw (column-of grid_dim y x h) o);
  }

  -- the area is the number of cells held
  pub held-area : how_many cell_count (holds r) ≡ area_of r
  unfolding area_of
  held-area =
      let e : min grid_dim (r.y1 + 1) - r.y0 ≡ r.y1 + 1 - r.y0 = omega arith in
      rows (holds r) grid_dim r fills grid_dim ∙ ap (λ (z : ℕ). (r.x1 + 1 - r.x0) * z) e

  pub area_small : area_of r ≤ cell_count
  unfolding area_of
  area_small = mul-le-mul {n₁ = r.x1 + 1 - r.x0} {m₁ = r.y1 + 1 - r.y0} {n₂ = grid_dim} {m₂ = grid_dim} (omega arith) (omega arith)
