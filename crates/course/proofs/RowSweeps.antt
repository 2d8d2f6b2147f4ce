-- The loops over a rectangle's rows, one row at a time: the cells before p are done, and those from p on are as they were. Assumes nothing.
use Rattle.std.proofs.Common.{◌≡◌, ℕ, ◌+◌, ◌-◌, ◌*◌, ◌%◌, ◌<◌, ◌≤◌, min, true, false, ◌⊎◌, List, length, get_or, sym, ap, ◌∙◌, inl, inr, ⊎_elim, true≢false, arith}
use Rattle.course.specs.Rules.Rect.{Rect, holds}
use Rattle.course.specs.Rules.Constants.{grid_dim}
use Rattle.course.specs.Rules.Lengths.{offset_count}
use Rattle.course.specs.Steps.Index.{Small}
use Rattle.course.specs.Rules.Counting.{digit}
use Rattle.course.specs.Steps.Index.{Inside, RunCounted, RectCounted, RunPlaced, RectPlaced}
use Rattle.course.proofs.IndexLaws.{order}
use Rattle.course.proofs.Rects.{holds-in, out-row, out-column}

-- s is how many places after a cell's own its count or its cursor stands
pub record CountedTo (s : ℕ) (o₀ o : List ℕ) (r : Rect) (p : ℕ) : Type 0 where
  pub same : length o ≡ length o₀
  pub first : (k : ℕ) → k < s → get_or o k 0 ≡ get_or o₀ k 0
  pub done : (c : ℕ) → c < p → c + s < offset_count → get_or o (c + s) 0 ≡ get_or o₀ (c + s) 0 + digit (holds r c)
  pub left : (k : ℕ) → p + s ≤ k → get_or o k 0 ≡ get_or o₀ k 0

pub record PlacedTo (o₀ l₀ o l : List ℕ) (id : ℕ) (r : Rect) (p : ℕ) : Type 0 where
  pub cursors : CountedTo 1 o₀ o r p
  pub same-list : length l ≡ length l₀
  pub placed : (c : ℕ) → c < p → holds r c ≡ true → get_or l (get_or o₀ (c + 1) 0) 0 ≡ id
  pub other : (j : ℕ) → ((c : ℕ) → c < p → holds r c ≡ true → j ≡ get_or o₀ (c + 1) 0 → ⊥) → get_or l j 0 ≡ get_or l₀ j 0

module _ (r : Rect) (y : ℕ) where
  -- the cells of the rectangle in row y
  abbrev pub Row : ℕ → Type 0
  Row c = Inside (y * grid_dim + r.x0) (y * grid_dim + r.x1 + 1) c

  -- a row of the rectangle: its cells are those from the first to the last column
  pub row-case : Small r → r.y0 ≤ y → y ≤ r.y1 → (c : ℕ) → y * grid_dim ≤ c → c < y * grid_dim + grid_dim → (Row c × (holds r c ≡ true)) ⊎ ((Row c → ⊥) × (holds r c ≡ false))
  row-case s a b c l m =
      ⊎_elim
      (λ q. inr (λ w. omega arith, out-column r c (inl q)))
      (λ q. ⊎_elim (λ t. inr (λ w. omega arith, out-column r c (inr t))) (λ t. inl (omega arith, holds-in r c (omega arith) (omega arith) q t)) (order r.x1 (c % grid_dim)))
      (order (c % grid_dim) r.x0)

  pub row-holds : Small r → r.y0 ≤ y → y ≤ r.y1 → (c : ℕ) → Row c → holds r c ≡ true
  row-holds s a b c w = holds-in r c (omega arith) (omega arith) (omega arith) (omega arith)

module _ (r : Rect) (small : Small r) where
  pub below-rect : (c y : ℕ) → y ≤ r.y0 → c < y * grid_dim → holds r c ≡ false
  below-rect c y a l = out-row r c (inl (omega arith))

  pub above-rect : (c y : ℕ) → r.y1 < y → y * grid_dim ≤ c → holds r c ≡ false
  above-rect c y a l = out-row r c (inr (omega arith))

  module _ (s : ℕ) (o₀ o : List ℕ) where
    pub count_none : o ≡ o₀ → (y : ℕ) → y ≤ r.y0 → CountedTo s o₀ o r (y * grid_dim)
    count_none e y a =
        record {
          same = ap length e;
          first = λ k l. ap (λ (z : List ℕ). get_or z k 0) e;
          done = λ c l m. omega (arith, ap (λ (z : List ℕ). get_or z (c + s) 0) e, ap digit (below-rect c y a l));
          left = λ k l. ap (λ (z : List ℕ). get_or z k 0) e;
        }

    pub count-row : (o' : List ℕ) (y end : ℕ) → r.y0 ≤ y → y ≤ r.y1 → end ≡ min (y * grid_dim + r.x1 + 1 + s) offset_count → CountedTo s o₀ o r (y * grid_dim) → RunCounted o o' (y * grid_dim + r.x0 + s) end → CountedTo s o₀ o' r ((y + 1) * grid_dim)
    count-row o' y end a b q t u =
        record {
          same = u.same ∙ t.same;
          first = λ k l. u.kept k (λ w. omega arith) ∙ t.first k l;
          done = λ c l n.
              ⊎_elim
              (λ m. u.kept (c + s) (λ w. omega arith) ∙ t.done c m n)
              (λ m. ⊎_elim
              (λ w. omega (arith, u.hit (c + s) (omega arith), t.left (c + s) (omega arith), ap digit w.1))
              (λ w. omega (arith, u.kept (c + s) (λ v. w.0 (omega arith)), t.left (c + s) (omega arith), ap digit w.1))
              (row-case r y small a b c m (omega arith)))
              (order c (y * grid_dim));
          left = λ k l. u.kept k (λ w. omega arith) ∙ t.left k (omega arith);
        }

    pub count-done : (y : ℕ) → r.y1 < y → CountedTo s o₀ o r (y * grid_dim) → RectCounted s o₀ o r
    count-done y a t =
        record {
          same = t.same;
          first = t.first;
          cells = λ c l. ⊎_elim (λ m. t.done c m l) (λ m. omega (arith, t.left (c + s) (omega arith), ap digit (above-rect c y a m))) (order c (y * grid_dim));
        }

  module _ (o₀ l₀ o l : List ℕ) (id : ℕ) where
    pub place_none : o ≡ o₀ → l ≡ l₀ → (y : ℕ) → y ≤ r.y0 → PlacedTo o₀ l₀ o l id r (y * grid_dim)
    place_none e f y a =
        record {
          cursors = count_none 1 o₀ o e y a;
          same-list = ap length f;
          placed = λ c m t. absurd (true≢false (sym t ∙ below-rect c y a m));
          other = λ j w. ap (λ (z : List ℕ). get_or z j 0) f;
        }

    pub place-row : (o' l' : List ℕ) (y : ℕ) → r.y0 ≤ y → y ≤ r.y1 → PlacedTo o₀ l₀ o l id r (y * grid_dim) → RunPlaced o l o' l' id (y * grid_dim + r.x0 + 1) (y * grid_dim + r.x1 + 2) → PlacedTo o₀ l₀ o' l' id r ((y + 1) * grid_dim)
    place-row o' l' y a b t u =
        record {
          cursors = count-row 1 o₀ o o' y (y * grid_dim + r.x1 + 2) a b (omega arith) t.cursors u.cursors;
          same-list = u.same-list ∙ t.same-list;
          placed = λ c k q.
              ⊎_elim
              (λ m. ⊎_elim (λ v. v) (λ v. v ∙ t.placed c m q) (u.either (get_or o₀ (c + 1) 0)))
              (λ m. ⊎_elim
              (λ w. ap (λ (z : ℕ). get_or l' z 0) (sym (t.cursors.left (c + 1) (omega arith))) ∙ u.placed (c + 1) (omega arith))
              (λ w. absurd (true≢false (sym q ∙ w.1)))
              (row-case r y small a b c m (omega arith)))
              (order c (y * grid_dim));
          other = λ j f.
              u.other j (λ k w e. f (k - 1) (omega arith) (row-holds r y small a b (k - 1) (omega arith)) (e ∙ t.cursors.left k (omega arith) ∙ ap (λ (z : ℕ). get_or o₀ z 0) (before k w)))
              ∙ t.other j (λ c m. f c (omega arith));
        }
      where
        before : (k : ℕ) → Inside (y * grid_dim + r.x0 + 1) (y * grid_dim + r.x1 + 2) k → k ≡ k - 1 + 1
        before k w = omega arith

    pub place-done : (y : ℕ) → r.y1 < y → y ≤ grid_dim → PlacedTo o₀ l₀ o l id r (y * grid_dim) → RectPlaced o₀ l₀ o l id r
    place-done y a top t =
        record {
          cursors = count-done 1 o₀ o y a t.cursors;
          same-list = t.same-list;
          placed = λ c k q. ⊎_elim (λ m. t.placed c m q) (λ m. absurd (true≢false (sym q ∙ above-rect c y a m))) (order c (y * grid_dim));
          other = λ j f. t.other j (λ c m. f c (omega arith));
        }
