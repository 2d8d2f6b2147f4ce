-- One tile's step of the count and of the fill. Assumes nothing.
use Rattle.std.proofs.Common.{◌≡◌, ℕ, zero, suc, ◌+◌, ◌-◌, ◌<◌, ◌≤◌, Bool, true, List, length, get_or, sym, ap, ◌∙◌, ⊎_elim, add-one, arith, take_all, ext_get_or}
use Rattle.course.specs.Grader.Index.{listed, start, index_of, offsets_of}
use Rattle.course.specs.Rules.Rect.{Rect, holds}
use Rattle.course.specs.Rules.Lengths.{cell_count, offset_count}
use Rattle.course.specs.Steps.Index.{RectCounted, Counts, RectPlaced, Placed, Summed, sum_below}
use Rattle.course.specs.Rules.Counting.{digit}
use Rattle.course.proofs.BoolLaws.{bool}
use Rattle.course.proofs.IndexLaws.{order, listed-none, listed_more, listed_at, listed_le, listed_small, start-apart, start-more, start_none, index_is, table-length, table_at}
use Rattle.course.proofs.CellRuns.{same?, sum_more, sum-none}

module _ (h : ℕ → ℕ → Bool) (i : ℕ) (r : Rect) (is : (c : ℕ) → h i c ≡ holds r c) where
  pub counts-more : (o o' : List ℕ) → Counts h i o → RectCounted 2 o o' r → Counts h (i + 1) o'
  counts-more o o' t u =
      record {
        size = u.same ∙ t.size;
        first = λ k l. u.first k l ∙ t.first k l;
        cells = λ c l. omega (arith, u.cells c l, t.cells c l, listed_more h i c, ap digit (is c));
      }

  module _ (n : ℕ) (below : i < n) (o l : List ℕ) (t : Placed h n i o l) where
    -- the cursor of a cell that holds the tile points into the list
    pub placed-near : (c : ℕ) → c < cell_count → holds r c ≡ true → get_or o (c + 1) 0 < length l
    placed-near c m e = omega (arith, t.cells c m, (listed_at h i n c below (is c ∙ e)).0, start-apart h n c cell_count m, t.room)

    -- no cursor points at an entry that is placed
    apart : (c k : ℕ) → k < length (listed h i c) → (d : ℕ) → d < cell_count → holds r d ≡ true → start h n c + k ≡ get_or o (d + 1) 0 → ⊥
    apart c k b d m e q =
        let f : start h n c + k ≡ start h n d + length (listed h i d) = q ∙ t.cells d m in
        let g : length (listed h i d) < length (listed h n d) = (listed_at h i n d below (is d ∙ e)).0 in
        ⊎_elim
        (λ p. omega (arith, start-apart h n c d p, listed_le h i n c (omega arith)))
        (λ p. ⊎_elim
        (λ z. omega (arith, ap (start h n) z, ap (λ (x : ℕ). length (listed h i x)) z))
        (λ z. omega (arith, start-apart h n d c (omega arith)))
        (same? c d))
        (order c d)

    pub placed-more : (o' l' : List ℕ) → RectPlaced o l o' l' i r → Placed h n (i + 1) o' l'
    placed-more o' l' u =
        record {
          size = u.cursors.same ∙ t.size;
          room = u.same-list ∙ t.room;
          first = u.cursors.first 0 (omega arith) ∙ t.first;
          cells = λ c m. omega (arith, u.cursors.cells c (omega arith), t.cells c m, listed_more h i c, ap digit (is c));
          ids = λ c k m b. ⊎_elim (λ p. u.other (start h n c + k) (apart c k p) ∙ t.ids c k m p) (λ p. ⊎_elim (new c k m b p) (λ e. absurd (omega (arith, listed_more h i c, ap digit e))) (bool (h i c))) (order k (length (listed h i c)));
        }
      where
        -- the tile's own entry, after those of the tiles before it
        new : (c k : ℕ) → c < cell_count → k < length (listed h (i + 1) c) → length (listed h i c) ≤ k → h i c ≡ true → get_or l' (start h n c + k) 0 ≡ get_or (listed h n c) k 0
        new c k m b p e =
            let q : k ≡ length (listed h i c) = omega (arith, listed_more h i c, ap digit e) in
            let a : start h n c + k ≡ get_or o (c + 1) 0 = omega (arith, t.cells c m) in
            ap (λ (z : ℕ). get_or l' z 0) a
            ∙ u.placed c m (sym (is c) ∙ e)
            ∙ sym (listed_at h i n c below e).1
            ∙ ap (λ (z : ℕ). get_or (listed h n c) z 0) (sym q)

module _ (h : ℕ → ℕ → Bool) (n : ℕ) where
  pub counts-none : (o : List ℕ) → length o ≡ offset_count → ((k : ℕ) → k < offset_count → get_or o k 0 ≡ 0) → Counts h 0 o
  counts-none o e f = record { size = e; first = λ k l. f k (omega arith); cells = λ c l. f (c + 2) l ∙ sym (listed-none h c) }

  -- a count is at most the number of tiles
  pub counts-small : (o : List ℕ) → Counts h n o → (k : ℕ) → k < offset_count → get_or o k 0 ≤ n
  counts-small o t k l =
      ⊎_elim
      (λ m. omega (arith, t.first k m))
      (λ m.
      let e : k ≡ (k - 2) + 2 = omega arith in
      omega (arith, ap (λ (z : ℕ). get_or o z 0) e, t.cells (k - 2) (omega arith), listed_small h n (k - 2)))
      (order k 2)

  -- what is summed before the count of a cell is where its part starts
  sums : (o : List ℕ) → Counts h n o → (c : ℕ) → c < cell_count → sum_below o (c + 2) ≡ start h n c
  sums o t zero l = omega (arith, sum-none o, sum_more o 0, sum_more o 1, t.first 0 (omega arith), t.first 1 (omega arith), start_none h n)
  sums o t (suc c) l =
      let e : suc c + 2 ≡ (c + 2) + 1 = omega arith in
      ap (sum_below o) e ∙ rw (← add-one c) (omega (arith, sum_more o (c + 2), start-more h n c, t.cells c (omega arith), sums o t c (omega arith)))

  -- after the sums nothing is placed
  pub placed-none : (o o' l : List ℕ) → Counts h n o → Summed o o' → length l ≡ start h n cell_count → Placed h n 0 o' l
  placed-none o o' l t u e =
      record {
        size = u.same ∙ t.size;
        room = e;
        first = omega (arith, u.places 0 (omega (arith, t.size)), sum_more o 0, sum-none o, t.first 0 (omega arith));
        cells = λ c m.
            let q : (c + 1) + 1 ≡ c + 2 = omega arith in
            omega (arith, u.places (c + 1) (omega (arith, t.size)), ap (sum_below o) q, sums o t c m, listed-none h c);
        ids = λ c k m b. absurd (omega (arith, listed-none h c));
      }

  -- once all are placed the two columns are the index
  pub placed-offsets : (o l : List ℕ) → Placed h n n o l → o ≡ offsets_of h n cell_count
  placed-offsets o l t =
      ext_get_or 0 o (offsets_of h n cell_count) (t.size ∙ sym (table-length (start h n) offset_count))
      (λ k m. at k (omega (arith, t.size)) ∙ sym (table_at (start h n) offset_count k (omega (arith, t.size))))
    where
      at : (k : ℕ) → k < offset_count → get_or o k 0 ≡ start h n k
      at zero m = t.first ∙ sym (start_none h n)
      at (suc c) m = rw (← add-one c) (t.cells c (omega arith) ∙ sym (start-more h n c))

  pub placed-index : (o l : List ℕ) → Placed h n n o l → l ≡ index_of h n cell_count
  placed-index o l t =
      sym (take_all (start h n cell_count) l (omega (arith, t.room)))
      ∙ index_is h n l cell_count (omega (arith, t.room)) t.ids
