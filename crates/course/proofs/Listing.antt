-- What an index means: a cell lists exactly the ids below n whose rectangle holds it, strictly ascending; and what the builder wrote, the lookup finds.
-- Assumes nothing.
use Rattle.std.proofs.Common.{◌≡◌, ℕ, zero, suc, ◌<◌, ◌≤◌, Bool, true, false, cond, ltb, ◌⊎◌, List, [], ◌∷◌, ◌++◌, length, get_or, drop, sym, refl, ap, ◌∙◌, subst, inl, inr, ⊎_elim, not-suc-le-zero, arith, length-append, le-ltb}
use lib.ListN.{get_or-append}
use lib.Seq.{get_or_at}
use lib.Ieee.{Float}
use Rattle.course.specs.Rules.Lengths.{cell_count, offset_count}
use Rattle.course.specs.Grader.Index.{add_if, listed, part_ok, lookup, offsets_of, index_of}
use Rattle.course.specs.Rules.Rect.{holds_of, needed}
use Rattle.course.specs.Steps.Index.{Built}
use Rattle.course.proofs.IndexLaws.{order, listed_at, offset_at, index-length, part-laid, lookup-laid}

-- what stands at k after one element more
snoc-at : (l : List ℕ) (x k : ℕ) → k < length (l ++ (x ∷ [])) → (k < length l) ⊎ (k ≡ length l)
snoc-at l x k m = ⊎_elim inl (λ b. inr (omega (arith, length-append l (x ∷ [])))) (order k (length l))

module _ (h : ℕ → ℕ → Bool) (c : ℕ) where
  -- every id that the cell lists is below n, and its rectangle holds the cell
  pub listed-sound : (n k : ℕ) → k < length (listed h n c) → (get_or (listed h n c) k 0 < n) × (h (get_or (listed h n c) k 0) c ≡ true)
  unfolding listed
  listed-sound zero k m = absurd (not-suc-le-zero m)
  listed-sound (suc n) k m = go (h n c) refl (listed-sound n k) m
    where
      go : (b : Bool) → h n c ≡ b → (k < length (listed h n c) → (get_or (listed h n c) k 0 < n) × (h (get_or (listed h n c) k 0) c ≡ true)) → k < length (add_if b n (listed h n c)) → (get_or (add_if b n (listed h n c)) k 0 < suc n) × (h (get_or (add_if b n (listed h n c)) k 0) c ≡ true)
      go true e ih m =
          ⊎_elim
          (λ p. subst (λ (z : ℕ). (z < suc n) × (h z c ≡ true)) (sym (get_or-append (listed h n c) (n ∷ []) 0 k p)) (omega (arith, ih p), (ih p).1))
          (λ p. subst (λ (z : ℕ). (z < suc n) × (h z c ≡ true)) (sym (get_or_at (listed h n c) n [] 0 k (sym p))) (omega arith, e))
          (snoc-at (listed h n c) n k m)
      go false e ih m = (omega (arith, ih m), (ih m).1)

  -- every id below n whose rectangle holds the cell is listed
  pub listed-complete : (n t : ℕ) → t < n → h t c ≡ true → (k : ℕ) × (k < length (listed h n c)) × (get_or (listed h n c) k 0 ≡ t)
  listed-complete n t l e = (length (listed h t c), (listed_at h t n c l e).0, (listed_at h t n c l e).1)

  pub listed-ascending : (n j k : ℕ) → j < k → k < length (listed h n c) → get_or (listed h n c) j 0 < get_or (listed h n c) k 0
  unfolding listed
  listed-ascending zero j k l m = absurd (not-suc-le-zero m)
  listed-ascending (suc n) j k l m = go (h n c) (listed-ascending n j k l) m
    where
      go : (b : Bool) → (k < length (listed h n c) → get_or (listed h n c) j 0 < get_or (listed h n c) k 0) → k < length (add_if b n (listed h n c)) → get_or (add_if b n (listed h n c)) j 0 < get_or (add_if b n (listed h n c)) k 0
      go true ih m =
          ⊎_elim
          (λ p. omega (arith, ih p, get_or-append (listed h n c) (n ∷ []) 0 k p, get_or-append (listed h n c) (n ∷ []) 0 j (omega arith)))
          (λ p. omega (arith, listed-sound n j (omega arith), get_or-append (listed h n c) (n ∷ []) 0 j (omega arith), get_or_at (listed h n c) n [] 0 k (sym p)))
          (snoc-at (listed h n c) n k m)
      go false ih m = ih m

-- the columns that the builder wrote are an index of the tiles: the lookup of each cell is what it lists
pub built-lookup : (tiles : List Float) (n : ℕ) (o l o' l' : List ℕ) → Built tiles n o l o' l' → needed tiles n ≤ length l → (c : ℕ) → c < cell_count → lookup o' l' c ≡ listed (holds_of tiles) n c
built-lookup tiles n o l o' l' b a c m =
    let t : ltb (length l) (needed tiles n) ≡ false = le-ltb (length l) (needed tiles n) a in
    let p : o' ≡ offsets_of (holds_of tiles) n cell_count ++ drop offset_count o = b.offsets ∙ ap (λ (z : Bool). cond z o (offsets_of (holds_of tiles) n cell_count ++ drop offset_count o)) t in
    let q : l' ≡ index_of (holds_of tiles) n cell_count ++ drop (needed tiles n) l = b.entries ∙ ap (λ (z : Bool). cond z l (index_of (holds_of tiles) n cell_count ++ drop (needed tiles n) l)) t in
    ap (λ (z : List ℕ). lookup z l' c) p
    ∙ ap (λ (z : List ℕ). lookup (offsets_of (holds_of tiles) n cell_count ++ drop offset_count o) z c) q
    ∙ lookup-laid (holds_of tiles) n cell_count c (drop offset_count o) (drop (needed tiles n) l) m

-- the last offset is the list's length
pub last-offset : (h : ℕ → ℕ → Bool) (n cells : ℕ) (past : List ℕ) → get_or (offsets_of h n cells ++ past) cells 0 ≡ length (index_of h n cells)
last-offset h n cells past = offset_at h n cells past cells (omega arith) ∙ sym (index-length h n cells)

-- t stands in the list
abbrev pub Lists : List ℕ → ℕ → Type 0
Lists xs t = (k : ℕ) × (k < length xs) × (get_or xs k 0 ≡ t)

-- on a laid index, whatever stands past it, a cell lists t exactly where t is a tile whose rectangle holds the cell: for demand 3
module _ (h : ℕ → ℕ → Bool) (n cells c : ℕ) (past past' : List ℕ) (in-grid : c < cells) where
  -- and the cell is no cause for refusal 10 by its offsets
  pub part-ok : part_ok (offsets_of h n cells ++ past) (index_of h n cells ++ past') c ≡ true
  part-ok = part-laid h n cells c past past' in-grid

  pub laid : lookup (offsets_of h n cells ++ past) (index_of h n cells ++ past') c ≡ listed h n c
  laid = lookup-laid h n cells c past past' in-grid

  pub lists-held : (t : ℕ) → Lists (lookup (offsets_of h n cells ++ past) (index_of h n cells ++ past') c) t → (t < n) × (h t c ≡ true)
  lists-held t w =
      let v : Lists (listed h n c) t = subst (λ (z : List ℕ). Lists z t) laid w in
      subst (λ (z : ℕ). (z < n) × (h z c ≡ true)) v.2 (listed-sound h c n v.0 v.1)

  pub held-lists : (t : ℕ) → t < n → h t c ≡ true → Lists (lookup (offsets_of h n cells ++ past) (index_of h n cells ++ past') c) t
  held-lists t l e = subst (λ (z : List ℕ). Lists z t) (sym laid) (listed-complete h c n t l e)
