-- Laws of the index: of `listed`, `start`, `index_of` and `table`. Assumes nothing.
use Rattle.std.proofs.Common.{◌≡◌, ℕ, zero, suc, ◌+◌, ◌-◌, ◌*◌, ◌<◌, ◌≤◌, Bool, true, false, ◌&&◌, leb, ◌⊎◌, List, [], ◌∷◌, ◌++◌, length, get_or, take, drop, sym, refl, ap, ◌∙◌, subst, inl, inr, ⊎_elim, append_assoc, append-nil, le_of_suc-le-suc, not-suc-le-zero, add-zero, add-suc, eq-or-lt_of_le, mul-suc, add-one, arith, length-append, length-drop, length-take, get_or-drop, get_or-take, take_at, ext_get_or, take-add, drop_at, le-ltb, lt-ltb, le-leb}
use Rattle.std.proofs.Common.{Bor, Option, None, Some, MatchOption, ap₂}
use Rattle.std.specs.Slice.{IsGetRangeResult}
use mathlib.Core.Bool.{and-false}
use borrow.Author.Tests.{lt-leb}
use native.Mathlib.Decide.{dec_lt}
use lib.ListN.{get_or-append}
use lib.Seq.{get_or_at}
use Rattle.course.specs.Grader.Index.{add_if, listed, start, index_of, table, offsets_of, part_ok, lookup}
use Rattle.course.specs.Rules.Counting.{digit, how_many}

-- two numbers, in order or not
pub order : (a b : ℕ) → (a < b) ⊎ (b ≤ a)
order a b = go (dec_lt a b)
  where
    go : Dec (a < b) → (a < b) ⊎ (b ≤ a)
    go (yes p) = inl p
    go (no q) = inr (omega arith)

length-add_if : (b : Bool) (i : ℕ) (l : List ℕ) → length (add_if b i l) ≡ length l + digit b
length-add_if true i l = length-append l (i ∷ [])
length-add_if false i l = omega arith

pub table-length : (f : ℕ → ℕ) (k : ℕ) → length (table f k) ≡ k
unfolding table
table-length f zero = refl
table-length f (suc k) = omega (arith, length-append (table f k) (f k ∷ []), table-length f k)

pub table_at : (f : ℕ → ℕ) (k i : ℕ) → i < k → get_or (table f k) i 0 ≡ f i
unfolding table
table_at f zero i l = absurd (not-suc-le-zero l)
table_at f (suc k) i l =
    ⊎_elim
    (λ e. subst (λ (m : ℕ). get_or (table f k ++ (f k ∷ [])) m 0 ≡ f m) (sym e) (get_or_at (table f k) (f k) [] 0 k (table-length f k)))
    (λ m. get_or-append (table f k) (f k ∷ []) 0 i (omega (arith, table-length f k)) ∙ table_at f k i m)
    (eq-or-lt_of_le (le_of_suc-le-suc l))

-- ---- the lookup by its tests
module _ (o l : List ℕ) (c : ℕ) where
  -- the part of a cell, as facts
  pub record Part : Type 0 where
    pub has : c + 1 < length o
    pub rises : get_or o c 0 ≤ get_or o (c + 1) 0
    pub ends : get_or o (c + 1) 0 ≤ length l

  pub part-holds : Part → part_ok o l c ≡ true
  unfolding part_ok
  part-holds p = simp (lt-ltb (c + 1) (length o) p.has, le-leb (get_or o c 0) (get_or o (c + 1) 0) p.rises, le-leb (get_or o (c + 1) 0) (length l) p.ends)

  pub part-short : length o ≤ c + 1 → part_ok o l c ≡ false
  unfolding part_ok
  part-short h = simp (le-ltb (c + 1) (length o) h)

  pub part-rest : c + 1 < length o → part_ok o l c ≡ (leb (get_or o c 0) (get_or o (c + 1) 0) && leb (get_or o (c + 1) 0) (length l))
  unfolding part_ok
  part-rest h = simp (lt-ltb (c + 1) (length o) h)

  pub lookup-none : part_ok o l c ≡ false → lookup o l c ≡ []
  unfolding lookup
  lookup-none h = simp h

  lookup-part : part_ok o l c ≡ true → lookup o l c ≡ take (get_or o (c + 1) 0 - get_or o c 0) (drop (get_or o c 0) l)
  unfolding lookup
  lookup-part h = simp h

  -- what `get` answers for the range between the two offsets
  pub part-read : (from to : ℕ) (r : Option (Bor (List ℕ))) → c + 1 < length o → from ≡ get_or o c 0 → to ≡ get_or o (c + 1) 0 → IsGetRangeResult l from to r
      → MatchOption r (part_ok o l c ≡ false) (λ p. (part_ok o l c ≡ true) × (p.now ≡ lookup o l c))
  part-read from to None has ef et h = ⊎_elim (λ p. part-rest has ∙ simp (lt-leb _ _ (falls p))) (λ p. part-rest has ∙ simp (lt-leb _ _ (past p), and-false)) h.0
    where
      falls : to < from → get_or o (c + 1) 0 < get_or o c 0
      falls p = omega (arith, ef, et, p)

      past : length l < to → length l < get_or o (c + 1) 0
      past p = omega (arith, et, p)
  part-read from to (Some p) has ef et h =
      let holds : part_ok o l c ≡ true = part-holds (record { has = has; rises = omega (arith, ef, et, h.0.0); ends = omega (arith, et, h.0.1) }) in
      (holds, h.0.2 ∙ ap₂ (λ (x y : ℕ). take (y - x) (drop x l)) ef et ∙ sym (lookup-part holds))

module _ (h : ℕ → ℕ → Bool) where
  pub listed-none : (c : ℕ) → length (listed h 0 c) ≡ 0
  unfolding listed
  listed-none c = refl

  -- one id more
  pub listed_more : (i c : ℕ) → length (listed h (i + 1) c) ≡ length (listed h i c) + digit (h i c)
  unfolding listed
  listed_more i c = rw add-one (length-add_if (h i c) i (listed h i c))

  pub listed_small : (i c : ℕ) → length (listed h i c) ≤ i
  unfolding listed
  listed_small zero c = omega arith
  listed_small (suc i) c = le (h i c) (listed_small i c)
    where
      le : (b : Bool) → length (listed h i c) ≤ i → length (add_if b i (listed h i c)) ≤ suc i
      le true l = omega (arith, length-append (listed h i c) (i ∷ []))
      le false l = omega arith

  add-split : (p q : List ℕ) (b : Bool) (x : ℕ) → (t : List ℕ) × (p ≡ q ++ t) → (t : List ℕ) × (add_if b x p ≡ q ++ t)
  add-split p q true x s = (s.0 ++ (x ∷ []), ap (λ (z : List ℕ). z ++ (x ∷ [])) s.1 ∙ append_assoc q s.0 (x ∷ []))
  add-split p q false x s = s

  -- the ids below i come first among those below n
  pub listed-split : (i n c : ℕ) → i ≤ n → (t : List ℕ) × (listed h n c ≡ listed h i c ++ t)
  unfolding listed
  listed-split i zero c l =
      let e : 0 ≡ i = omega arith in
      ([], ap (λ (m : ℕ). listed h m c) e ∙ sym (append-nil (listed h i c)))
  listed-split i (suc n) c l =
      ⊎_elim
      (λ e. ([], ap (λ (m : ℕ). listed h m c) (sym e) ∙ sym (append-nil (listed h i c))))
      (λ m. add-split (listed h n c) (listed h i c) (h n c) n (listed-split i n c (le_of_suc-le-suc m)))
      (eq-or-lt_of_le l)

  -- where an id stands that a cell lists: after those below it
  pub listed_at : (i n c : ℕ) → i < n → h i c ≡ true → (length (listed h i c) < length (listed h n c)) × (get_or (listed h n c) (length (listed h i c)) 0 ≡ i)
  unfolding listed
  listed_at i n c l e =
      let s : (t : List ℕ) × (listed h n c ≡ listed h (suc i) c ++ t) = listed-split (suc i) n c l in
      let p : listed h n c ≡ listed h i c ++ (i ∷ s.0) = s.1 ∙ ap (λ (b : Bool). add_if b i (listed h i c) ++ s.0) e ∙ append_assoc (listed h i c) (i ∷ []) s.0 in
      (omega (arith, ap length p, length-append (listed h i c) (i ∷ s.0)), ap (λ (z : List ℕ). get_or z (length (listed h i c)) 0) p ∙ get_or_at (listed h i c) i s.0 0 (length (listed h i c)) refl)

  pub listed_le : (i n c : ℕ) → i ≤ n → length (listed h i c) ≤ length (listed h n c)
  listed_le i n c l =
      let s : (t : List ℕ) × (listed h n c ≡ listed h i c ++ t) = listed-split i n c l in
      omega (arith, ap length s.1, length-append (listed h i c) s.0)

module _ (h : ℕ → ℕ → Bool) (n : ℕ) where
  pub start_none : start h n 0 ≡ 0
  unfolding start
  start_none = refl

  pub start-more : (c : ℕ) → start h n (c + 1) ≡ start h n c + length (listed h n c)
  unfolding start
  start-more c = rw add-one

  -- a cell's part ends before that of a later cell starts
  pub start-apart : (c d : ℕ) → c < d → start h n c + length (listed h n c) ≤ start h n d
  unfolding start
  start-apart c zero l = absurd (not-suc-le-zero l)
  start-apart c (suc d) l =
      ⊎_elim
      (λ e. subst (λ (m : ℕ). start h n m + length (listed h n m) ≤ start h n d + length (listed h n d)) (sym e) (omega arith))
      (λ m. omega (arith, start-apart c d m))
      (eq-or-lt_of_le (le_of_suc-le-suc l))

  pub start_small : (m : ℕ) → n ≤ m → (c : ℕ) → start h n c ≤ m * c
  unfolding start
  start_small m b zero = omega arith
  start_small m b (suc c) = omega (arith, start_small m b c, listed_small h n c, mul-suc m c)

  pub index-length : (c : ℕ) → length (index_of h n c) ≡ start h n c
  unfolding index_of start
  index-length zero = refl
  index-length (suc c) = omega (arith, length-append (index_of h n c) (listed h n c), index-length c)

  -- a list that has each cell's ids where the cell's part starts is the index
  pub index_is : (l : List ℕ) (q : ℕ) → start h n q ≤ length l → ((c k : ℕ) → c < q → k < length (listed h n c) → get_or l (start h n c + k) 0 ≡ get_or (listed h n c) k 0) → take (start h n q) l ≡ index_of h n q
  unfolding index_of start
  index_is l zero b f = refl
  index_is l (suc q) b f =
      let x = start h n q in
      let y = length (listed h n q) in
      let len : length (take y (drop x l)) ≡ y = omega (arith, length-take y (drop x l), length-drop x l) in
      let e : take y (drop x l) ≡ listed h n q =
      ext_get_or 0 (take y (drop x l)) (listed h n q) len
      (λ k m. get_or-take y (drop x l) k 0 (omega arith) ∙ get_or-drop x l k 0 ∙ f q k (omega arith) (omega arith))
      in
      take-add x y l ∙ ap (λ (z : List ℕ). z ++ take y (drop x l)) (index_is l q (omega arith) (λ c k m. f c k (omega arith))) ∙ ap (λ (z : List ℕ). index_of h n q ++ z) e

  -- the part of a cell below q within the parts of all cells below q
  pub index-split : (c q : ℕ) → c < q → (t : List ℕ) × (index_of h n q ≡ index_of h n c ++ (listed h n c ++ t))
  unfolding index_of
  index-split c zero l = absurd (not-suc-le-zero l)
  index-split c (suc q) l =
      ⊎_elim
      (λ e. ([], subst (λ (m : ℕ). index_of h n q ++ listed h n q ≡ index_of h n m ++ (listed h n m ++ [])) (sym e) (ap (λ (z : List ℕ). index_of h n q ++ z) (sym (append-nil (listed h n q))))))
      (λ m. more (index-split c q m))
      (eq-or-lt_of_le (le_of_suc-le-suc l))
    where
      more : (t : List ℕ) × (index_of h n q ≡ index_of h n c ++ (listed h n c ++ t)) → (t : List ℕ) × (index_of h n q ++ listed h n q ≡ index_of h n c ++ (listed h n c ++ t))
      more s = (s.0 ++ listed h n q, ap (λ (z : List ℕ). z ++ listed h n q) s.1 ∙ simp append_assoc)

  -- where the lists of the cells below k end, whatever stands past the offsets
  pub offset_at : (cells : ℕ) (past : List ℕ) (k : ℕ) → k < cells + 1 → get_or (offsets_of h n cells ++ past) k 0 ≡ start h n k
  offset_at cells past k m = get_or-append (offsets_of h n cells) past 0 k (omega (arith, table-length (start h n) (cells + 1))) ∙ table_at (start h n) (cells + 1) k m

  -- ---- the law of the lookup: on a laid index, whatever stands past it, the lookup of cell c is what cell c lists
  module _ (cells c : ℕ) (past past' : List ℕ) (l : c < cells) where
    from_at : get_or (offsets_of h n cells ++ past) c 0 ≡ start h n c
    from_at = offset_at cells past c (omega arith)

    to_at : get_or (offsets_of h n cells ++ past) (c + 1) 0 ≡ start h n c + length (listed h n c)
    to_at = offset_at cells past (c + 1) (omega arith) ∙ start-more c

    abbrev rest : List ℕ
    rest = (index-split c cells l).0 ++ past'

    parts : index_of h n cells ++ past' ≡ index_of h n c ++ (listed h n c ++ rest)
    parts = ap (λ (z : List ℕ). z ++ past') (index-split c cells l).1 ∙ simp append_assoc

    pub part-laid : part_ok (offsets_of h n cells ++ past) (index_of h n cells ++ past') c ≡ true
    part-laid =
        let o = offsets_of h n cells ++ past in
        let i = index_of h n cells ++ past' in
        let lo : length o ≡ cells + 1 + length past = length-append (offsets_of h n cells) past ∙ ap (λ (z : ℕ). z + length past) (table-length (start h n) (cells + 1)) in
        let li : start h n c + length (listed h n c) ≤ length i =
        omega (arith, ap length parts, length-append (index_of h n c) (listed h n c ++ rest), length-append (listed h n c) rest, index-length c)
        in
        part-holds o i c (record { has = omega arith; rises = omega (arith, from_at, to_at); ends = omega (arith, to_at) })

    pub lookup-laid : lookup (offsets_of h n cells ++ past) (index_of h n cells ++ past') c ≡ listed h n c
    lookup-laid =
        let o = offsets_of h n cells ++ past in
        let i = index_of h n cells ++ past' in
        let d : drop (get_or o c 0) i ≡ listed h n c ++ rest =
        ap (λ (z : List ℕ). drop (get_or o c 0) z) parts ∙ drop_at (index_of h n c) (listed h n c ++ rest) (get_or o c 0) (index-length c ∙ sym from_at)
        in
        let w : length (listed h n c) ≡ get_or o (c + 1) 0 - get_or o c 0 = omega (arith, from_at, to_at) in
        lookup-part o i c part-laid
        ∙ ap (λ (z : List ℕ). take (get_or o (c + 1) 0 - get_or o c 0) z) d
        ∙ take_at (listed h n c) rest (get_or o (c + 1) 0 - get_or o c 0) w

-- one tile more adds the cells that it holds
pub start-tile : (h : ℕ → ℕ → Bool) (n q : ℕ) → start h (n + 1) q ≡ start h n q + how_many q (h n)
unfolding start how_many
start-tile h n zero = omega arith
start-tile h n (suc q) = omega (arith, start-tile h n q, listed_more h n q)

pub start-no-tile : (h : ℕ → ℕ → Bool) (q : ℕ) → start h 0 q ≡ 0
unfolding start
start-no-tile h zero = refl
start-no-tile h (suc q) = omega (arith, start-no-tile h q, listed-none h q)

-- a run of cells of which none, or each, is held
pub held_none : (g : ℕ → Bool) (p k : ℕ) → ((c : ℕ) → p ≤ c → c < p + k → g c ≡ false) → how_many (p + k) g ≡ how_many p g
unfolding how_many
held_none g p zero f = ap (λ (z : ℕ). how_many z g) (add-zero p)
held_none g p (suc k) f = ap (λ (z : ℕ). how_many z g) (add-suc p k) ∙ omega (arith, held_none g p k (λ c a b. f c a (omega arith)), ap digit (f (p + k) (omega arith) (omega arith)))

pub held-each : (g : ℕ → Bool) (p k : ℕ) → ((c : ℕ) → p ≤ c → c < p + k → g c ≡ true) → how_many (p + k) g ≡ how_many p g + k
unfolding how_many
held-each g p zero f = ap (λ (z : ℕ). how_many z g) (add-zero p) ∙ omega arith
held-each g p (suc k) f = ap (λ (z : ℕ). how_many z g) (add-suc p k) ∙ omega (arith, held-each g p k (λ c a b. f c a (omega arith)), ap digit (f (p + k) (omega arith) (omega arith)))
