-- On laid columns, whatever stands beyond them: what a cell of the index lists, what the lent tiles are; and what follows from the two, that touch
-- by look-up is touch by the rectangle test on the course's own tiles, and that every look-up is sound. Assumes nothing.
use mathlib.Core.Bool.{Bool, true, false, ◌&&◌, ◌||◌, and_assoc, and-false, and-true, or-true, or-false, and-or_distrib_left}
use mathlib.Core.List.{List, [], ◌∷◌, ◌++◌, append_assoc}
use mathlib.Core.Path.{◌≡◌, refl, sym, ap, ap₂, ◌∙◌}
use Prim.Native.Nat.{ℕ, zero, suc, ◌+◌, ◌*◌, ◌<◌}
use native.Mathlib.Omega.{arith}
use native.Mathlib.Decide.{dec_lt, ℕ_discrete}
use lib.Dec.{eqb, ltb}
use lib.ListN.{length, get_or, get_or-append}
use lib.Seq.{get_or-append-add}
use lib.Ieee.{Float, nan}
use borrow.Author.Tests.{lt-ltb, le-ltb, eq-eqb, ne_eqb}
use Rattle.course.specs.Rules.Lengths.{cell_count}
use Rattle.course.specs.Rules.Cell.{cell_at}
use Rattle.course.specs.Rules.Tiles.{pair, tile_quad, eight, tile_of, tile_at, tiles_to, tiles_of}
use Rattle.course.specs.Rules.Rect.{least_x, least_y, greatest_x, greatest_y, holds_of}
use Rattle.course.specs.Grader.Index.{add_if, listed, part_ok, lookup}
use Rattle.course.specs.Grader.Course.{from_points}
use Rattle.course.specs.declared.tiles.TrackPoint.{TrackPoint}
use Rattle.course.proofs.Cells.{cell-high}
use Rattle.course.proofs.CourseTiles.{tiles-long}
use Rattle.course.proofs.BoolLaws.{and_left}
use Rattle.course.proofs.Listing.{part-ok, laid}
use Rattle.run.specs.Rules.Below.{every_below, some_of, every_of}
use Rattle.run.specs.Rules.Overlap.{overlap_of}
use Rattle.run.specs.Rules.Wheel.{quad_of, box_cells}
use Rattle.run.specs.Grader.Touch.{lists, listed_by, touched_by, sound_cell, sound_quad, sound_poses}
use Rattle.certificate.specs.Claim.Scorer.{touch}
use Rattle.run.specs.declared.state.Pose.{Pose}
use Rattle.run.proofs.TouchLaws.{some_end}

-- ---- what a cell of the laid index lists: exactly the ids below n whose rectangle holds it

-- an id that is added under a test
some-added : (p : ℕ → Bool) (b : Bool) (x : ℕ) (xs : List ℕ) → some_of p (add_if b x xs) ≡ (some_of p xs || (b && p x))
some-added p true x xs = some_end p xs x
some-added p false x xs = sym (or-false (some_of p xs))

-- t is below n + 1 where it is below n, or is n
below_more : (f : ℕ → Bool) (t n : ℕ) → ((ltb t n && f t) || (f n && eqb t n)) ≡ (ltb t (suc n) && f t)
below_more f t n =
    elim (dec_lt t n) [
      | yes l ↦
          let far : (t ≡ n → ⊥) = λ e. omega (arith, l, e) in
          rw (lt-ltb t n l, ne_eqb t n far, lt-ltb t (suc n) (omega (arith, l))) (ap (λ (b : Bool). f t || b) (and-false (f n)) ∙ or-false (f t))
      | no l ↦
          elim (ℕ_discrete t n) [
            | yes e ↦ rw (le-ltb t n (omega (arith, e)), eq-eqb t n e, lt-ltb t (suc n) (omega (arith, e))) (and-true (f n) ∙ ap f (sym e))
            | no e ↦ rw (le-ltb t n (omega (arith, l)), ne_eqb t n e, le-ltb t (suc n) (omega (arith, l, e))) (and-false (f n))
          ]
    ]

module _ (h : ℕ → ℕ → Bool) (k : ℕ) where
  -- cell k lists t exactly where t is below n and its rectangle holds the cell
  some-listed : (t n : ℕ) → some_of (eqb t) (listed h n k) ≡ (ltb t n && h t k)
  unfolding listed some_of
  some-listed t zero = sym (ap (λ (b : Bool). b && h t k) (le-ltb t 0 (omega arith)))
  some-listed t (suc n) =
      some-added (eqb t) (h n k) n (listed h n k)
      ∙ ap (λ (b : Bool). b || (h n k && eqb t n)) (some-listed t n)
      ∙ below_more (λ (u : ℕ). h u k) t n

module _ (c : List TrackPoint) (offs l : List ℕ) where
  pub cell-lists : (t k : ℕ) → k < cell_count → lists (lookup ((from_points c).offsets ++ offs) ((from_points c).list ++ l) k) t ≡ (ltb t (length c) && holds_of (tiles_of c) t k)
  unfolding from_points
  cell-lists t k b = ap (some_of (eqb t)) (laid (holds_of (tiles_of c)) (length c) cell_count k offs l b) ∙ some-listed (holds_of (tiles_of c)) k t (length c)

  -- its offsets neither fall nor pass the list
  pub cell-in-order : (k : ℕ) → k < cell_count → part_ok ((from_points c).offsets ++ offs) ((from_points c).list ++ l) k ≡ true
  unfolding from_points
  cell-in-order k b = part-ok (holds_of (tiles_of c)) (length c) cell_count k offs l b

-- ---- what the lent tiles are: the course's

-- quads of equal numbers are equal
quad-same : {a b c d e f g h a' b' c' d' e' f' g' h' : Float} → a ≡ a' → b ≡ b' → c ≡ c' → d ≡ d' → e ≡ e' → f ≡ f' → g ≡ g' → h ≡ h'
    → ◌≡◌ {A = List (List Float)} (pair a b ∷ pair c d ∷ pair e f ∷ pair g h ∷ []) (pair a' b' ∷ pair c' d' ∷ pair e' f' ∷ pair g' h' ∷ [])
quad-same pa pb pc pd pe pf pg ph = λ i. pair (pa i) (pb i) ∷ pair (pc i) (pd i) ∷ pair (pe i) (pf i) ∷ pair (pg i) (ph i) ∷ []

eight-long : (q : List (List Float)) → length (eight q) ≡ 8
unfolding eight
eight-long q = refl

module _ (c : List TrackPoint) where
  -- number j of the tile after the first k
  number-next : (k j : ℕ) (ts : List Float) → j < 8 → get_or (tiles_to c k ++ (eight (tile_at c k) ++ ts)) (k * 8 + j) nan ≡ get_or (eight (tile_at c k)) j nan
  number-next k j ts m =
      ap (λ (n : ℕ). get_or (tiles_to c k ++ (eight (tile_at c k) ++ ts)) (n + j) nan) (sym (tiles-long c k))
      ∙ get_or-append-add (tiles_to c k) (eight (tile_at c k) ++ ts) j nan
      ∙ get_or-append (eight (tile_at c k)) ts nan j (rw (eight-long (tile_at c k)) m)

  -- number j of tile t
  number_at : (k t j : ℕ) (ts : List Float) → t < k → j < 8 → get_or (tiles_to c k ++ ts) (t * 8 + j) nan ≡ get_or (eight (tile_at c t)) j nan
  unfolding tiles_to
  number_at zero t j ts l m = absurd (omega (arith, l))
  number_at (suc k) t j ts l m =
      ap (λ (xs : List Float). get_or xs (t * 8 + j) nan) (append_assoc (tiles_to c k) (eight (tile_at c k)) ts)
      ∙ elim (ℕ_discrete t k) [
        | yes e ↦ rw e (number-next k j ts m)
        | no e ↦ number_at k t j (eight (tile_at c k) ++ ts) (omega (arith, l, e)) m
      ]

  -- tile t of the lent column is the course's tile t
  pub lent-tile : (ts : List Float) (t : ℕ) → t < length c → tile_of (tiles_of c ++ ts) t ≡ tile_at c t
  unfolding tile_of tile_at tile_quad eight
  lent-tile ts t l =
      let first : t * 8 ≡ t * 8 + 0 = omega arith in
      quad-same (ap (λ (n : ℕ). get_or (tiles_of c ++ ts) n nan) first ∙ at 0 (omega arith)) (at 1 (omega arith)) (at 2 (omega arith)) (at 3 (omega arith))
      (at 4 (omega arith)) (at 5 (omega arith)) (at 6 (omega arith)) (at 7 (omega arith))
    where
      at : (j : ℕ) → j < 8 → get_or (tiles_of c ++ ts) (t * 8 + j) nan ≡ get_or (eight (tile_at c t)) j nan
      at j m = number_at (length c) t j ts l m

-- ---- the four cells of a quad's box

-- the number of a point's cell is one of the grid's
cell-small : (x y : Float) → cell_at x y < cell_count
unfolding cell_at
cell-small x y = omega (arith, cell-high x, cell-high y)

-- tests that agree on the grid's cells agree on the box
some-box : (f g : ℕ → Bool) (q : List (List Float)) → ((k : ℕ) → k < cell_count → f k ≡ g k) → some_of f (box_cells q) ≡ some_of g (box_cells q)
unfolding box_cells some_of
some-box f g q e =
    ap₂ ◌||◌ (e _ (cell-small (least_x q) (least_y q)))
    (ap₂ ◌||◌ (e _ (cell-small (greatest_x q) (least_y q)))
    (ap₂ ◌||◌ (e _ (cell-small (least_x q) (greatest_y q))) (ap (λ (b : Bool). b || false) (e _ (cell-small (greatest_x q) (greatest_y q))))))

-- a test that all the grid's cells pass
every-box : (p : ℕ → Bool) (q : List (List Float)) → ((k : ℕ) → k < cell_count → p k ≡ true) → every_of p (box_cells q) ≡ true
unfolding box_cells every_of
every-box p q e =
    ap₂ ◌&&◌ (e _ (cell-small (least_x q) (least_y q)))
    (ap₂ ◌&&◌ (e _ (cell-small (greatest_x q) (least_y q)))
    (ap₂ ◌&&◌ (e _ (cell-small (least_x q) (greatest_y q))) (ap (λ (b : Bool). b && true) (e _ (cell-small (greatest_x q) (greatest_y q))))))

-- a test that does not look at the member stands before all of them
some-factor : (b : Bool) (f : ℕ → Bool) (xs : List ℕ) → some_of (λ k. b && f k) xs ≡ (b && some_of f xs)
unfolding some_of
some-factor b f [] = sym (and-false b)
some-factor b f (x ∷ xs) = ap (λ (r : Bool). (b && f x) || r) (some-factor b f xs) ∙ sym (and-or_distrib_left b (f x) (some_of f xs))

-- ---- what follows from the two

-- a test that each member passes is one of the list
every-member : (p : ℕ → Bool) (xs : List ℕ) → ((t : ℕ) → lists xs t ≡ true → p t ≡ true) → every_of p xs ≡ true
unfolding every_of some_of
every-member p [] f = refl
every-member p (x ∷ xs) f =
    ap₂ ◌&&◌ (f x (ap (λ (b : Bool). b || some_of (eqb x) xs) (eq-eqb x x refl))) (every-member p xs (λ t e. f t (ap (λ (b : Bool). eqb t x || b) e ∙ or-true (eqb t x))))

-- a test that every number passes
every-below : (n : ℕ) (p : ℕ → Bool) → ((i : ℕ) → p i ≡ true) → every_below n p ≡ true
unfolding every_below
every-below zero p f = refl
every-below (suc n) p f = ap₂ ◌&&◌ (every-below n p f) (f n)

module _ (n : ℕ) (holds : ℕ → ℕ → Bool) (offs l : List ℕ) (cells : (t k : ℕ) → k < cell_count → lists (lookup offs l k) t ≡ (ltb t n && holds t k)) where
  -- touch by columns that list so, and whose tiles are these
  touched-by : (tile : ℕ → List (List Float)) (ts : List Float) → ((t : ℕ) → t < n → tile_of ts t ≡ tile t) → (q : List (List Float)) (t : ℕ)
      → touched_by ts offs l q t ≡ (ltb t n && (some_of (holds t) (box_cells q) && overlap_of q (tile t)))
  unfolding touched_by listed_by
  touched-by tile ts tiles q t =
      ap (λ (b : Bool). b && overlap_of q (tile_of ts t)) (some-box (λ k. lists (lookup offs l k) t) (λ k. ltb t n && holds t k) q (cells t) ∙ some-factor (ltb t n) (holds t) (box_cells q))
      ∙ and_assoc (ltb t n) (some_of (holds t) (box_cells q)) (overlap_of q (tile_of ts t))
      ∙ own
    where
      own : (ltb t n && (some_of (holds t) (box_cells q) && overlap_of q (tile_of ts t))) ≡ (ltb t n && (some_of (holds t) (box_cells q) && overlap_of q (tile t)))
      own = elim (dec_lt t n) [ yes b ↦ rw (tiles t b) | no b ↦ rw (le-ltb t n (omega (arith, b))) ]

  -- no look-up of four poses is a cause 10, where the offsets are in order
  sound-by : ((k : ℕ) → k < cell_count → part_ok offs l k ≡ true) → (ps : List Pose) → sound_poses offs l n ps ≡ true
  unfolding sound_poses sound_quad sound_cell
  sound-by order ps =
      every-below 4 (λ w. sound_quad offs l n (quad_of ps w))
      (λ w. every-box (sound_cell offs l n) (quad_of ps w) (λ k b. ap₂ ◌&&◌ (order k b) (every-member (λ t. ltb t n) (lookup offs l k) (λ t e. and_left (ltb t n) (holds t k) (sym (cells t k b) ∙ e)))))

module _ (c : List TrackPoint) (ts : List Float) (offs l : List ℕ) where
  -- touch by the lent columns is touch by the rectangle test and the points' own tiles
  pub touched-laid : (ps : List Pose) (w t : ℕ)
      → touched_by (tiles_of c ++ ts) ((from_points c).offsets ++ offs) ((from_points c).list ++ l) (quad_of ps w) t ≡ (ltb t (length c) && touch c ps w t)
  unfolding touch
  touched-laid ps w t =
      touched-by (length c) (holds_of (tiles_of c)) ((from_points c).offsets ++ offs) ((from_points c).list ++ l) (cell-lists c offs l) (tile_at c) (tiles_of c ++ ts) (lent-tile c ts) (quad_of ps w) t

  -- no look-up of four poses is a cause 10
  pub sound-laid : (ps : List Pose) → sound_poses ((from_points c).offsets ++ offs) ((from_points c).list ++ l) (length c) ps ≡ true
  sound-laid ps = sound-by (length c) (holds_of (tiles_of c)) ((from_points c).offsets ++ offs) ((from_points c).list ++ l) (cell-lists c offs l) (cell-in-order c offs l) ps
