-- Laws of tests over lists, and one tile's test: what is tested and touched afterwards. Assumes nothing.
use mathlib.Core.Bool.{Bool, true, false, ◌&&◌, ◌||◌, false≢true, and-true, and-false, and_assoc, or-true, or-false, or_assoc}
use mathlib.Core.List.{List, [], ◌∷◌, ◌++◌}
use mathlib.Core.Path.{◌≡◌, refl, sym, ap, ap₂, ◌∙◌, subst}
use Prim.Native.Nat.{ℕ, zero, suc, ◌+◌, ◌*◌, ◌≤◌, ◌<◌}
use native.Mathlib.Omega.{arith}
use native.Mathlib.Numerals.{add-one}
use native.Mathlib.Decide.{ℕ_discrete}
use lib.ListN.{length, get_or, take}
use lib.Seq.{take-suc, take_all}
use Rattle.std.specs.List.{list_all}
use lib.Dec.{eqb, ltb}
use lib.Ieee.{Float}
use borrow.Author.Tests.{eq-eqb, ne_eqb, ltb-true}
use Rattle.course.specs.Rules.Tiles.{tile_of}
use Rattle.course.proofs.BoolLaws.{and_left, and_right}
use Rattle.run.specs.Rules.Below.{some_of, every_of}
use Rattle.run.specs.Grader.Words.{member, set_of}
use Rattle.course.specs.Grader.Index.{part_ok, lookup}
use Rattle.run.specs.Rules.Overlap.{overlap_of}
use Rattle.run.specs.Rules.Wheel.{box_cells}
use Rattle.run.specs.Grader.Touch.{lists, listed_by, touched_by, sound_cell, sound_quad}
use Rattle.run.specs.Steps.Touch.{Tested, Tests, Room, Looked}
use Rattle.run.proofs.WordLaws.{member-set_of, set_of-cong, length-set_of, or-chain}

-- ---- tests over lists
pub some_end : (p : ℕ → Bool) (xs : List ℕ) (x : ℕ) → some_of p (xs ++ (x ∷ [])) ≡ (some_of p xs || p x)
unfolding some_of
some_end p [] x = or-false (p x)
some_end p (y ∷ xs) x = ap (λ (b : Bool). p y || b) (some_end p xs x) ∙ sym (or_assoc (p y) (some_of p xs) (p x))

every-end : (p : ℕ → Bool) (xs : List ℕ) (x : ℕ) → every_of p (xs ++ (x ∷ [])) ≡ (every_of p xs && p x)
unfolding every_of
every-end p [] x = and-true (p x)
every-end p (y ∷ xs) x = ap (λ (b : Bool). p y && b) (every-end p xs x) ∙ sym (and_assoc (p y) (every_of p xs) (p x))

pub some-take : (p : ℕ → Bool) (xs : List ℕ) (i : ℕ) → i < length xs → some_of p (take (i + 1) xs) ≡ (some_of p (take i xs) || p (get_or xs i 0))
some-take p xs i h = ap (λ (k : ℕ). some_of p (take k xs)) (add-one i) ∙ ap (some_of p) (take-suc xs i 0 h) ∙ some_end p (take i xs) (get_or xs i 0)

pub every_take : (p : ℕ → Bool) (xs : List ℕ) (i : ℕ) → i < length xs → every_of p (take (i + 1) xs) ≡ (every_of p (take i xs) && p (get_or xs i 0))
every_take p xs i h = ap (λ (k : ℕ). every_of p (take k xs)) (add-one i) ∙ ap (every_of p) (take-suc xs i 0 h) ∙ every-end p (take i xs) (get_or xs i 0)

pub some-none : (p : ℕ → Bool) → some_of p [] ≡ false
unfolding some_of
some-none p = refl

pub every-none : (p : ℕ → Bool) → every_of p [] ≡ true
unfolding every_of
every-none p = refl

-- as the library tests them
pub every_by_all : (p : ℕ → Bool) (xs : List ℕ) → list_all p xs ≡ every_of p xs
unfolding every_of
every_by_all p [] = refl
every_by_all p (x ∷ xs) = ap (λ (b : Bool). p x && b) (every_by_all p xs)

pub every-at : (p : ℕ → Bool) (xs : List ℕ) (i : ℕ) → every_of p xs ≡ true → i < length xs → p (get_or xs i 0) ≡ true
unfolding every_of
every-at p [] i e h = absurd (omega arith)
every-at p (x ∷ xs) zero e h = and_left (p x) (every_of p xs) e
every-at p (x ∷ xs) (suc i) e h = every-at p xs i (and_right (p x) (every_of p xs) e) (omega arith)

pub every-fails : (p : ℕ → Bool) (xs : List ℕ) (i : ℕ) → i < length xs → p (get_or xs i 0) ≡ false → every_of p xs ≡ false
every-fails p xs i h e = go (every_of p xs) refl
  where
    go : (b : Bool) → every_of p xs ≡ b → b ≡ false
    go true q = absurd (false≢true (sym e ∙ every-at p xs i q h))
    go false q = refl

-- ---- one tile's test
module _ (m : ℕ) (o L : ℕ → Bool) (tested touched : List ℕ) (id : ℕ) (b : id < 64 * m) (h : Tested m o L tested touched) where
  in-set : member tested id ≡ L id
  in-set = ap (λ (l : List ℕ). member l id) h.all ∙ member-set_of m id L b

  -- what holds of id alone
  at-id : (t : ℕ) (p : Bool → Bool) (q : Bool) → (t ≡ id → q ≡ p true) → ((t ≡ id → ⊥) → q ≡ p false) → q ≡ p (eqb t id)
  at-id t p q f g = elim (ℕ_discrete t id) [ yes e ↦ f e ∙ ap p (sym (eq-eqb t id e)) | no n ↦ g n ∙ ap p (sym (ne_eqb t id n)) ]

  pub tested-before : member tested id ≡ true → Tested m o (λ t. L t || eqb t id) tested touched
  tested-before s =
      let same : (t : ℕ) → t < 64 * m → L t ≡ (L t || eqb t id) = λ t _.
      at-id t (λ x. L t || x) (L t) (λ e. ap L e ∙ sym in-set ∙ s ∙ sym (or-true (L t))) (λ n. sym (or-false (L t))) in
      record {
        all = h.all ∙ set_of-cong m L (λ t. L t || eqb t id) same;
        hit = h.hit ∙ set_of-cong m (λ t. L t && o t) (λ t. (L t || eqb t id) && o t) (λ t l. ap (λ (x : Bool). x && o t) (same t l));
      }

  pub tested-hit : (tested' touched' : List ℕ) → o id ≡ true → tested' ≡ set_of m (λ t. member tested t || eqb t id) → touched' ≡ set_of m (λ t. member touched t || eqb t id)
      → Tested m o (λ t. L t || eqb t id) tested' touched'
  tested-hit tested' touched' s a c =
      record {
        all = or-chain m tested tested' L (λ t. eqb t id) h.all a;
        hit =
            or-chain m touched touched' (λ t. L t && o t) (λ t. eqb t id) h.hit c
            ∙ set_of-cong m (λ t. (L t && o t) || eqb t id) (λ t. (L t || eqb t id) && o t)
            (λ t _. sym (at-id t (λ x. (L t && o t) || x) ((L t || eqb t id) && o t)
            (λ e. ap₂ (λ (x y : Bool). (L t || x) && y) (eq-eqb t id e) (ap o e ∙ s) ∙ and-true (L t || true) ∙ or-true (L t) ∙ sym (or-true (L t && o t)))
            (λ n. ap (λ (x : Bool). (L t || x) && o t) (ne_eqb t id n) ∙ ap (λ (x : Bool). x && o t) (or-false (L t)) ∙ sym (or-false (L t && o t)))));
      }

  pub tested-miss : (tested' : List ℕ) → o id ≡ false → tested' ≡ set_of m (λ t. member tested t || eqb t id) → Tested m o (λ t. L t || eqb t id) tested' touched
  tested-miss tested' s a =
      record {
        all = or-chain m tested tested' L (λ t. eqb t id) h.all a;
        hit =
            h.hit
            ∙ set_of-cong m (λ t. L t && o t) (λ t. (L t || eqb t id) && o t)
            (λ t _. at-id t (λ x. (L t || x) && o t) (L t && o t)
            (λ e. ap (λ (x : Bool). L t && x) (ap o e ∙ s) ∙ and-false (L t) ∙ sym (ap₂ (λ (x y : Bool). x && y) (or-true (L t)) (ap o e ∙ s)))
            (λ n. ap (λ (x : Bool). x && o t) (sym (or-false (L t)))));
      }

-- tested by a test that is the same
pub tested-cong : (m : ℕ) (o L M : ℕ → Bool) (tested touched : List ℕ) → ((t : ℕ) → t < 64 * m → L t ≡ M t) → Tested m o L tested touched → Tested m o M tested touched
tested-cong m o L M tested touched e h =
    record {
      all = h.all ∙ set_of-cong m L M e;
      hit = h.hit ∙ set_of-cong m (λ t. L t && o t) (λ t. M t && o t) (λ t l. ap (λ (x : Bool). x && o t) (e t l));
    }

-- the same of sets that are equal
pub tested-is : {m : ℕ} {o L : ℕ → Bool} {a a' b b' : List ℕ} → a' ≡ a → b' ≡ b → Tested m o L a b → Tested m o L a' b'
tested-is p q h = record { all = p ∙ h.all; hit = q ∙ h.hit }

-- a further test N after M
pub touch-more : (m : ℕ) (o L M N Z : ℕ → Bool) (a b a' b' : List ℕ) → Tests o N a b a' b' → Tested m o (λ t. L t || M t) a b → ((t : ℕ) → (M t || N t) ≡ Z t) → Tested m o (λ t. L t || Z t) a' b'
touch-more m o L M N Z a b a' b' step h z =
    let e : length a ≡ m = ap length h.all ∙ length-set_of m (λ t. L t || M t) in
    tested-cong m o (λ t. (L t || M t) || N t) (λ t. L t || Z t) a' b' (λ t _. or_assoc (L t) (M t) (N t) ∙ ap (λ (x : Bool). L t || x) (z t))
    (subst (λ (k : ℕ). Tested k o (λ t. (L t || M t) || N t) a' b') e (step (λ t. L t || M t) (subst (λ (k : ℕ). Tested k o (λ t. L t || M t) a b) (sym e) h)))

-- ---- the ids of a list, one after the other
-- each is below n
pub id_below : (ids : List ℕ) {n i : ℕ} → every_of (λ t. ltb t n) ids ≡ true → i < length ids → get_or ids i 0 < n
id_below ids {n} {i} e h = ltb-true _ _ (every-at (λ t. ltb t n) ids i e h)

module _ {o : ℕ → Bool} {a b : List ℕ} (ids : List ℕ) where
  pub no_id : Tests o (lists (take 0 ids)) a b a b
  no_id L h = tested-cong _ o L (λ t. L t || lists (take 0 ids) t) a b (λ t _. sym (ap (λ (x : Bool). L t || x) (some-none (eqb t)) ∙ or-false (L t))) h

  pub one_id : {a' b' a″ b″ : List ℕ} {i : ℕ} → i < length ids → Tests o (lists (take i ids)) a b a' b' → Tests o (λ t. eqb t (get_or ids i 0)) a' b' a″ b″ → Tests o (lists (take (i + 1) ids)) a b a″ b″
  one_id {i = i} less h step L k =
      touch-more _ o L (lists (take i ids)) (λ u. eqb u (get_or ids i 0)) (lists (take (i + 1) ids)) _ _ _ _ step (h L k) (λ u. sym (some-take (eqb u) ids i less))

  pub all_ids : {a' b' : List ℕ} {i : ℕ} → length ids ≤ i → Tests o (lists (take i ids)) a b a' b' → Tests o (lists ids) a b a' b'
  all_ids {a'} {b'} {i} past h = subst (λ (x : List ℕ). Tests o (lists x) a b a' b') (take_all i ids past) h

-- ---- a quad's four cells

-- room for n tiles is room for fewer, in sets of the same widths
pub room_for : {k n : ℕ} {ts : List Float} {a b : List ℕ} (i : ℕ) (a' b' : List ℕ) → Room k n ts a b → i ≤ n → length a' ≡ length a → length b' ≡ length b → Room k i ts a' b'
room_for {k = k} i a' b' h l p q = record { sets = q ∙ h.sets ∙ ap (λ (x : ℕ). k * x) (sym p); words = omega (arith, h.words, p, l); tiles = omega (arith, h.tiles, l) }

-- the ids that a sound cell lists
pub sound-ids : {offs l : List ℕ} {n : ℕ} {q : List (List Float)} {ks ids : List ℕ} {i : ℕ} → Looked offs l n q ks → i < length ks → ids ≡ lookup offs l (get_or ks i 0) → every_of (λ t. ltb t n) ids ≡ true
unfolding sound_cell sound_quad
sound-ids {offs} {l} {n} {ks = ks} {i = i} h b r =
    ap (every_of (λ t. ltb t n)) r
    ∙ and_right (part_ok offs l (get_or ks i 0)) (every_of (λ t. ltb t n) (lookup offs l (get_or ks i 0)))
    (every-at (sound_cell offs l n) ks i (ap (every_of (sound_cell offs l n)) h.are ∙ h.sound) b)

-- nothing tested yet
pub none-tested : (m : ℕ) (o N : ℕ → Bool) (tested touched : List ℕ) → tested ≡ set_of m (λ t. false) → touched ≡ set_of m (λ t. false) → ((t : ℕ) → N t ≡ false) → Tested m o N tested touched
none-tested m o N tested touched e f z =
    record {
      all = e ∙ set_of-cong m (λ t. false) N (λ t _. sym (z t));
      hit = f ∙ set_of-cong m (λ t. false) (λ t. N t && o t) (λ t _. sym (ap (λ (x : Bool). x && o t) (z t)));
    }

-- ---- no tile from n on is touched, where the look-ups are sound
none-listed : (n t : ℕ) (ids : List ℕ) → n ≤ t → every_of (λ u. ltb u n) ids ≡ true → some_of (eqb t) ids ≡ false
unfolding some_of every_of
none-listed n t [] b e = refl
none-listed n t (x ∷ xs) b e =
    let less : x < n = ltb-true x n (and_left (ltb x n) (every_of (λ u. ltb u n) xs) e) in
    ap₂ ◌||◌ (ne_eqb t x (λ q. omega arith)) (none-listed n t xs b (and_right (ltb x n) (every_of (λ u. ltb u n) xs) e))

none-in-cells : (offs l : List ℕ) (n t : ℕ) (ks : List ℕ) → n ≤ t → every_of (sound_cell offs l n) ks ≡ true → some_of (λ c. lists (lookup offs l c) t) ks ≡ false
unfolding some_of every_of sound_cell
none-in-cells offs l n t [] b e = refl
none-in-cells offs l n t (k ∷ ks) b e =
    let ids = lookup offs l k in
    let own : every_of (λ u. ltb u n) ids ≡ true = and_right (part_ok offs l k) (every_of (λ u. ltb u n) ids) (and_left (sound_cell offs l n k) (every_of (sound_cell offs l n) ks) e) in
    ap₂ ◌||◌ (none-listed n t ids b own) (none-in-cells offs l n t ks b (and_right (sound_cell offs l n k) (every_of (sound_cell offs l n) ks) e))

pub untouched : (ts : List Float) (offs l : List ℕ) (n : ℕ) (q : List (List Float)) (t : ℕ) → sound_quad offs l n q ≡ true → n ≤ t → touched_by ts offs l q t ≡ false
unfolding touched_by listed_by sound_quad
untouched ts offs l n q t h b = ap (λ (x : Bool). x && overlap_of q (tile_of ts t)) (none-in-cells offs l n t (box_cells q) b h)
