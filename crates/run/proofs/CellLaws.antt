-- Laws of the cells of wheels' boxes: those of four wheels, a cell that is the same as the one before it, and the tiles of a
-- quad's cells, tested one cell after the other. Assumes nothing.
use mathlib.Core.Bool.{Bool, true, false, not, ◌&&◌, ◌||◌, false≢true, and-true, and_assoc, or_assoc, or_self}
use mathlib.Core.List.{List, [], ◌∷◌, ◌++◌}
use mathlib.Core.Path.{◌≡◌, refl, sym, ap, ap₂, ◌∙◌, subst}
use Prim.Native.Nat.{ℕ, zero, suc, ◌+◌, ◌≤◌, ◌<◌}
use native.Mathlib.Omega.{arith}
use lib.ListN.{length, get_or, take}
use lib.Seq.{take_all}
use lib.Ieee.{Float, nan}
use borrow.Author.Tests.{eqb-true}
use lib.Dec.{eqb}
use Rattle.std.specs.List.{flat_map}
use Rattle.std.specs.Array.{IsMapOf}
use denote.Param.Members.{Mut, Called}
use Rattle.std.specs.Prelude.{Option, Some, None, IfSome}
use Rattle.std.specs.Option.{option_eq}
use Rattle.course.specs.Rules.Tiles.{tile_of}
use Rattle.course.specs.Grader.Index.{lookup}
use Rattle.run.specs.Rules.Below.{some_of, every_of, every_below}
use Rattle.run.specs.Grader.Words.{set_of}
use Rattle.run.specs.Rules.Overlap.{apart_on, apart_along, apart_by_edges, overlap_of}
use Rattle.run.specs.Rules.Wheel.{wheel_quad, quad_of, box_cells}
use Rattle.run.specs.Grader.Touch.{lists, listed_by, touched_by, sound_cell, sound_quad, sound_poses}
use Rattle.run.specs.Steps.Touch.{first_side, beyond, apart_by_others, sixteen_cells, overlaps_tile, Tested, Tests, Looked}
use Rattle.run.specs.declared.state.Pose.{Pose}
use Rattle.run.specs.declared.quad.Side.{Side}
use Rattle.run.proofs.TouchLaws.{some-none, some-take, every_take, tested-cong, touch-more, none-tested}
use Rattle.run.proofs.WordLaws.{length-set_of}
use Rattle.run.proofs.BelowLaws.{every-at}
use Rattle.run.proofs.FourItems.{four-items}

-- ---- a quad's first side
-- the overlap test, its first normal by the side
pub overlap-by-side : (s : Side) (a b : List (List Float)) → s ≡ first_side a → overlap_of a b ≡ not ((beyond s b || apart_by_others a a b) || apart_by_edges b a b)
unfolding overlap_of apart_by_edges apart_by_others apart_along apart_on first_side beyond
overlap-by-side s a b e = ap (λ (x : Side). not ((beyond x b || apart_by_others a a b) || apart_by_edges b a b)) (sym e)

-- ---- a cell that is the same as the one before it
or-again : (a b : Bool) → ((a || b) || b) ≡ (a || b)
or-again a b = or_assoc a b b ∙ ap (λ (x : Bool). a || x) (or_self b)

-- what holds of the cell before holds of one that is the same
pub as-before : (o : Option ℕ) {c : ℕ} {b : Bool} (P : ℕ → Type 0) → IfSome o P → b ≡ not (option_eq eqb o (Some c)) → b ≡ false → P c
as-before None P h e f = absurd (false≢true (sym f ∙ e))
as-before (Some d) {c} P h e f = subst P (eqb-true d c (go (eqb d c) (sym e ∙ f))) h
  where
    go : (t : Bool) → not t ≡ false → t ≡ true
    go true q = refl
    go false q = absurd (false≢true (sym q))

-- c is among the first i cells: its test adds nothing to theirs
abbrev pub Among : List ℕ → ℕ → ℕ → Type 0
Among ks i c = (p : ℕ → Bool) → (some_of p (take i ks) || p c) ≡ some_of p (take i ks)

pub among_last : (ks : List ℕ) (i : ℕ) → i < length ks → Among ks (i + 1) (get_or ks i 0)
among_last ks i h p =
    let e = some-take p ks i h in
    ap (λ (b : Bool). b || p (get_or ks i 0)) e ∙ or-again (some_of p (take i ks)) (p (get_or ks i 0)) ∙ sym e

-- one cell more that passes
pub every-next : (p : ℕ → Bool) (ks : List ℕ) (i : ℕ) → every_of p (take i ks) ≡ true → p (get_or ks i 0) ≡ true → i < length ks → every_of p (take (i + 1) ks) ≡ true
every-next p ks i h n b = every_take p ks i b ∙ ap₂ ◌&&◌ h n

-- ---- the cells of a quad, one after the other

-- after i of the cells k: the tiles that they list are tested, in sets of m words
abbrev pub CellsTested : List (List Float) → List Float → List ℕ → List ℕ → List ℕ → ℕ → List ℕ → List ℕ → ℕ → Type 0
CellsTested q ts offs l k m tested touched i = Tested m (overlaps_tile q ts) (λ t. some_of (λ c. lists (lookup offs l c) t) (take i k)) tested touched

pub no_cell : (q : List (List Float)) (ts : List Float) (offs l k : List ℕ) (m : ℕ) (a b : List ℕ) → a ≡ set_of m (λ t. false) → b ≡ set_of m (λ t. false) → CellsTested q ts offs l k m a b 0
no_cell q ts offs l k m a b e f = none-tested m (overlaps_tile q ts) _ a b e f (λ t. some-none _)

module _ (q : List (List Float)) (ts : List Float) (offs l k : List ℕ) (m : ℕ) (a b : List ℕ) (i : ℕ) (h : CellsTested q ts offs l k m a b i) where
  -- the sets keep their width
  pub tested-long : length a ≡ m
  tested-long = ap length h.all ∙ length-set_of m _

  pub touched-long : length b ≡ m
  touched-long = ap length h.hit ∙ length-set_of m _

  -- the tiles of one cell more are tested
  pub one_cell : {ids a' b' : List ℕ} → i < length k → ids ≡ lookup offs l (get_or k i 0) → Tests (overlaps_tile q ts) (lists ids) a b a' b' → CellsTested q ts offs l k m a' b' (i + 1)
  one_cell {ids} {a'} {b'} less e step =
      let f : ℕ → ℕ → Bool = λ t c. lists (lookup offs l c) t in
      touch-more m (overlaps_tile q ts) (λ t. false) (λ t. some_of (f t) (take i k)) (lists ids) (λ t. some_of (f t) (take (i + 1) k)) a b a' b' step h
      (λ t. ap (λ (x : List ℕ). some_of (f t) (take i k) || lists x t) e ∙ sym (some-take (f t) k i less))

  -- a cell that is among them: its tiles are tested already
  pub same-cell : i < length k → Among k i (get_or k i 0) → CellsTested q ts offs l k m a b (i + 1)
  same-cell less e =
      let f : ℕ → ℕ → Bool = λ t c. lists (lookup offs l c) t in
      tested-cong m (overlaps_tile q ts) (λ t. some_of (f t) (take i k)) (λ t. some_of (f t) (take (i + 1) k)) a b (λ t _. sym (some-take (f t) k i less ∙ e (f t))) h

  -- all cells are done
  pub all-touched : k ≡ box_cells q → length k ≤ i → b ≡ set_of m (touched_by ts offs l q)
  unfolding touched_by listed_by
  all-touched e past = h.hit ∙ ap (λ (x : List ℕ). set_of m (λ t. some_of (λ c. lists (lookup offs l c) t) x && overlap_of q (tile_of ts t))) (take_all i k past ∙ e)

-- ---- the cells of four wheels
-- where every call gives a pose's cells, a map of four poses gives those of each wheel
pub four_wheels : {F : Type 0} (g : Mut F (Pose × Unit {0}) (List ℕ)) (f : F) (ps : List Pose) (ks : List (List ℕ)) → ((p : Pose) (k : List ℕ) (s t : F) → Called g s (p, tt) k t → k ≡ box_cells (wheel_quad p))
    → IsMapOf g f ps ks 4 → ks ≡ sixteen_cells ps
unfolding sixteen_cells quad_of
four_wheels g f ps ks gives h =
    let own : (w : ℕ) → w < 4 → get_or ks w [] ≡ box_cells (quad_of ps w) = λ w b. let call = h.at w (record { x = nan; y = nan; cos = nan; sin = nan }) [] b in gives _ _ _ _ call.2 in
    four-items ks [] h.long ∙ (λ i. own 0 (omega arith) i ∷ own 1 (omega arith) i ∷ own 2 (omega arith) i ∷ own 3 (omega arith) i ∷ [])

-- a test of all of them is one of each wheel's
every_append : (p : ℕ → Bool) (xs ys : List ℕ) → every_of p (xs ++ ys) ≡ (every_of p xs && every_of p ys)
unfolding every_of
every_append p [] ys = refl
every_append p (x ∷ xs) ys = ap (λ (b : Bool). p x && b) (every_append p xs ys) ∙ sym (and_assoc (p x) (every_of p xs) (every_of p ys))

-- a test of the members of lists, one list after the other
every-flat : (p : ℕ → Bool) (a b c d : List ℕ) → every_of p (flat_map (λ x. x) (a ∷ b ∷ c ∷ d ∷ [])) ≡ (((every_of p a && every_of p b) && every_of p c) && every_of p d)
unfolding every_of
every-flat p a b c d =
    let e : List ℕ → Bool = every_of p in
    every_append p a (b ++ (c ++ (d ++ [])))
    ∙ ap (λ (x : Bool). e a && x)
    (every_append p b (c ++ (d ++ []))
    ∙ ap (λ (x : Bool). e b && x) (every_append p c (d ++ []) ∙ ap (λ (x : Bool). e c && x) (every_append p d [] ∙ and-true (e d))))
    ∙ sym (and_assoc (e a) (e b) (e c && e d)) ∙ sym (and_assoc (e a && e b) (e c) (e d))

-- so cause 10 by the cells is cause 10 by the poses
pub cells-sound-is : (offs l : List ℕ) (n : ℕ) (ps : List Pose) {ks : List (List ℕ)} {cells : List ℕ} → cells ≡ flat_map (λ x. x) ks → ks ≡ sixteen_cells ps → every_of (sound_cell offs l n) cells ≡ sound_poses offs l n ps
unfolding sixteen_cells sound_poses sound_quad every_below
cells-sound-is offs l n ps flat own = ap (every_of (sound_cell offs l n)) (flat ∙ ap (flat_map (λ x. x)) own) ∙ every-flat (sound_cell offs l n) _ _ _ _

-- the look-ups of one wheel are sound where those of all four are
pub own-sound : (offs l : List ℕ) (n : ℕ) (ps : List Pose) (w : ℕ) → sound_poses offs l n ps ≡ true → w < 4 → sound_quad offs l n (quad_of ps w) ≡ true
unfolding sound_poses
own-sound offs l n ps w h b = every-at 4 w (λ v. sound_quad offs l n (quad_of ps v)) h b

-- those of wheel w
own : (ps : List Pose) (w : ℕ) → w < 4 → get_or (sixteen_cells ps) w [] ≡ box_cells (quad_of ps w)
unfolding sixteen_cells
own ps zero b = refl
own ps (suc zero) b = refl
own ps (suc (suc zero)) b = refl
own ps (suc (suc (suc zero))) b = refl
own ps (suc (suc (suc (suc w)))) b = absurd (omega arith)

pub own-cells : {offs l : List ℕ} {n : ℕ} (ps : List Pose) (w : ℕ) {ks : List (List ℕ)} {q : List (List Float)} → ks ≡ sixteen_cells ps → sound_poses offs l n ps ≡ true → w < 4 → q ≡ quad_of ps w
    → Looked offs l n q (get_or ks w [])
own-cells {offs} {l} {n} ps w e h b s =
    record {
      are = ap (λ (x : List (List ℕ)). get_or x w []) e ∙ own ps w b ∙ ap box_cells (sym s);
      sound = ap (sound_quad offs l n) s ∙ own-sound offs l n ps w h b;
    }
