-- The tiles of a course: their rectangles lie in the grid, and the cells summed are the index's length. Assumes nothing.
use Rattle.std.proofs.Common.{◌≡◌, ℕ, zero, suc, ◌+◌, ◌*◌, ◌≤◌, Bool, false, cond, ltb, T, List, ◌++◌, length, get_or, get_or-take, take, drop, sym, refl, ap, ◌∙◌, add-one, add-zero, arith, ltb→lt, le-ltb}
use Rattle.std.proofs.lemmas.List.{get_or-drop}
use lib.Ieee.{Float, nan}
use Rattle.course.specs.Rules.Lengths.{cell_count, offset_count}
use Rattle.course.specs.Rules.Tiles.{tile_of}
use Rattle.course.specs.Grader.Index.{start, offsets_of, index_of}
use Rattle.course.specs.Rules.Rect.{Rect, rect_of, holds_of, area_of, needed}
use Rattle.course.specs.Grader.Rect.{rect_as}
use Rattle.course.specs.Steps.Index.{Small, Built}
use Rattle.course.specs.declared.rect.Rect.{Rect as CodeRect}
use Rattle.course.proofs.Cells.{cell-high}
use Rattle.course.proofs.IndexLaws.{start-tile, start-no-tile}
use Rattle.course.proofs.Rects.{held-area, area_small}

pub rect-small : (tiles : List Float) (i : ℕ) → Small (rect_of tiles i)
unfolding rect_of
rect-small tiles i = record { left = cell-high _; bottom = cell-high _; right = cell-high _; top = cell-high _ }

-- the code's rectangle keeps within the grid
pub sides : (r : CodeRect) → Small (rect_as r)
sides r = record { left = r.left; bottom = r.bottom; right = r.right; top = r.top }

-- the eight numbers of a tile, as the column has them
pub tile-numbers : (tiles numbers : List Float) (i : ℕ) → numbers ≡ take 8 (drop (i * 8) tiles) → tile_of numbers 0 ≡ tile_of tiles i
unfolding tile_of
tile-numbers tiles numbers i e =
    rw (at 0 tt, at 1 tt, at 2 tt, at 3 tt, at 4 tt, at 5 tt, at 6 tt, at 7 tt, add-zero (i * 8))
  where
    at : (k : ℕ) → T (ltb k 8) → get_or numbers k nan ≡ get_or tiles (i * 8 + k) nan
    at k l = ap (λ (z : List Float). get_or z k nan) e ∙ get_or-take 8 (drop (i * 8) tiles) k nan (ltb→lt k 8 l) ∙ get_or-drop (i * 8) tiles k nan

abbrev pub rect : ℕ → ℕ → ℕ → ℕ → Rect
rect x0 x1 y0 y1 = record { x0 = x0; x1 = x1; y0 = y0; y1 = y1 }

pub rect-same : {a b c d a' b' c' d' : ℕ} → a ≡ a' → b ≡ b' → c ≡ c' → d ≡ d' → rect a b c d ≡ rect a' b' c' d'
rect-same p q r s = λ i. rect (p i) (q i) (r i) (s i)

module _ (tiles : List Float) where
  pub needed-none : needed tiles 0 ≡ 0
  unfolding needed
  needed-none = refl

  pub needed-more : (i : ℕ) → needed tiles (i + 1) ≡ needed tiles i + area_of (rect_of tiles i)
  unfolding needed
  needed-more i = rw add-one

  pub needed-small : (i : ℕ) → needed tiles i ≤ cell_count * i
  unfolding needed
  needed-small zero = omega arith
  needed-small (suc i) = omega (arith, needed-small i, area_small (rect_of tiles i) (rect-small tiles i))

  pub needed-start : (i : ℕ) → needed tiles i ≡ start (holds_of tiles) i cell_count
  unfolding needed
  needed-start zero = sym (start-no-tile (holds_of tiles) cell_count)
  needed-start (suc i) =
      rw (← add-one i)
      (omega (arith, needed-start i, start-tile (holds_of tiles) i cell_count, held-area (rect_of tiles i) (rect-small tiles i)))

  module _ {n : ℕ} {o l : List ℕ} {need : ℕ} (is : need ≡ needed tiles n) where
    pub built-laid : needed tiles n ≤ length l → {o' l' : List ℕ} → o' ≡ offsets_of (holds_of tiles) n cell_count → l' ≡ index_of (holds_of tiles) n cell_count → Built tiles n o l (o' ++ drop offset_count o) (l' ++ drop need l)
    built-laid a p q =
        let t : ltb (length l) (needed tiles n) ≡ false = le-ltb (length l) (needed tiles n) a in
        record {
          offsets = ap (λ (z : List ℕ). z ++ drop offset_count o) p ∙ sym (ap (λ (b : Bool). cond b o (offsets_of (holds_of tiles) n cell_count ++ drop offset_count o)) t);
          entries =
              ap (λ (z : List ℕ). z ++ drop need l) q
              ∙ ap (λ (z : ℕ). index_of (holds_of tiles) n cell_count ++ drop z l) is
              ∙ sym (ap (λ (b : Bool). cond b l (index_of (holds_of tiles) n cell_count ++ drop (needed tiles n) l)) t);
        }
