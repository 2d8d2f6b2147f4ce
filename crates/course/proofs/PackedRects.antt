-- Rectangles packed in a column: what is read is what was packed, and the index of the rectangles is that of their tiles. Assumes nothing.
use Rattle.std.proofs.Common.{◌≡◌, ℕ, zero, suc, ◌+◌, ◌-◌, ◌*◌, ◌/◌, ◌%◌, ◌<◌, ◌≤◌, Bool, not, ltb, T, List, [], ◌∷◌, ◌++◌, length, get_or, take, drop, set, replicate, sym, refl, ap, ◌∙◌, subst, ap₂, ⊎_elim, le_of_suc-le-suc, eq-or-lt_of_le, add-one, arith, get_or-set_other, get_or-set_same, drop-drop, lt-ltb, le-ltb}
use lib.Ieee.{Float, nan, is_nan, nan_bits, binary64, of_bits, to_bits}
use lib.Ieee.Bits.{to_bits-of_bits, nan_bits_is}
use Rattle.course.specs.Rules.Constants.{grid_dim}
use Rattle.course.specs.Rules.Lengths.{most_points, cell_count, offset_count}
use Rattle.course.specs.Rules.Arithmetic.{nought}
use Rattle.course.specs.Grader.Index.{add_if, listed, start, index_of, table, offsets_of}
use Rattle.course.specs.Rules.Rect.{Rect, rect_of, holds, holds_of, needed}
use Rattle.std.specs.Prelude.{Ok, Err}
use Rattle.course.specs.declared.points.LayError.TheVariants.{Short}
use Rattle.course.specs.Steps.Index.{Built, index_answer, Small, Packs, rect_in, held_in, RectsIn, RectsPacked}
use Rattle.course.proofs.RootFields.{below_inf}
use Rattle.course.proofs.CourseRects.{rect-same, rect-small, needed-start, built-laid}

-- ---- one rectangle
-- four numbers below 256, side by side
module _ (a b c d : ℕ) (ha : a < 256) (hb : b < 256) (hc : c < 256) (hd : d < 256) where
  group-0 : (a + b * 256 + c * 65536 + d * 16777216) % 256 ≡ a
  group-0 = omega arith

  group-1 : (a + b * 256 + c * 65536 + d * 16777216) / 256 % 256 ≡ b
  group-1 = omega arith

  group-2 : (a + b * 256 + c * 65536 + d * 16777216) / 65536 % 256 ≡ c
  group-2 = omega arith

  group-3 : (a + b * 256 + c * 65536 + d * 16777216) / 16777216 % 256 ≡ d
  group-3 = omega arith

  group-high : a + b * 256 + c * 65536 + d * 16777216 < 9218868437227405312
  group-high = omega arith

module _ (n : ℕ) (h : n < 9218868437227405312) where
  number : T (not (is_nan (of_bits binary64 n)))
  number = subst (λ (b : Bool). T (not b)) (nan_bits_is binary64 n) (below_inf n h)

  read_back : to_bits binary64 (of_bits binary64 n) ≡ n
  read_back = to_bits-of_bits binary64 n (wide n h) number
    where
      wide : (k : ℕ) → k < 9218868437227405312 → k < 18446744073709551616
      wide k l = omega arith

-- a side of a rectangle in the grid fits in eight bits
byte : {k : ℕ} → k ≤ grid_dim - 1 → k < 256
byte h = omega (arith, h)

-- the bits are those of no NaN
pub packs-bits : (r : Rect) → Small r → T (not (nan_bits binary64 (r.x0 + r.x1 * 256 + r.y0 * 65536 + r.y1 * 16777216)))
packs-bits r s = below_inf _ (group-high r.x0 r.x1 r.y0 r.y1 (byte s.left) (byte s.right) (byte s.bottom) (byte s.top))

pub packs : (r : Rect) → Small r → Packs (of_bits binary64 (r.x0 + r.x1 * 256 + r.y0 * 65536 + r.y1 * 16777216)) r
unfolding rect_in
packs r s =
    let n : ℕ = r.x0 + r.x1 * 256 + r.y0 * 65536 + r.y1 * 16777216 in
    let h : n < 9218868437227405312 = group-high r.x0 r.x1 r.y0 r.y1 (byte s.left) (byte s.right) (byte s.bottom) (byte s.top) in
    let e : to_bits binary64 (of_bits binary64 n) ≡ n = read_back n h in
    record {
      number = number n h;
      same =
          rect-same
          (ap (λ (b : ℕ). b % 256) e ∙ group-0 r.x0 r.x1 r.y0 r.y1 (byte s.left) (byte s.right) (byte s.bottom) (byte s.top))
          (ap (λ (b : ℕ). b / 256 % 256) e ∙ group-1 r.x0 r.x1 r.y0 r.y1 (byte s.left) (byte s.right) (byte s.bottom) (byte s.top))
          (ap (λ (b : ℕ). b / 65536 % 256) e ∙ group-2 r.x0 r.x1 r.y0 r.y1 (byte s.left) (byte s.right) (byte s.bottom) (byte s.top))
          (ap (λ (b : ℕ). b / 16777216 % 256) e ∙ group-3 r.x0 r.x1 r.y0 r.y1 (byte s.left) (byte s.right) (byte s.bottom) (byte s.top));
    }

-- ---- the column
module _ (tiles : List Float) where
  pub packed_none : (rects : List Float) → RectsPacked tiles 0 rects
  packed_none rects = record { each = λ k l. absurd (omega (arith, l)) }

  -- one more rectangle
  pub packed_more : (i : ℕ) (rects : List Float) (v : Float) → i < length rects → Packs v (rect_of tiles i) → RectsPacked tiles i rects → RectsPacked tiles (i + 1) (set rects i v)
  packed_more i rects v room p t = record { each = λ k l. ⊎_elim (here k) (λ m. there k m (t.each k m)) (eq-or-lt_of_le (le_of_suc-le-suc (rw add-one at l))) }
    where
      here : (k : ℕ) → k ≡ i → Packs (get_or (set rects i v) k nan) (rect_of tiles k)
      here k e = subst (λ (z : ℕ). Packs (get_or (set rects i v) z nan) (rect_of tiles z)) (sym e) (subst (λ (w : Float). Packs w (rect_of tiles i)) (sym (get_or-set_same rects i v nan room)) p)

      there : (k : ℕ) → k < i → Packs (get_or rects k nan) (rect_of tiles k) → Packs (get_or (set rects i v) k nan) (rect_of tiles k)
      there k m q = subst (λ (w : Float). Packs w (rect_of tiles k)) (sym (get_or-set_other rects i k v nan (λ e. apart k m e))) q
        where
          apart : (k : ℕ) → k < i → k ≡ i → ⊥
          apart k m e = omega arith

  pub rects-in : (n : ℕ) {rects : List Float} → n ≤ most_points → length rects ≡ n → RectsPacked tiles n rects → RectsIn rects
  rects-in n few long t = record {
    few = omega (arith, long);
    each = λ i l.
        let p = t.each i (omega (arith, l, long)) in record { number = p.number; small = subst Small (sym p.same) (rect-small tiles i) };
  }

  held_same : {n : ℕ} {rects : List Float} → RectsPacked tiles n rects → (i c : ℕ) → i < n → held_in rects i c ≡ holds_of tiles i c
  held_same t i c l = ap (λ (r : Rect). holds r c) (t.each i l).same

-- ---- two tests that agree below n
module _ {h g : ℕ → ℕ → Bool} where
  listed_same : (n : ℕ) → ((i c : ℕ) → i < n → h i c ≡ g i c) → (c : ℕ) → listed h n c ≡ listed g n c
  unfolding listed
  listed_same zero e c = refl
  listed_same (suc n) e c = ap₂ (λ (b : Bool) (l : List ℕ). add_if b n l) (e n c (last n)) (listed_same n (λ i d l. e i d (more i n l)) c)
    where
      last : (n : ℕ) → n < suc n
      last n = omega arith

      more : (i n : ℕ) → i < n → i < suc n
      more i n l = omega arith

  module _ (n : ℕ) (e : (i c : ℕ) → i < n → h i c ≡ g i c) where
    start-same : (c : ℕ) → start h n c ≡ start g n c
    unfolding start
    start-same zero = refl
    start-same (suc c) = ap₂ (λ (a : ℕ) (l : List ℕ). a + length l) (start-same c) (listed_same n e c)

    index_same : (c : ℕ) → index_of h n c ≡ index_of g n c
    unfolding index_of
    index_same zero = refl
    index_same (suc c) = ap₂ (λ (a b : List ℕ). a ++ b) (index_same c) (listed_same n e c)

    table_same : (k : ℕ) → table (start h n) k ≡ table (start g n) k
    unfolding table
    table_same zero = refl
    table_same (suc k) = ap₂ (λ (a : List ℕ) (b : ℕ). a ++ (b ∷ [])) (table_same k) (start-same k)

    offsets-same : (cells : ℕ) → offsets_of h n cells ≡ offsets_of g n cells
    offsets-same cells = table_same (cells + 1)

-- the cells summed are the length of the rectangles' index
pub needed-packed : {tiles : List Float} {n : ℕ} {rects : List Float} → RectsPacked tiles n rects → needed tiles n ≡ start (held_in rects) n cell_count
needed-packed {tiles} {n} t = needed-start tiles n ∙ sym (start-same n (held_same tiles t) cell_count)

-- the index laid by the rectangles is that of the tiles
pub packed-laid : {tiles : List Float} {n : ℕ} {rects : List Float} {o l : List ℕ} {need : ℕ} {o' l' : List ℕ} → RectsPacked tiles n rects → need ≡ needed tiles n → need ≤ length l
    → o' ≡ offsets_of (held_in rects) n cell_count → l' ≡ index_of (held_in rects) n cell_count → Built tiles n o l (o' ++ drop offset_count o) (l' ++ drop need l)
packed-laid {tiles} {n} {l = l} t is room eo el =
    let e = held_same tiles t in
    built-laid tiles is (subst (λ (z : ℕ). z ≤ length l) is room) (eo ∙ offsets-same n e cell_count) (el ∙ index_same n e cell_count)

-- ---- the builder's answer, from its test
pub told-short : {l need n : ℕ} → need ≡ n → l < need → Err (Short need) ≡ index_answer (ltb l n) n
unfolding index_answer
told-short {l} {need} {n} e h = ap (λ (k : ℕ). Err (Short k)) e ∙ sym (ap (λ (b : Bool). index_answer b n) (lt-ltb l n (subst (λ (k : ℕ). l < k) e h)))

pub told-laid : {l need n : ℕ} → need ≡ n → need ≤ l → Ok need ≡ index_answer (ltb l n) n
unfolding index_answer
told-laid {l} {need} {n} e h = ap (λ (k : ℕ). Ok k) e ∙ sym (ap (λ (b : Bool). index_answer b n) (le-ltb l n (subst (λ (k : ℕ). k ≤ l) e h)))

-- ---- the scratch is cleared
pub scratch-cleared : (a a1 a2 : List Float) (n m : ℕ) → n ≤ m → drop n a1 ≡ drop n a → a2 ≡ take 0 a1 ++ (replicate (m - 0) nought ++ drop m a1) → a2 ≡ take 0 a ++ (replicate (m - 0) nought ++ drop m a)
scratch-cleared a a1 a2 n m few e is = is ∙ ap (λ (z : List Float). replicate (m - 0) nought ++ z) past
  where
    split : n + (m - n) ≡ m
    split = omega arith

    past : drop m a1 ≡ drop m a
    past = ap (λ (k : ℕ). drop k a1) (sym split) ∙ sym (drop-drop (m - n) n a1) ∙ ap (drop (m - n)) e ∙ drop-drop (m - n) n a ∙ ap (λ (k : ℕ). drop k a) split
