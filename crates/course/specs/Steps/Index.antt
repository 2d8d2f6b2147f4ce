-- What the steps of the index's builder do, one cell at a time; only private functions of `index` cite these. `o` and `l` are the offsets
-- and the list before a step, `o'` and `l'` after it. Assumes nothing.
use Rattle.std.specs.Prelude.{◌≡◌, ℕ, zero, suc, ◌+◌, ◌/◌, ◌%◌, ◌<◌, ◌≤◌, Bool, true, false, cond, not, T, ◌⊎◌, List, ◌++◌, length, get_or, drop, ◌≢◌, is_nan, nat_lt, slice_index, slice_index_or, to_bits, Float, Result, Ok, Err}
use Rattle.std.specs.Float.{nan, binary64}
use Rattle.course.specs.Rules.Lengths.{cell_count, most_points, offset_count}
use Rattle.course.specs.Rules.Counting.{digit}
use Rattle.course.specs.Grader.Index.{listed, start, offsets_of, index_of}
use Rattle.course.specs.Rules.Rect.{Rect, rect_of, holds, holds_of, needed}
use Rattle.course.specs.declared.points.LayError.{LayError}
use Rattle.course.specs.declared.points.LayError.TheVariants.{Short}

-- a test on places: whether k is from a up to below b
pub record Inside (a b k : ℕ) : Type 0 where
  pub from : a ≤ k
  pub below : k < b

-- every place of a run counts one more, and no other changes
pub record RunCounted (o o' : List ℕ) (a b : ℕ) : Type 0 where
  pub same : length o' ≡ length o
  pub hit : (k : ℕ) → Inside a b k → slice_index o' k ≡ slice_index o k + 1
  pub kept : (k : ℕ) → (Inside a b k → ⊥) → slice_index o' k ≡ slice_index o k

-- every cell that the rectangle holds counts one more, s places after its own where there is such a place, and no other place changes
pub record RectCounted (s : ℕ) (o o' : List ℕ) (r : Rect) : Type 0 where
  pub same : length o' ≡ length o
  pub first : (k : ℕ) → k < s → slice_index o' k ≡ slice_index o k
  pub cells : (c : ℕ) → c + s < offset_count → slice_index o' (c + s) ≡ slice_index o (c + s) + digit (holds r c)

-- the sum of the first k elements
unfoldable pub sum_below : List ℕ → ℕ → ℕ
sum_below o zero = 0
sum_below o (suc k) = sum_below o k + slice_index o k

-- each place has the sum up to and with its own
pub record Summed (o o' : List ℕ) : Type 0 where
  pub same : length o' ≡ length o
  pub places : (k : ℕ) → k < length o → slice_index o' k ≡ sum_below o (k + 1)

-- each cell but the last counts the ids below i that it lists, two places after its own
pub record Counts (h : ℕ → ℕ → Bool) (i : ℕ) (o : List ℕ) : Type 0 where
  pub size : length o ≡ offset_count
  pub first : (k : ℕ) → k < 2 → slice_index o k ≡ 0
  pub cells : (c : ℕ) → c + 2 < offset_count → slice_index o (c + 2) ≡ length (listed h i c)

-- id stands where each cursor of a run pointed, which then points one further; nothing else changes
pub record RunPlaced (o l o' l' : List ℕ) (id a b : ℕ) : Type 0 where
  pub cursors : RunCounted o o' a b
  pub same-list : length l' ≡ length l
  pub placed : (k : ℕ) → Inside a b k → slice_index l' (slice_index o k) ≡ id
  pub other : (j : ℕ) → ((k : ℕ) → Inside a b k → j ≢ slice_index o k) → slice_index l' j ≡ slice_index l j
  pub either : (j : ℕ) → (slice_index l' j ≡ id) ⊎ (slice_index l' j ≡ slice_index l j)

-- the same for every cell that the rectangle holds; the cursor of a cell stands one place after its own
pub record RectPlaced (o l o' l' : List ℕ) (id : ℕ) (r : Rect) : Type 0 where
  pub cursors : RectCounted 1 o o' r
  pub same-list : length l' ≡ length l
  pub placed : (c : ℕ) → c < cell_count → holds r c ≡ true → slice_index l' (slice_index o (c + 1)) ≡ id
  pub other : (j : ℕ) → ((c : ℕ) → c < cell_count → holds r c ≡ true → j ≢ slice_index o (c + 1)) → slice_index l' j ≡ slice_index l j

-- the ids below i are placed at the starts of their cells' parts, and the cursor of each cell points past what is placed
pub record Placed (h : ℕ → ℕ → Bool) (n i : ℕ) (o l : List ℕ) : Type 0 where
  pub size : length o ≡ offset_count
  pub room : length l ≡ start h n cell_count
  pub first : get_or o 0 0 ≡ 0
  pub cells : (c : ℕ) → c < cell_count → slice_index o (c + 1) ≡ start h n c + length (listed h i c)
  pub ids : (c k : ℕ) → c < cell_count → k < length (listed h i c) → slice_index l (start h n c + k) ≡ slice_index (listed h n c) k

-- the rectangle ends within the 67 rows and columns
pub record Small (r : Rect) : Type 0 where
  pub left : r.x0 ≤ 66
  pub bottom : r.y0 ≤ 66
  pub right : r.x1 ≤ 66
  pub top : r.y1 ≤ 66

-- the builder's answer: the length that the list needs, as an error where the list is shorter
unfoldable pub index_answer : Bool → ℕ → Result ℕ LayError
index_answer true need = Err (Short need)
index_answer false need = Ok need

-- the columns after the builder: where the list is too short (cause 3), as before; else the index, and what stood past it
pub record Built (tiles : List Float) (n : ℕ) (o l o' l' : List ℕ) : Type 0 where
  pub offsets : o' ≡ cond (nat_lt (length l) (needed tiles n)) o (offsets_of (holds_of tiles) n cell_count ++ drop offset_count o)
  pub entries : l' ≡ cond (nat_lt (length l) (needed tiles n)) l (index_of (holds_of tiles) n cell_count ++ drop (needed tiles n) l)

-- ---- rectangles packed in a column of numbers, one in the bits of each

-- the rectangle whose sides are the lowest four groups of eight bits
unfoldable pub rect_in : Float → Rect
rect_in v =
    record {
      x0 = to_bits binary64 v % 256;
      x1 = to_bits binary64 v / 256 % 256;
      y0 = to_bits binary64 v / 65536 % 256;
      y1 = to_bits binary64 v / 16777216 % 256;
    }

-- whether the rectangle that entry i packs holds cell c
abbrev pub held_in : List Float → ℕ → ℕ → Bool
held_in rects i c = holds (rect_in (slice_index_or rects i nan)) c

-- v packs the rectangle r; a NaN's bits cannot be read
pub record Packs (v : Float) (r : Rect) : Type 0 where
  pub number : T (not (is_nan v))
  pub same : rect_in v ≡ r

-- v packs a rectangle within the grid
pub record Packed (v : Float) : Type 0 where
  pub number : T (not (is_nan v))
  pub small : Small (rect_in v)

-- each entry packs a rectangle within the grid
pub record RectsIn (rects : List Float) : Type 0 where
  pub few : length rects ≤ most_points
  pub each : (i : ℕ) → i < length rects → Packed (slice_index_or rects i nan)

-- the rectangles of the tiles below n are packed
pub record RectsPacked (tiles : List Float) (n : ℕ) (rects : List Float) : Type 0 where
  pub each : (k : ℕ) → k < n → Packs (slice_index_or rects k nan) (rect_of tiles k)
