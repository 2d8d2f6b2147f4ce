-- Document 01, "Tiles and index": which ids each cell lists, and how the lists stand in the two lent columns. `h i c` says whether
-- the rectangle of tile i holds cell c. Assumes nothing.
use Rattle.std.specs.Prelude.{ℕ, zero, suc, ◌+◌, ◌-◌, Bool, true, false, cond, ◌&&◌, List, [], ◌∷◌, ◌++◌, length, take, drop, nat_le, nat_lt, slice_index}

-- the id i after the list l where the test holds, else l
abbrev pub add_if : Bool → ℕ → List ℕ → List ℕ
add_if true i l = l ++ (i ∷ [])
add_if false i l = l

-- the ids below n whose rectangle holds cell c, ascending
unfoldable pub listed : (ℕ → ℕ → Bool) → ℕ → ℕ → List ℕ
listed h zero c = []
listed h (suc n) c = add_if (h n c) n (listed h n c)

-- how many ids the cells below c list together: where the list of cell c starts
unfoldable pub start : (ℕ → ℕ → Bool) → ℕ → ℕ → ℕ
start h n zero = 0
start h n (suc c) = start h n c + length (listed h n c)

-- the lists of the cells below c, one after the other
unfoldable pub index_of : (ℕ → ℕ → Bool) → ℕ → ℕ → List ℕ
index_of h n zero = []
index_of h n (suc c) = index_of h n c ++ listed h n c

-- f 0, f 1, .. f (k - 1)
unfoldable pub table : (ℕ → ℕ) → ℕ → List ℕ
table f zero = []
table f (suc k) = table f k ++ (f k ∷ [])

-- the offsets: where each of the cells starts, and where the last one ends
abbrev pub offsets_of : (ℕ → ℕ → Bool) → ℕ → ℕ → List ℕ
offsets_of h n cells = table (start h n) (cells + 1)

-- the offsets have cell c, do not fall there and do not pass the list
unfoldable pub part_ok : List ℕ → List ℕ → ℕ → Bool
part_ok offsets list c =
    nat_lt (c + 1) (length offsets) && (nat_le (slice_index offsets c) (slice_index offsets (c + 1)) && nat_le (slice_index offsets (c + 1)) (length list))

-- the lookup of cell c: the part of the list between its two offsets; the empty part where the offsets are short, fall there or pass the list
unfoldable pub lookup : List ℕ → List ℕ → ℕ → List ℕ
lookup offsets list c = cond (part_ok offsets list c) (take (slice_index offsets (c + 1) - slice_index offsets c) (drop (slice_index offsets c) list)) []
