-- Document 02, order 1: the saved form, for any table of fields: a map of two bytes, then the fields whose bit stands,
-- in bit order. Orders 3, 6 and 8 add rows; order 6 has one that stands at zero too. Assumes nothing.
use Rattle.std.specs.Prelude.{Bool, true, false, not, cond, ◌&&◌, ◌||◌, List, [], ◌∷◌, ◌++◌, ℕ, ◌+◌, ◌*◌, ◌/◌, ◌%◌, eqb, ltb, leb, length, get_or, take, drop, replicate, map, Option, Some, None, Result, Ok, Err}
use Rattle.form.specs.declared.pack.NoRoom.{NoRoom}
use Rattle.form.specs.declared.table.Row.{Row}
use Rattle.form.specs.declared.table.Fields.{Fields}
use Rattle.form.specs.Rules.Bytes.{low, number, all_zero}

-- the table of widths and marks: a row has its field's bytes, and whether this may stand with zeros; one without a mark may not
unfoldable pub rows_of : List ℕ → List Bool → List Row
rows_of [] zs = []
rows_of (w ∷ ws) zs = record { bytes = w; zeros = get_or zs 0 false } ∷ rows_of ws (drop 1 zs)

-- a table's widths
abbrev pub widths : List Row → List ℕ
widths = map (λ (r : Row). r.bytes)

-- the fields lie end to end: how many bytes all of them have, the fields cut apart, and joined again
unfoldable pub sum : List ℕ → ℕ
sum [] = 0
sum (w ∷ ws) = w + sum ws

unfoldable pub cut : List ℕ → List ℕ → List (List ℕ)
cut [] full = []
cut (w ∷ ws) full = take w full ∷ cut ws (drop w full)

-- the fields of a table, in bytes that are lent with it
abbrev pub table_fields : Fields → List (List ℕ)
table_fields f = cut (widths f.rows.now) f.full.now

unfoldable pub joined : List (List ℕ) → List ℕ
joined [] = []
joined (f ∷ fs) = f ++ joined fs

-- ---- writing

abbrev pub odd : ℕ → Bool
odd m = eqb (m % 2) 1

abbrev pub bit : Bool → ℕ
bit true = 1
bit false = 0

-- the map: the bit of each field that is not zeros
unfoldable pub map_of : List (List ℕ) → ℕ
map_of [] = 0
map_of (f ∷ fs) = bit (not (all_zero f)) + 2 * map_of fs

-- a map has sixteen bits
abbrev pub most_rows : ℕ
most_rows = 16

-- the fields whose bit stands in the map
unfoldable pub standing : ℕ → List (List ℕ) → List ℕ
standing m [] = []
standing m (f ∷ fs) = cond (odd m) f [] ++ standing (m / 2) fs

unfoldable pub packed : ℕ → List (List ℕ) → List ℕ
packed m fs = low 2 m ++ standing m fs

-- what is written: the form at the front of the output, and its length; an output that is too short stays as it is
pub record Wrote : Type 0 where
  pub length : Result ℕ NoRoom
  pub out : List ℕ

abbrev pub wrote : Result ℕ NoRoom → List ℕ → Wrote
wrote r l = record { length = r; out = l }

unfoldable pub pack_into : List ℕ → List ℕ → Wrote
pack_into bs out =
    cond (leb (length bs) (length out))
    (wrote (Ok (length bs)) (bs ++ drop (length bs) out))
    (wrote (Err (record { needed = length bs })) out)

-- ---- reading

-- every field's bytes, zeros for one that does not stand; or no saved form
pub data Parsed : Type 0 where
  fields : List (List ℕ) → Parsed
  broken : Parsed

abbrev pub before : List ℕ → Parsed → Parsed
before f (fields fs) = fields (f ∷ fs)
before f broken = broken

-- whether a field may stand at the front of the bytes: it is whole, and not zeros unless its row allows it
unfoldable pub may_stand : Row → List ℕ → Bool
may_stand r bs = leb r.bytes (length bs) && (r.zeros || not (all_zero (take r.bytes bs)))

-- after the last field no bit and no byte is left
unfoldable pub parse : List Row → ℕ → List ℕ → Parsed
parse [] m bs = cond (eqb m 0 && eqb (length bs) 0) (fields []) broken
parse (r ∷ rs) m bs =
    cond (odd m)
    (cond (may_stand r bs) (before (take r.bytes bs) (parse rs (m / 2) (drop r.bytes bs))) broken)
    (before (replicate r.bytes 0) (parse rs (m / 2) bs))

-- the map, and what follows it
unfoldable pub map_in : List ℕ → ℕ
map_in bs = number (take 2 bs)

unfoldable pub parsed : List Row → List ℕ → Parsed
parsed rs bs = cond (ltb (length bs) 2) broken (parse rs (map_in bs) (drop 2 bs))

-- what is read: the map, and the fields end to end at the front of the lent bytes; where there is no saved form, or no
-- room for its fields, the lent bytes stay
pub record Read : Type 0 where
  pub map : Option ℕ
  pub full : List ℕ

abbrev pub read : Option ℕ → List ℕ → Read
read m l = record { map = m; full = l }

abbrev pub read_fields : Parsed → ℕ → List ℕ → Read
read_fields (fields fs) m full = read (Some m) (joined fs ++ drop (length (joined fs)) full)
read_fields broken m full = read None full

unfoldable pub unpack_into : List Row → List ℕ → List ℕ → Read
unpack_into rs bs full =
    cond (leb (sum (widths rs)) (length full)) (read_fields (parsed rs bs) (map_in bs) full) (read None full)
