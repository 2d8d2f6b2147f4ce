-- Worked values of the definitions. Assumes nothing.
use mathlib.Core.Bool.{true, false}
use mathlib.Core.List.{List, [], ◌∷◌}
use mathlib.Core.Path.{◌≡◌, refl}
use Prim.Native.Nat.{ℕ}
use lib.Ieee.{nan, to_bits, of_bits}
use Rattle.form.specs.Rules.Bytes.{low, number, all_zero, each_bytes, each_from, float_bytes, floats_from}
use Rattle.form.specs.declared.table.Row.{Row}
use Rattle.form.specs.Rules.Form.{rows_of, map_of, standing, packed, may_stand, parse, map_in, parsed}
use Rattle.form.specs.Rules.Form.Parsed.{fields, broken}

-- NaN has one pattern when it is written; read, the one above infinity is as good
nan-written : float_bytes (nan ∷ []) ≡ 0 ∷ 0 ∷ 0 ∷ 0 ∷ 0 ∷ 0 ∷ 248 ∷ 127 ∷ []
unfolding each_bytes low to_bits
nan-written = refl

nan-read : floats_from 1 (1 ∷ 0 ∷ 0 ∷ 0 ∷ 0 ∷ 0 ∷ 240 ∷ 255 ∷ []) ≡ nan ∷ []
unfolding each_from number of_bits
nan-read = refl

-- three fields of 4, 1 and 2 bytes, of which the last may stand with zeros
unfoldable table : List Row
table = rows_of (4 ∷ 1 ∷ 2 ∷ []) (false ∷ false ∷ true ∷ [])

unfoldable own : List (List ℕ)
own = (7 ∷ 0 ∷ 0 ∷ 0 ∷ []) ∷ (0 ∷ []) ∷ (0 ∷ 0 ∷ []) ∷ []

first_alone : packed (map_of own) own ≡ 1 ∷ 0 ∷ 7 ∷ 0 ∷ 0 ∷ 0 ∷ []
unfolding packed map_of standing low all_zero own
first_alone = refl

with-zeros : packed 5 own ≡ 5 ∷ 0 ∷ 7 ∷ 0 ∷ 0 ∷ 0 ∷ 0 ∷ 0 ∷ []
unfolding packed standing low own
with-zeros = refl

zeros-read : parsed table (5 ∷ 0 ∷ 7 ∷ 0 ∷ 0 ∷ 0 ∷ 0 ∷ 0 ∷ []) ≡ fields own
unfolding parsed parse map_in number may_stand all_zero rows_of table own
zeros-read = refl

-- a standing field of zeros, one cut off, bytes left over, an unknown bit
zeros-refused : parsed table (2 ∷ 0 ∷ 0 ∷ []) ≡ broken
unfolding parsed parse map_in number may_stand all_zero rows_of table
zeros-refused = refl

cut-refused : parsed table (1 ∷ 0 ∷ 7 ∷ 0 ∷ 0 ∷ []) ≡ broken
unfolding parsed parse map_in number may_stand all_zero rows_of table
cut-refused = refl

more-refused : parsed table (0 ∷ 0 ∷ 0 ∷ []) ≡ broken
unfolding parsed parse map_in number may_stand all_zero rows_of table
more-refused = refl

bit-refused : parsed table (8 ∷ 0 ∷ []) ≡ broken
unfolding parsed parse map_in number may_stand all_zero rows_of table
bit-refused = refl
