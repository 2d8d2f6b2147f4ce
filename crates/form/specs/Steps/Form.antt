-- The steps of reading a saved form: for private functions alone, no public contract reaches these. Assumes nothing.
use Rattle.std.specs.Prelude.{Bool, true, false, cond, Option, Some, None, List, [], ◌∷◌, ℕ, ◌+◌, ◌/◌, take, drop, replicate}
use Rattle.form.specs.declared.table.Row.{Row}
use Rattle.form.specs.Rules.Form.{Parsed, odd, may_stand}
use Rattle.form.specs.Rules.Form.Parsed.{fields, broken}

-- one field: the bytes after it, where it is as it must be
unfoldable pub field_step : Bool → Row → List ℕ → Option (List ℕ)
field_step on r bs = cond on (cond (may_stand r bs) (Some (drop r.bytes bs)) None) (Some bs)

-- whether there is a saved form
abbrev pub whole : Parsed → Bool
whole (fields fs) = true
whole broken = false

-- the bytes of the fields that stand
unfoldable pub standing_sum : List ℕ → ℕ → ℕ
standing_sum [] m = 0
standing_sum (w ∷ ws) m = cond (odd m) w 0 + standing_sum ws (m / 2)

-- the fields, where the bytes are a saved form
unfoldable pub fields_in : List ℕ → ℕ → List ℕ → List (List ℕ)
fields_in [] m bs = []
fields_in (w ∷ ws) m bs =
    cond (odd m) (take w bs) (replicate w 0) ∷ fields_in ws (m / 2) (cond (odd m) (drop w bs) bs)
