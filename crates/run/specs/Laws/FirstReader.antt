-- Document 02, order 3: "A reader of the first saved form refuses bit 10 by 11 and never shows a shortened seed." The reader of the first form is order 1's,
-- as it stood: its table has ten rows, and its seed is bit 0's. Assumes nothing.
use Rattle.std.specs.Prelude.{cond, ◌&&◌, List, [], ◌≡◌, ℕ, ◌^◌, ◌≤◌, ◌<◌, ltb, Option, Some, None, Err}
use Rattle.course.specs.declared.cause.Cause.{Cause}
use Rattle.form.specs.Rules.Bytes.{number}
use Rattle.form.specs.declared.table.Row.{Row}
use Rattle.form.specs.Rules.Form.{rows_of, map_of, packed, Parsed, map_in, parsed}
use Rattle.form.specs.Rules.Form.Parsed.{fields, broken}
use Rattle.run.specs.Grader.State.{Columns}
use Rattle.run.specs.Grader.Saved.{Fields, wide_seed, ten_fields, ten_bytes, saved_form, field_at, fields_with, sound_fields, loaded}
use Rattle.run.specs.Grader.Restore.{restore_check, course_at}

-- ---- order 1's saved form, and what was read of it

unfoldable pub first_saved : Fields → List ℕ
first_saved f = packed (map_of (ten_fields f.seed f)) (ten_fields f.seed f)

abbrev pub first_form : ℕ → List Row
first_form m = rows_of (ten_bytes m) []

unfoldable pub first_loaded_from : ℕ → ℕ → Parsed → Option Fields
first_loaded_from m most broken = None
first_loaded_from m most (fields fs) =
    let f = fields_with (number (field_at fs 0)) m fs in
    cond (ltb (number (field_at fs 5)) 8 && sound_fields most f) (Some f) None

unfoldable pub first_loaded : ℕ → ℕ → List ℕ → Option Fields
first_loaded m most bs = first_loaded_from m most (parsed (first_form m) bs)

-- ---- the law, for sets of m words that hold `most` tiles

-- its restore refuses the bytes by 11 on any course, and its `saved_course` shows no seed
abbrev pub RefusedByFirst : ℕ → ℕ → List ℕ → Type 0
RefusedByFirst m most bs =
    ((l : Columns) (n : ℕ) → restore_check l n (first_loaded m most bs) ≡ Err Cause.Form) × (course_at (first_loaded m most bs) ≡ Err Cause.Form)

pub record FirstReader (m most : ℕ) : Type 0 where
  -- bytes with bit 10, or a later one, whatever else stands
  pub refuses : (bs : List ℕ) → 2 ^ 10 ≤ map_in bs → RefusedByFirst m most bs
  -- what is saved of a run whose seed is 2^32 or more
  pub never : (f : Fields) → wide_seed ≤ f.seed → f.seed < 2 ^ 64 → RefusedByFirst m most (saved_form f)
  -- what it does take, the reader of now takes too, and shows the same of it, the seed among it
  pub agrees : (bs : List ℕ) (f : Fields) → first_loaded m most bs ≡ Some f → loaded m most bs ≡ Some f
  -- and a run whose seed is below 2^32 is saved as before, byte for byte
  pub same : (f : Fields) → f.seed < wide_seed → saved_form f ≡ first_saved f
