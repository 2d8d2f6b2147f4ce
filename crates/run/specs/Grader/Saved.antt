-- Document 02, orders 1 and 3: what a save keeps of a run, as fields of bytes, and which bytes a restore takes (cause 11). For sets of m words that hold
-- `most` tiles. Assumes nothing.
use Rattle.std.specs.Prelude.{Bool, not, cond, ◌&&◌, ◌||◌, List, [], ◌∷◌, ◌++◌, ℕ, ◌+◌, ◌*◌, ◌/◌, ◌^◌, eqb, ltb, leb, length, get_or, take, Float, Option, Some, None}
use Rattle.course.specs.Rules.Counting.{digit}
use Rattle.course.specs.Rules.Tiles.{number_at}
use Rattle.form.specs.Rules.Bytes.{low, number, word_bytes, float_bytes, words_from, floats_from}
use Rattle.form.specs.declared.table.Row.{Row}
use Rattle.form.specs.Rules.Form.{rows_of, odd, map_of, packed, Parsed, parsed}
use Rattle.form.specs.Rules.Form.Parsed.{fields, broken}
use Rattle.run.specs.Rules.Arguments.{settings_ok, poses_ok}
use Rattle.run.specs.Rules.Below.{every_below}
use Rattle.run.specs.Grader.Words.{member}
use Rattle.run.specs.Grader.State.{State}
use Rattle.run.specs.Grader.Numbers.{poses_at, pose_count, control_count, car_numbers}

-- what is kept: controls and poses as numbers, wheel by wheel
pub record Fields : Type 0 where
  pub seed : ℕ
  pub share : Float
  pub limit : ℕ
  pub tick : ℕ
  pub credited : List ℕ
  pub lap : Bool
  pub ended : Bool
  pub fallback : Bool
  pub fuel : Float
  pub controls : List Float
  pub poses : List Float
  pub n : ℕ

unfoldable pub fields_of : State → Fields
fields_of s =
    record {
      seed = s.seed;
      share = s.setup.lap_share;
      limit = s.setup.tick_limit;
      tick = s.progress.tick;
      credited = s.credited;
      lap = s.progress.lap;
      ended = s.progress.ended;
      fallback = s.setup.fallback;
      fuel = s.car.fuel_spent;
      controls = take control_count (car_numbers s.car);
      poses = s.poses;
      n = s.setup.n;
    }

-- ---- as bytes

-- lap 1, ended 2, fallback 4
unfoldable pub flags_of : Bool → Bool → Bool → ℕ
flags_of lap ended fallback = digit lap + 2 * digit ended + 4 * digit fallback

-- order 3: a seed stands in one of two fields. Bit 0 has four bytes; from this one on, it is bit 10
abbrev pub wide_seed : ℕ
wide_seed = 2 ^ 32

unfoldable pub narrow_part : ℕ → ℕ
narrow_part seed = cond (ltb seed wide_seed) seed 0

unfoldable pub wide_part : ℕ → ℕ
wide_part seed = cond (ltb seed wide_seed) 0 seed

-- order 1's ten fields in bit order, with this number for the seed
unfoldable pub ten_fields : ℕ → Fields → List (List ℕ)
ten_fields seed f =
    low 4 seed
    ∷ float_bytes (f.share ∷ [])
    ∷ low 4 f.limit
    ∷ low 4 f.tick
    ∷ word_bytes f.credited
    ∷ low 1 (flags_of f.lap f.ended f.fallback)
    ∷ float_bytes (f.fuel ∷ [])
    ∷ float_bytes f.controls
    ∷ float_bytes f.poses
    ∷ low 2 f.n
    ∷ []

-- all fields, the wide seed behind the ten
unfoldable pub bytes_of : Fields → List (List ℕ)
bytes_of f = ten_fields (narrow_part f.seed) f ++ (low 8 (wide_part f.seed) ∷ [])

-- how many bytes each has
abbrev pub ten_bytes : ℕ → List ℕ
ten_bytes m = 4 ∷ 8 ∷ 4 ∷ 4 ∷ 8 * m ∷ 1 ∷ 8 ∷ 8 * control_count ∷ 8 * pose_count ∷ 2 ∷ []

unfoldable pub field_bytes : ℕ → List ℕ
field_bytes m = ten_bytes m ++ (8 ∷ [])

-- the saved form: a field of zeros is left out
unfoldable pub saved_form : Fields → List ℕ
saved_form f = packed (map_of (bytes_of f)) (bytes_of f)

-- ---- and back

-- the table of the second form, which has the wide seed: no field stands with zeros
abbrev pub second_form : ℕ → List Row
second_form m = rows_of (field_bytes m) []

abbrev pub field_at : List (List ℕ) → ℕ → List ℕ
field_at fs k = get_or fs k []

-- a field of one float
abbrev pub float_in : List ℕ → Float
float_in bs = number_at (floats_from 1 bs) 0

-- what fields say of a run with this seed
unfoldable pub fields_with : ℕ → ℕ → List (List ℕ) → Fields
fields_with seed m fs =
    record {
      seed = seed;
      share = float_in (field_at fs 1);
      limit = number (field_at fs 2);
      tick = number (field_at fs 3);
      credited = words_from m (field_at fs 4);
      lap = odd (number (field_at fs 5));
      ended = odd (number (field_at fs 5) / 2);
      fallback = odd (number (field_at fs 5) / 4);
      fuel = float_in (field_at fs 6);
      controls = floats_from control_count (field_at fs 7);
      poses = floats_from pose_count (field_at fs 8);
      n = number (field_at fs 9);
    }

-- the seed that the two fields say: the wide one where it stands
unfoldable pub seed_from : ℕ → ℕ → ℕ
seed_from narrow wide = cond (eqb wide 0) narrow wide

unfoldable pub fields_from : ℕ → List (List ℕ) → Fields
fields_from m fs = fields_with (seed_from (number (field_at fs 0)) (number (field_at fs 10))) m fs

-- ---- cause 11

-- not both seeds stand, and a wide one is 2^32 or more
unfoldable pub seeds_ok : ℕ → ℕ → Bool
seeds_ok narrow wide = eqb wide 0 || (eqb narrow 0 && leb wide_seed wide)

-- no tile of the set is n or more
unfoldable pub all_below : ℕ → List ℕ → Bool
all_below n ws = every_below (64 * length ws) (λ t. ltb t n || not (member ws t))

-- settings, poses and tile count in their ranges, no credited tile at or past the tile count, and the tick up to the limit; seed, controls and fuel have
-- no range
unfoldable pub sound_fields : ℕ → Fields → Bool
sound_fields most f =
    settings_ok f.share f.limit
    && ((leb 1 f.n && leb f.n most)
    && (poses_ok (poses_at f.poses 0)
    && (all_below f.n f.credited
    && leb f.tick f.limit)))

-- what bytes say, if they are not refused; flags above 7 are unknown
unfoldable pub loaded_from : ℕ → ℕ → Parsed → Option Fields
loaded_from m most broken = None
loaded_from m most (fields fs) =
    cond (ltb (number (field_at fs 5)) 8
    && (seeds_ok (number (field_at fs 0)) (number (field_at fs 10)) && sound_fields most (fields_from m fs)))
    (Some (fields_from m fs)) None

unfoldable pub loaded : ℕ → ℕ → List ℕ → Option Fields
loaded m most bs = loaded_from m most (parsed (second_form m) bs)
