-- Document 02, orders 1 and 3: what was read of a save, as the private functions of `load` and `restore` keep it. Assumes nothing.
use Rattle.std.specs.Prelude.{cond, List, ℕ, take, Option, Some, None}
use Rattle.form.specs.Rules.Bytes.{number}
use Rattle.form.specs.Rules.Form.{cut}
use Rattle.run.specs.Grader.Widths.{full_words}
use Rattle.run.specs.Grader.Numbers.{control_count, car_numbers}
use Rattle.run.specs.Grader.Saved.{Fields, field_bytes, field_at, seed_from, seeds_ok}
use Rattle.run.specs.declared.saved.SeedParts.{SeedParts}
use Rattle.run.specs.declared.load.SavedRun.{SavedRun}

-- field k of fields that lie end to end
abbrev pub saved_field : List ℕ → ℕ → List ℕ
saved_field full k = field_at (cut (field_bytes full_words) full) k

-- the seed's two fields, as numbers
abbrev pub seeds_read : List ℕ → List ℕ → SeedParts
seeds_read narrow wide = record { narrow = number narrow; wide = number wide }

-- the seed that they say, if both do not stand and a wide one is 2^32 or more
unfoldable pub seed_in : SeedParts → Option ℕ
seed_in p = cond (seeds_ok p.narrow p.wide) (Some (seed_from p.narrow p.wide)) None

-- the code's struct, whose car has controls and fuel
abbrev pub fields_as : SavedRun → Fields
fields_as f =
    record {
      seed = f.seed;
      share = f.share;
      limit = f.limit;
      tick = f.tick;
      credited = f.credited;
      lap = f.lap;
      ended = f.ended;
      fallback = f.fallback;
      fuel = f.car.fuel_spent;
      controls = take control_count (car_numbers f.car);
      poses = f.poses;
      n = f.n;
    }
