-- For private functions of save: a save's fields before and behind the credited tiles, and the seed's two. Assumes nothing.
use Rattle.std.specs.Prelude.{List, [], ◌∷◌, ℕ, ◌+◌, ◌*◌, Float}
use Rattle.form.specs.Rules.Bytes.{low, float_bytes}
use Rattle.run.specs.Grader.Widths.{full_words}
use Rattle.run.specs.Grader.Saved.{narrow_part, wide_part}
use Rattle.run.specs.declared.saved.SeedParts.{SeedParts}

-- a seed in one of its two fields
unfoldable pub seed_parts : ℕ → SeedParts
seed_parts seed = record { narrow = narrow_part seed; wide = wide_part seed }

-- narrow seed, lap share, tick limit and tick
unfoldable pub first_fields : ℕ → Float → ℕ → ℕ → List (List ℕ)
first_fields narrow share limit tick = low 4 narrow ∷ float_bytes (share ∷ []) ∷ low 4 limit ∷ low 4 tick ∷ []

abbrev pub first_bytes : ℕ
first_bytes = 20

-- flags, fuel, controls, poses, tile count and wide seed
unfoldable pub last_fields : ℕ → Float → List Float → List Float → ℕ → ℕ → List (List ℕ)
last_fields flags fuel controls poses n wide =
    low 1 flags ∷ float_bytes (fuel ∷ []) ∷ float_bytes controls ∷ float_bytes poses ∷ low 2 n ∷ low 8 wide ∷ []

abbrev pub last_bytes : ℕ
last_bytes = 307

-- where they begin
abbrev pub last_from : ℕ
last_from = first_bytes + 8 * full_words

-- all fields
abbrev pub all_bytes : ℕ
all_bytes = 647
