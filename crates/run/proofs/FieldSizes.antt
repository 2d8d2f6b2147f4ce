-- How many bytes a save's fields have: each, those before and behind the credited tiles, and all. Assumes nothing.
use mathlib.Core.Bool.{Bool}
use mathlib.Core.List.{List, [], ◌∷◌, ◌++◌}
use mathlib.Core.Path.{◌≡◌, refl, sym, ap, ap₂, ◌∙◌, subst}
use Prim.Native.Nat.{ℕ, ◌+◌, ◌*◌}
use lib.ListN.{length, drop, length-append}
use lib.Ieee.{Float, binary64, to_bits}
use Rattle.form.specs.Rules.Bytes.{word_bytes, float_bytes}
use Rattle.form.specs.Rules.Form.{rows_of, sum, joined}
use Rattle.form.proofs.ByteLaws.{low-length, each-length}
use Rattle.form.proofs.MapLaws.{Sized}
use Rattle.run.specs.Grader.Widths.{full_words}
use Rattle.run.specs.Grader.State.{State}
use Rattle.run.specs.Grader.Numbers.{control_count, pose_count, car_numbers}
use Rattle.run.specs.Grader.Saved.{Fields, fields_of, flags_of, narrow_part, wide_part, ten_fields, bytes_of, field_bytes, second_form}
use Rattle.run.specs.Steps.Save.{first_fields, last_fields, first_bytes, last_bytes, all_bytes}

-- ---- lists of fields

pub sized-length : (ws : List ℕ) (zs : List Bool) (fs : List (List ℕ)) → Sized (rows_of ws zs) fs → length (joined fs) ≡ sum ws
unfolding joined sum rows_of
sized-length [] zs [] h = refl
sized-length [] zs (f ∷ fs) h = absurd h
sized-length (w ∷ ws) zs [] h = absurd h
sized-length (w ∷ ws) zs (f ∷ fs) h = length-append f (joined fs) ∙ ap₂ ◌+◌ h.0 (sized-length ws (drop 1 zs) fs h.1)

sized-append : (ws vs : List ℕ) (fs gs : List (List ℕ)) → Sized (rows_of ws []) fs → Sized (rows_of vs []) gs → Sized (rows_of (ws ++ vs) []) (fs ++ gs)
unfolding rows_of
sized-append [] vs [] gs h k = k
sized-append [] vs (f ∷ fs) gs h k = absurd h
sized-append (w ∷ ws) vs [] gs h k = absurd h
sized-append (w ∷ ws) vs (f ∷ fs) gs h k = (h.0, sized-append ws vs fs gs h.1 k)

-- ---- a save's fields: those before the credited tiles, these, and those behind

abbrev pub first_of : Fields → List (List ℕ)
first_of f = first_fields (narrow_part f.seed) f.share f.limit f.tick

abbrev pub last_of : Fields → List (List ℕ)
last_of f = last_fields (flags_of f.lap f.ended f.fallback) f.fuel f.controls f.poses f.n (wide_part f.seed)

pub apart : (f : Fields) → bytes_of f ≡ first_of f ++ (word_bytes f.credited ∷ last_of f)
unfolding bytes_of ten_fields first_fields last_fields
apart f = refl

abbrev first_widths : List ℕ
first_widths = 4 ∷ 8 ∷ 4 ∷ 4 ∷ []

abbrev last_widths : List ℕ
last_widths = 1 ∷ 8 ∷ 8 * control_count ∷ 8 * pose_count ∷ 2 ∷ 8 ∷ []

pub words_long : (ws : List ℕ) (m : ℕ) → length ws ≡ m → length (word_bytes ws) ≡ 8 * m
words_long ws m h = each-length (λ (w : ℕ). w) ws ∙ ap (λ (k : ℕ). 8 * k) h

pub floats-long : (xs : List Float) (m : ℕ) → length xs ≡ m → length (float_bytes xs) ≡ 8 * m
floats-long xs m h = each-length (to_bits binary64) xs ∙ ap (λ (k : ℕ). 8 * k) h

first-sized : (narrow : ℕ) (share : Float) (limit tick : ℕ) → Sized (rows_of first_widths []) (first_fields narrow share limit tick)
unfolding first_fields rows_of
first-sized narrow share limit tick = (low-length 4 narrow, (floats-long (share ∷ []) 1 refl, (low-length 4 limit, (low-length 4 tick, tt))))

last-sized : (flags : ℕ) (fuel : Float) (controls poses : List Float) (n wide : ℕ) → length controls ≡ control_count → length poses ≡ pose_count
    → Sized (rows_of last_widths []) (last_fields flags fuel controls poses n wide)
unfolding last_fields rows_of
last-sized flags fuel controls poses n wide c p =
    (low-length 1 flags, (floats-long (fuel ∷ []) 1 refl, (floats-long controls control_count c, (floats-long poses pose_count p, (low-length 2 n, (low-length 8 wide, tt))))))

-- fields of m words, with the numbers of four wheels
pub record Whole (m : ℕ) (f : Fields) : Type 0 where
  pub credited : length f.credited ≡ m
  pub controls : length f.controls ≡ control_count
  pub poses : length f.poses ≡ pose_count

last-of : (m : ℕ) (f : Fields) → Whole m f → Sized (rows_of last_widths []) (last_of f)
last-of m f h = last-sized (flags_of f.lap f.ended f.fallback) f.fuel f.controls f.poses f.n (wide_part f.seed) h.controls h.poses

pub bytes-sized : (m : ℕ) (f : Fields) → Whole m f → Sized (second_form m) (bytes_of f)
unfolding rows_of field_bytes
bytes-sized m f h =
    subst (Sized (second_form m)) (sym (apart f))
    (sized-append first_widths (8 * m ∷ last_widths) (first_of f) (word_bytes f.credited ∷ last_of f) (first-sized (narrow_part f.seed) f.share f.limit f.tick)
    (words_long f.credited m h.credited, last-of m f h))

-- a state's are whole where its sets and poses are
pub state-whole : (m : ℕ) (s : State) → length s.credited ≡ m → length s.poses ≡ pose_count → Whole m (fields_of s)
unfolding fields_of car_numbers
state-whole m s c p = record { credited = c; controls = refl; poses = p }

-- ---- end to end

pub first-length : (f : Fields) → length (joined (first_of f)) ≡ first_bytes
unfolding sum
first-length f = sized-length first_widths [] (first_of f) (first-sized (narrow_part f.seed) f.share f.limit f.tick)

pub last-length : (f : Fields) → Whole full_words f → length (joined (last_of f)) ≡ last_bytes
unfolding sum
last-length f h = sized-length last_widths [] (last_of f) (last-of full_words f h)

pub all-bytes : sum (field_bytes full_words) ≡ all_bytes
unfolding sum field_bytes
all-bytes = refl
