-- Document 02, orders 1 and 3: what a save keeps is read back from its bytes; and sets of tiles below n are carried, pass the test of a restore, and have as
-- many bits as tiles. For sets of any number of words. Assumes nothing.
use mathlib.Core.Bool.{Bool, true, false, cond, ◌&&◌, ◌||◌}
use mathlib.Core.List.{List, [], ◌∷◌}
use mathlib.Core.Path.{◌≡◌, refl, sym, ap, ap₂, ◌∙◌}
use Prim.Native.Nat.{ℕ, zero, suc, ◌+◌, ◌*◌, ◌/◌, ◌^◌, ◌≤◌, ◌<◌}
use native.Mathlib.Omega.{arith}
use Rattle.std.specs.Prelude.{Some, None}
use lib.Dec.{T, ltb}
use lib.ListN.{length}
use lib.Ieee.{Float, binary64, fits}
use borrow.Author.Tests.{lt-ltb, ltb-true, ltb-false, ne_eqb, le-leb}
use Rattle.course.specs.Rules.Tiles.{number_at}
use Rattle.form.specs.Rules.Bytes.{low, number, word_bytes, float_bytes, words_from, floats_from}
use Rattle.form.specs.Rules.Form.{odd, rows_of, most_rows, map_of}
use Rattle.form.proofs.ByteLaws.{All, Word, Fitting, number-back, words_back, float_back}
use Rattle.form.proofs.ReadLaws.{parsed-short}
use Rattle.form.proofs.MapLaws.{map-fits, form-back}
use Rattle.run.specs.Rules.Below.{how_many}
use Rattle.run.specs.Grader.Words.{member, set_of}
use Rattle.run.specs.Grader.Numbers.{pose_count, control_count}
use Rattle.run.specs.Grader.Saved.{Fields, flags_of, wide_seed, narrow_part, wide_part, ten_fields, bytes_of, field_bytes, saved_form, second_form, fields_with, seed_from, fields_from, seeds_ok, all_below, sound_fields, loaded_from, loaded}
use Rattle.run.specs.Grader.Restore.{bit_count}
use Rattle.run.proofs.WordLaws.{word_lt, length-set_of, member-set_of, how_many-cong}
use Rattle.run.proofs.WordBounds.{all-below}
use Rattle.run.proofs.FieldSizes.{Whole, bytes-sized}
use Rattle.run.proofs.BelowLaws.{below, below_in, below_out, how_many-within}

-- ---- values that bytes can carry
pub record Carried (m : ℕ) (f : Fields) : Type 0 where
  pub seed : f.seed < 256 ^ 8
  pub limit : f.limit < 256 ^ 4
  pub tick : f.tick < 256 ^ 4
  pub n : f.n < 256 ^ 2
  pub share : T (fits binary64 f.share)
  pub fuel : T (fits binary64 f.fuel)
  pub many : length f.credited ≡ m
  pub words : All Word f.credited
  pub wheels : length f.controls ≡ control_count
  pub controls : All Fitting f.controls
  pub four : length f.poses ≡ pose_count
  pub poses : All Fitting f.poses

-- ---- flags
flags-small : (a b c : Bool) → flags_of a b c < 8
unfolding flags_of
flags-small true true true = omega arith
flags-small true true false = omega arith
flags-small true false true = omega arith
flags-small true false false = omega arith
flags-small false true true = omega arith
flags-small false true false = omega arith
flags-small false false true = omega arith
flags-small false false false = omega arith

flags-back : (a b c : Bool) → number (low 1 (flags_of a b c)) ≡ flags_of a b c
flags-back a b c = number-back 1 (flags_of a b c) (omega (arith, flags-small a b c))

three : (a b c : Bool) → (odd (flags_of a b c) ≡ a) × (odd (flags_of a b c / 2) ≡ b) × (odd (flags_of a b c / 4) ≡ c)
unfolding flags_of
three true true true = (refl, refl, refl)
three true true false = (refl, refl, refl)
three true false true = (refl, refl, refl)
three true false false = (refl, refl, refl)
three false true true = (refl, refl, refl)
three false true false = (refl, refl, refl)
three false false true = (refl, refl, refl)
three false false false = (refl, refl, refl)

-- ---- lists of a known length
words_of : (m : ℕ) (ws : List ℕ) → length ws ≡ m → All Word ws → words_from m (word_bytes ws) ≡ ws
words_of m ws e h = ap (λ (j : ℕ). words_from j (word_bytes ws)) (sym e) ∙ words_back ws h

floats-of : (k : ℕ) (xs : List Float) → length xs ≡ k → All Fitting xs → floats_from k (float_bytes xs) ≡ xs
floats-of k xs e h = ap (λ (j : ℕ). floats_from j (float_bytes xs)) (sym e) ∙ float_back xs h

one_float : (x : Float) → T (fits binary64 x) → number_at (floats_from 1 (float_bytes (x ∷ []))) 0 ≡ x
one_float x h = ap (λ (l : List Float). number_at l 0) (floats-of 1 (x ∷ []) refl (h, tt))

-- ---- the seed, in one of its two fields
record SeedBack (seed narrow wide : ℕ) : Type 0 where
  pub value : seed_from narrow wide ≡ seed
  pub alone : seeds_ok narrow wide ≡ true

seed-back : (seed : ℕ) → seed < 256 ^ 8 → SeedBack seed (number (low 4 (narrow_part seed))) (number (low 8 (wide_part seed)))
unfolding narrow_part wide_part seed_from seeds_ok
seed-back seed h = go (ltb seed wide_seed) refl
  where
    go : (b : Bool) → ltb seed wide_seed ≡ b → SeedBack seed (number (low 4 (cond b seed 0))) (number (low 8 (cond b 0 seed)))
    go true e =
        let small = ltb-true seed wide_seed e in
        let wide = number-back 8 0 (omega arith) in
        record { value = ap₂ seed_from (number-back 4 seed (omega (arith, small))) wide; alone = ap (seeds_ok (number (low 4 seed))) wide }
    go false e =
        let large = ltb-false seed wide_seed e in
        let narrow = number-back 4 0 (omega arith) in
        let wide = number-back 8 seed h in
        let some = ne_eqb seed 0 (λ z. omega (arith, large, z)) in
        record {
          value = ap₂ seed_from narrow wide ∙ ap (λ (b : Bool). cond b 0 seed) some;
          alone = ap₂ seeds_ok narrow wide ∙ ap₂ (λ (a b : Bool). a || (true && b)) some (le-leb wide_seed seed large);
        }

-- ---- all fields
pub fields_back : (m : ℕ) (f : Fields) → Carried m f → fields_from m (bytes_of f) ≡ f
unfolding fields_from fields_with bytes_of ten_fields
fields_back m f k =
    let g = flags-back f.lap f.ended f.fallback in
    let t = three f.lap f.ended f.fallback in
    λ i. record {
      seed = (seed-back f.seed k.seed).value i;
      share = one_float f.share k.share i;
      limit = number-back 4 f.limit k.limit i;
      tick = number-back 4 f.tick k.tick i;
      credited = words_of m f.credited k.many k.words i;
      lap = (ap odd g ∙ t.0) i;
      ended = (ap (λ (z : ℕ). odd (z / 2)) g ∙ t.1) i;
      fallback = (ap (λ (z : ℕ). odd (z / 4)) g ∙ t.2) i;
      fuel = one_float f.fuel k.fuel i;
      controls = floats-of control_count f.controls k.wheels k.controls i;
      poses = floats-of pose_count f.poses k.four k.poses i;
      n = number-back 2 f.n k.n i;
    }

carried-whole : (m : ℕ) (f : Fields) → Carried m f → Whole m f
carried-whole m f k = record { credited = k.many; controls = k.wheels; poses = k.four }

few-rows : (m : ℕ) → length (second_form m) ≤ most_rows
unfolding rows_of field_bytes
few-rows m = omega arith

flags-known : (f : Fields) → ltb (number (low 1 (flags_of f.lap f.ended f.fallback))) 8 ≡ true
flags-known f = ap (λ (x : ℕ). ltb x 8) (flags-back f.lap f.ended f.fallback) ∙ lt-ltb _ 8 (flags-small f.lap f.ended f.fallback)

-- ---- the whole form
pub loaded-back : (m most : ℕ) (f : Fields) → Carried m f → sound_fields most f ≡ true → loaded m most (saved_form f) ≡ Some f
unfolding loaded loaded_from saved_form bytes_of ten_fields
loaded-back m most f k e =
    let flags = number (low 1 (flags_of f.lap f.ended f.fallback)) in
    let one = seeds_ok (number (low 4 (narrow_part f.seed))) (number (low 8 (wide_part f.seed))) in
    ap (loaded_from m most) (form-back (second_form m) (map_of (bytes_of f)) (bytes_of f) (few-rows m) (map-fits (second_form m) (bytes_of f) (bytes-sized m f (carried-whole m f k))))
    ∙ ap (λ (r : Fields). cond (ltb flags 8 && (one && sound_fields most r)) (Some r) None) (fields_back m f k)
    ∙ ap₂ (λ (a b : Bool). cond (a && (b && sound_fields most f)) (Some f) None) (flags-known f) (seed-back f.seed k.seed).alone
    ∙ ap (λ (b : Bool). cond b (Some f) None) e

-- no bytes are no saved form
pub none-loaded : (m most : ℕ) → loaded m most [] ≡ None
unfolding loaded loaded_from
none-loaded m most = ap (loaded_from m most) (parsed-short (second_form m) [] (omega arith))

-- ---- sets of tiles below n
pub small-set : (m : ℕ) (p : ℕ → Bool) → All Word (set_of m p)
unfolding set_of
small-set zero p = tt
small-set (suc m) p = (word_lt 64 p, small-set m (λ t. p (64 + t)))

-- a tile of the set is below n
pub all-below-set : (m n : ℕ) (p : ℕ → Bool) → all_below n (set_of m (below n p)) ≡ true
all-below-set m n p =
    all-below (set_of m (below n p)) n (λ t l b. member-set_of m t (below n p) (omega (arith, l, length-set_of m (below n p))) ∙ below_out n p t b)

pub bit-count-set : (m n : ℕ) (p : ℕ → Bool) → n ≤ 64 * m → bit_count (set_of m (below n p)) ≡ how_many n p
unfolding bit_count
bit-count-set m n p h =
    ap (λ (k : ℕ). how_many (64 * k) (member (set_of m (below n p)))) (length-set_of m (below n p))
    ∙ how_many-cong (64 * m) (member (set_of m (below n p))) (below n p) (λ t l. member-set_of m t (below n p) l)
    ∙ how_many-within (64 * m) n (below n p) h (λ t l. below_out n p t l)
    ∙ how_many-cong n (below n p) p (λ t l. below_in n p t l)
