-- What is read of a save: its fields as they lie end to end, and what its bytes say. Assumes nothing.
use mathlib.Core.Bool.{Bool, true, false, cond, ◌&&◌}
use mathlib.Core.List.{List, [], ◌∷◌, ◌++◌}
use mathlib.Core.Path.{◌≡◌, refl, sym, ap, ap₂, ◌∙◌, subst}
use Prim.Native.Nat.{ℕ, zero, suc, ◌+◌, ◌*◌, ◌/◌, ◌%◌, ◌≤◌}
use native.Mathlib.Omega.{arith}
use Rattle.std.specs.Prelude.{Option, Some, None, Result, Ok, option_map}
use Rattle.std.specs.Bool.{then_some}
use lib.Dec.{ltb, eqb, leb}
use Rattle.std.specs.Option.{is_some}
use lib.ListN.{length, get_or, take, drop, length-drop, length-replicate}
use lib.Seq.{drop-drop, drop-cons, take_at, get_or_at, length-take-le}
use lib.Ieee.{Float, nan, binary64, of_bits}
use borrow.Author.Tests.{le-leb}
use Rattle.course.specs.Rules.Tiles.{number_at}
use Rattle.course.proofs.BoolLaws.{and_right}
use Rattle.form.specs.declared.short.TooShort.{TooShort}
use Rattle.form.specs.Rules.Bytes.{number, Leaves, leaves, too_short, each_from, floats_from, fill_each}
use Rattle.form.specs.declared.table.Row.{Row}
use Rattle.form.specs.Rules.Form.{sum, cut, joined, Parsed, parse, map_in, parsed, Read, read, read_fields, unpack_into}
use Rattle.form.specs.Rules.Form.Parsed.{fields, broken}
use Rattle.form.proofs.ByteLaws.{from-length}
use Rattle.form.proofs.TableLaws.{widths-of}
use Rattle.form.proofs.FormLaws.{Fits, none, shown, hidden, parse-only}
use Rattle.form.proofs.MapLaws.{Sized, cut-joined}
use Rattle.run.specs.Grader.Widths.{full_words}
use Rattle.run.specs.Grader.Numbers.{control_count, car_numbers}
use Rattle.run.specs.Grader.Saved.{Fields, field_bytes, second_form, field_at, float_in, fields_with, seed_from, fields_from, seeds_ok, sound_fields, loaded_from, loaded}
use Rattle.run.specs.Steps.Load.{saved_field, seeds_read, seed_in, fields_as}
use Rattle.run.specs.declared.saved.SeedParts.{SeedParts}
use Rattle.run.specs.declared.load.SavedRun.{SavedRun}
use Rattle.run.proofs.FieldSizes.{all-bytes}

-- ---- fields that lie end to end

cut_at : (ws full : List ℕ) (k : ℕ) → field_at (cut ws full) k ≡ take (get_or ws k 0) (drop (sum (take k ws)) full)
unfolding cut sum
cut_at [] full k = refl
cut_at (w ∷ ws) full zero = refl
cut_at (w ∷ ws) full (suc k) = cut_at ws (drop w full) k ∙ ap (take (get_or ws k 0)) (drop-drop (sum (take k ws)) w full)

-- a list is filled from a part of the bytes that is just long enough
pub part-read : {A : Type 0} (g : ℕ → A) (full : List ℕ) (at k : ℕ) (xs xs' : List A) (r : Result Unit TooShort) → k ≡ 8 * length xs → at + k ≤ length full
    → leaves r xs' ≡ fill_each g (take k (drop at full)) xs → xs' ≡ each_from g (length xs) (take k (drop at full))
unfolding fill_each
part-read {A = A} g full at k xs xs' r n h e =
    let bs = take k (drop at full) in
    let l : length bs ≡ k = length-take-le k (drop at full) (omega (arith, length-drop at full)) in
    ap (λ (x : Leaves A). x.list)
    (e ∙ ap (λ (b : Bool). cond b (leaves (Ok tt) (each_from g (length xs) bs)) (leaves too_short xs)) (le-leb (8 * length xs) (length bs) (omega (arith, l, n))))

-- ---- the fields of a save

-- where each field lies
abbrev Lies : List ℕ → ℕ → ℕ → ℕ → Type 0
Lies full k at w = saved_field full k ≡ take w (drop at full)

module _ (full : List ℕ) where
  lies-0 : Lies full 0 0 4
  unfolding field_bytes sum
  lies-0 = cut_at (field_bytes full_words) full 0

  lies-1 : Lies full 1 4 8
  unfolding field_bytes sum
  lies-1 = cut_at (field_bytes full_words) full 1

  lies-2 : Lies full 2 12 4
  unfolding field_bytes sum
  lies-2 = cut_at (field_bytes full_words) full 2

  lies-3 : Lies full 3 16 4
  unfolding field_bytes sum
  lies-3 = cut_at (field_bytes full_words) full 3

  pub lies-4 : Lies full 4 20 320
  unfolding field_bytes sum
  lies-4 = cut_at (field_bytes full_words) full 4

  lies-5 : Lies full 5 340 1
  unfolding field_bytes sum
  lies-5 = cut_at (field_bytes full_words) full 5

  pub lies-6 : Lies full 6 341 8
  unfolding field_bytes sum
  lies-6 = cut_at (field_bytes full_words) full 6

  pub lies-7 : Lies full 7 349 160
  unfolding field_bytes sum
  lies-7 = cut_at (field_bytes full_words) full 7

  pub lies-8 : Lies full 8 509 128
  unfolding field_bytes sum
  lies-8 = cut_at (field_bytes full_words) full 8

  lies-9 : Lies full 9 637 2
  unfolding field_bytes sum
  lies-9 = cut_at (field_bytes full_words) full 9

  lies-10 : Lies full 10 639 8
  unfolding field_bytes sum
  lies-10 = cut_at (field_bytes full_words) full 10

  -- the seed's two fields
  pub seeds-read : (p : SeedParts) → p.narrow ≡ number (take 4 (drop 0 full)) → p.wide ≡ number (take 8 (drop 639 full)) → p ≡ seeds_read (saved_field full 0) (saved_field full 10)
  seeds-read p a b = let a' = a ∙ ap number (sym lies-0) in let b' = b ∙ ap number (sym lies-10) in λ i. record { narrow = a' i; wide = b' i }

  -- the byte of the flags
  flags-byte : length full ≡ sum (field_bytes full_words) → number (saved_field full 5) ≡ get_or full 340 0
  unfolding number
  flags-byte h =
      let b = get_or full 340 0 in
      let e : b + 256 * 0 ≡ b = omega arith in
      ap number (lies-5 ∙ ap (take 1) (drop-cons full 340 0 (omega (arith, h, all-bytes)))) ∙ e

  -- what is read of each field, put together
  pub fields_read : (f : SavedRun) → length full ≡ sum (field_bytes full_words) → f.share ≡ float_in (take 8 (drop 4 full)) → f.limit ≡ number (take 4 (drop 12 full))
      → f.tick ≡ number (take 4 (drop 16 full)) → f.credited ≡ each_from (λ (w : ℕ). w) full_words (saved_field full 4)
      → f.lap ≡ eqb (get_or full 340 0 % 2) 1 → f.ended ≡ eqb (get_or full 340 0 / 2 % 2) 1 → f.fallback ≡ eqb (get_or full 340 0 / 4 % 2) 1
      → car_numbers f.car ≡ floats_from control_count (saved_field full 7) ++ (float_in (saved_field full 6) ∷ []) → f.poses ≡ floats_from 16 (saved_field full 8)
      → f.n ≡ number (take 2 (drop 637 full)) → fields_as f ≡ fields_with f.seed full_words (cut (field_bytes full_words) full)
  unfolding fields_with car_numbers
  fields_read f whole share limit tick credited lap ended fallback car poses n =
      let flag : get_or full 340 0 ≡ number (saved_field full 5) = sym (flags-byte whole) in
      let controls = floats_from control_count (saved_field full 7) in
      let fuel = float_in (saved_field full 6) in
      let long : length controls ≡ control_count = from-length (of_bits binary64) control_count (saved_field full 7) in
      let share' = share ∙ ap (λ (l : List ℕ). float_in l) (sym lies-1) in
      let limit' = limit ∙ ap number (sym lies-2) in
      let tick' = tick ∙ ap number (sym lies-3) in
      let lap' = lap ∙ ap (λ (x : ℕ). eqb (x % 2) 1) flag in
      let ended' = ended ∙ ap (λ (x : ℕ). eqb (x / 2 % 2) 1) flag in
      let fallback' = fallback ∙ ap (λ (x : ℕ). eqb (x / 4 % 2) 1) flag in
      let fuel' = ap (λ (l : List Float). number_at l control_count) car ∙ get_or_at controls fuel [] nan control_count long in
      let controls' = ap (take control_count) car ∙ take_at controls (fuel ∷ []) control_count long in
      let n' = n ∙ ap number (sym lies-9) in
      (λ i. record {
        seed = f.seed;
        share = share' i;
        limit = limit' i;
        tick = tick' i;
        credited = credited i;
        lap = lap' i;
        ended = ended' i;
        fallback = fallback' i;
        fuel = fuel' i;
        controls = controls' i;
        poses = poses i;
        n = n' i;
      })

-- ---- what the bytes say

fits-sized : (rs : List Row) (m : ℕ) (fs : List (List ℕ)) → Fits rs m fs → Sized rs fs
fits-sized all m fs none = tt
fits-sized all n all' (shown r rs m f fs o l z k) = (l, fits-sized rs (m / 2) fs k)
fits-sized all n all' (hidden r rs m f fs o e k) = (ap length e ∙ length-replicate r.bytes 0, fits-sized rs (m / 2) fs k)

abbrev IsBroken : Parsed → Type 0
IsBroken (fields fs) = ⊥
IsBroken broken = Unit

parsed-sized : (rs : List Row) (bs : List ℕ) (fs : List (List ℕ)) → parsed rs bs ≡ fields fs → Sized rs fs
unfolding parsed
parsed-sized rs bs fs e = go (ltb (length bs) 2) e
  where
    go : (b : Bool) → cond b broken (parse rs (map_in bs) (drop 2 bs)) ≡ fields fs → Sized rs fs
    go true q = absurd (subst IsBroken q tt)
    go false q = fits-sized rs (map_in bs) fs (parse-only rs (map_in bs) (drop 2 bs) fs q).fits

module _ (m most : ℕ) (bs : List ℕ) where
  -- the tests of fields
  abbrev passed : List (List ℕ) → Bool
  passed fs = ltb (number (field_at fs 5)) 8 && (seeds_ok (number (field_at fs 0)) (number (field_at fs 10)) && sound_fields most (fields_from m fs))

  -- what was read, with its tests, is what the bytes say
  abbrev Tested : Bool → List (List ℕ) → Option Fields
  Tested ok fs = cond (ok && passed fs) (Some (fields_from m fs)) None

  read-loaded : (full to : List ℕ) (map : Option ℕ) → sum (field_bytes m) ≤ length to → read map full ≡ unpack_into (second_form m) bs to
      → Tested (is_some map) (cut (field_bytes m) full) ≡ loaded m most bs
  unfolding unpack_into loaded loaded_from
  read-loaded full to map room e =
      go (parsed (second_form m) bs) refl
      (e ∙ ap (λ (b : Bool). cond b (read_fields (parsed (second_form m) bs) (map_in bs) to) (read None to)) (ap (λ (l : List ℕ). leb (sum l) (length to)) (widths-of (field_bytes m) []) ∙ le-leb (sum (field_bytes m)) (length to) room))
    where
      go : (p : Parsed) → parsed (second_form m) bs ≡ p → read map full ≡ read_fields p (map_in bs) to → Tested (is_some map) (cut (field_bytes m) full) ≡ loaded_from m most p
      go (fields fs) q r =
          ap₂ Tested (ap (λ (x : Read). is_some x.map) r)
          (ap (λ (x : Read). cut (field_bytes m) x.full) r ∙ cut-joined (field_bytes m) [] fs (drop (length (joined fs)) to) (parsed-sized (second_form m) bs fs q))
      go broken q r = ap (λ (x : Read). Tested (is_some x.map) (cut (field_bytes m) full)) r

  abbrev IsKept : Option Fields → Type 0
  IsKept (Some f) = Unit
  IsKept None = ⊥

  abbrev fields_in : Fields → Option Fields → Fields
  fields_in d (Some f) = f
  fields_in d None = d

  -- what is kept is sound
  pub kept-sound : (f : Fields) → loaded m most bs ≡ Some f → sound_fields most f ≡ true
  unfolding loaded loaded_from
  kept-sound f e = go (parsed (second_form m) bs) e
    where
      tested : (fs : List (List ℕ)) (b : Bool) → passed fs ≡ b → cond b (Some (fields_from m fs)) None ≡ Some f → sound_fields most f ≡ true
      tested fs true q r =
          ap (sound_fields most) (sym (ap (fields_in f) r))
          ∙ and_right (seeds_ok (number (field_at fs 0)) (number (field_at fs 10))) (sound_fields most (fields_from m fs)) (and_right (ltb (number (field_at fs 5)) 8) _ q)
      tested fs false q r = absurd (subst IsKept (sym r) tt)

      go : (p : Parsed) → loaded_from m most p ≡ Some f → sound_fields most f ≡ true
      go (fields fs) q = tested fs (passed fs) refl q
      go broken q = absurd (subst IsKept (sym q) tt)

-- whether a seed is said, and which
abbrev IsSaid : Option ℕ → Type 0
IsSaid (Some n) = Unit
IsSaid None = ⊥

abbrev option_or : ℕ → Option ℕ → ℕ
option_or d (Some n) = n
option_or d None = d

unsaid : (b : Bool) (w : ℕ) → cond b (Some w) None ≡ None → b ≡ false
unsaid true w e = absurd (subst IsSaid e tt)
unsaid false w e = refl

said-once : (b : Bool) (w seed : ℕ) → cond b (Some w) None ≡ Some seed → (b ≡ true) × (w ≡ seed)
said-once true w seed e = (refl, ap (option_or w) e)
said-once false w seed e = absurd (subst IsSaid (sym e) tt)

never : (a : Bool) (f : Fields) → None ≡ cond (a && false) (Some f) None
never true f = refl
never false f = refl

-- the same of the code's values
mapped : (b : Bool) (f : SavedRun) → option_map fields_as (then_some b f) ≡ cond b (Some (fields_as f)) None
mapped true f = refl
mapped false f = refl

module _ (most : ℕ) (bs full to : List ℕ) (rows : List Row) (map : Option ℕ) (room : sum (field_bytes full_words) ≤ length to)
    (table : rows ≡ second_form full_words) (e : read map full ≡ unpack_into rows bs to) where
  abbrev cuts : List (List ℕ)
  cuts = cut (field_bytes full_words) full

  all-tested : Tested full_words most bs (is_some map) cuts ≡ loaded full_words most bs
  all-tested = read-loaded full_words most bs full to map room (e ∙ ap (λ (l : List Row). unpack_into l bs to) table)

  pub none-read : map ≡ None → None ≡ loaded full_words most bs
  none-read h = ap (λ (m : Option ℕ). Tested full_words most bs (is_some m) cuts) (sym h) ∙ all-tested

  module _ (k : ℕ) (p : SeedParts) (some : map ≡ Some k) (parts : p ≡ seeds_read (saved_field full 0) (saved_field full 10)) where
    abbrev kept : Fields
    kept = fields_from full_words cuts

    -- what the seeds' test is of the fields
    single : (b : Bool) → seeds_ok p.narrow p.wide ≡ b → b ≡ seeds_ok (number (saved_field full 0)) (number (saved_field full 10))
    single b h = sym h ∙ ap (λ (x : SeedParts). seeds_ok x.narrow x.wide) parts

    read-tested : cond (passed full_words most bs cuts) (Some kept) None ≡ loaded full_words most bs
    read-tested = ap (λ (m : Option ℕ). Tested full_words most bs (is_some m) cuts) (sym some) ∙ all-tested

    pub no-seed : seed_in p ≡ None → None ≡ loaded full_words most bs
    unfolding seed_in
    no-seed h =
        let one = single false (unsaid (seeds_ok p.narrow p.wide) (seed_from p.narrow p.wide) h) in
        never (ltb (number (saved_field full 5)) 8) kept
        ∙ (λ i. cond (ltb (number (saved_field full 5)) 8 && (one i && sound_fields most kept)) (Some kept) None)
        ∙ read-tested

    pub load_is : (sound : Bool) (seed : ℕ) (f : SavedRun) → length full ≡ sum (field_bytes full_words) → seed_in p ≡ Some seed
        → fields_as f ≡ fields_with seed full_words cuts → sound ≡ sound_fields most (fields_as f)
        → option_map fields_as (then_some (ltb (get_or full 340 0) 8 && sound) f) ≡ loaded full_words most bs
    unfolding fields_from seed_in
    load_is sound seed f long h fs q =
        let said = said-once (seeds_ok p.narrow p.wide) (seed_from p.narrow p.wide) seed h in
        let one = single true said.0 in
        let all : fields_as f ≡ kept = fs ∙ ap (λ (k : ℕ). fields_with k full_words cuts) (sym said.1 ∙ ap (λ (x : SeedParts). seed_from x.narrow x.wide) parts) in
        let tested = q ∙ ap (sound_fields most) all in
        let flags = sym (flags-byte full long) in
        mapped (ltb (get_or full 340 0) 8 && sound) f
        ∙ (λ i. cond (ltb (flags i) 8 && (one i && tested i)) (Some (all i)) None)
        ∙ read-tested

-- what was not read is not loaded, and what was read is
pub not-loaded : {o : Option SavedRun} {r : Option Fields} → o ≡ None → option_map fields_as o ≡ r → None ≡ r
not-loaded h e = ap (option_map fields_as) (sym h) ∙ e

pub is-loaded : {o : Option SavedRun} {f : SavedRun} {r : Option Fields} → o ≡ Some f → option_map fields_as o ≡ r → Some (fields_as f) ≡ r
is-loaded h e = ap (option_map fields_as) (sym h) ∙ e
