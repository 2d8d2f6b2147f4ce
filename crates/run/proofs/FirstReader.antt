-- A reader of the first saved form never shows a shortened seed, and what it shows is shown as before. For sets of any number of words. Assumes nothing.
use mathlib.Core.Bool.{Bool, false, cond, not, ◌&&◌}
use mathlib.Core.List.{List, [], ◌∷◌, ◌++◌}
use mathlib.Core.Path.{◌≡◌, refl, sym, ap, ap₂, ◌∙◌, subst}
use Prim.Native.Nat.{ℕ, ◌+◌, ◌*◌, ◌/◌, ◌^◌, ◌≤◌, ◌<◌}
use native.Mathlib.Omega.{arith}
use Rattle.std.specs.Prelude.{Option, Some, None}
use lib.Dec.{ltb}
use lib.ListN.{length, get_or, replicate, get_or-append}
use lib.Seq.{get_or_at}
use borrow.Author.Tests.{lt-ltb, le-ltb}
use Rattle.form.specs.Rules.Bytes.{low, number, all_zero, words_from, floats_from}
use Rattle.form.specs.Rules.Form.{rows_of, odd, bit, map_of, packed, Parsed, map_in, parsed}
use Rattle.form.specs.Rules.Form.Parsed.{fields, broken}
use Rattle.form.proofs.TableLaws.{map_below}
use Rattle.form.proofs.MapLaws.{map-in}
use Rattle.form.proofs.LaterRows.{no_fields, packed-past, parsed-past, parsed-many, later-refused, map_at, zeros-low, number-zeros, some_byte}
use Rattle.run.specs.Grader.Numbers.{control_count, pose_count}
use Rattle.run.specs.Grader.Saved.{Fields, wide_seed, narrow_part, wide_part, ten_fields, bytes_of, field_bytes, saved_form, field_at, float_in, fields_with, seed_from, fields_from, seeds_ok, sound_fields, loaded_from, loaded}
use Rattle.run.specs.Grader.Restore.{restore_check, course_at}
use Rattle.run.specs.Laws.FirstReader.{first_saved, first_form, first_loaded_from, first_loaded, RefusedByFirst, FirstReader}

-- ---- what is saved

-- a seed below 2^32: the wide field is zeros, and left out
same-saves : (f : Fields) → f.seed < wide_seed → saved_form f ≡ first_saved f
unfolding saved_form first_saved bytes_of narrow_part wide_part map_of
same-saves f h =
    ap (λ (b : Bool). let fs = ten_fields (cond b f.seed 0) f ++ (low 8 (cond b 0 f.seed) ∷ []) in packed (map_of fs) fs) (lt-ltb f.seed wide_seed h)
    ∙ packed-past (ten_fields f.seed f) (low 8 0 ∷ []) (ap (λ (b : Bool). bit (not b) + 2 * 0) (zeros-low 8))

-- a seed of 2^32 or more has bit 10
wide_bit : (f : Fields) → wide_seed ≤ f.seed → f.seed < 2 ^ 64 → 2 ^ 10 ≤ map_in (saved_form f)
unfolding saved_form bytes_of ten_fields wide_part
wide_bit f wide fit =
    let fs = bytes_of f in
    let stands : all_zero (get_or fs 10 []) ≡ false =
    ap (λ (b : Bool). all_zero (low 8 (cond b 0 f.seed))) (le-ltb f.seed wide_seed wide) ∙ some_byte 8 f.seed (omega (arith, wide)) (omega (arith, fit)) in
    let few : map_of fs < 2 ^ 11 = map_below fs in
    subst (λ (m : ℕ). 2 ^ 10 ≤ m) (sym (map-in (map_of fs) fs (omega (arith, few)))) (map_at fs 10 stands)

-- ---- what is read
module _ (m most : ℕ) where
  -- a bit past the ten
  later-bit : (bs : List ℕ) → 2 ^ 10 ≤ map_in bs → first_loaded m most bs ≡ None
  unfolding first_loaded first_loaded_from rows_of
  later-bit bs h = ap (first_loaded_from m most) (later-refused (first_form m) bs h)

  by-eleven : (bs : List ℕ) → first_loaded m most bs ≡ None → RefusedByFirst m most bs
  unfolding restore_check
  by-eleven bs e = ((λ l n. ap (restore_check l n) e), ap course_at e)

  -- a field more behind the ten changes nothing of them
  front : (fs gs : List (List ℕ)) (k : ℕ) → length fs ≡ 10 → k < 10 → field_at (fs ++ gs) k ≡ field_at fs k
  front fs gs k n h = get_or-append fs gs [] k (omega (arith, n, h))

  fields-past : (seed : ℕ) (fs gs : List (List ℕ)) → length fs ≡ 10 → fields_with seed m (fs ++ gs) ≡ fields_with seed m fs
  unfolding fields_with
  fields-past seed fs gs n =
      let field : (k : ℕ) → k < 10 → field_at (fs ++ gs) k ≡ field_at fs k = λ k h. front fs gs k n h in
      let flags = field 5 (omega arith) in
      λ i. record {
        seed = seed;
        share = float_in (field 1 (omega arith) i);
        limit = number (field 2 (omega arith) i);
        tick = number (field 3 (omega arith) i);
        credited = words_from m (field 4 (omega arith) i);
        lap = odd (number (flags i));
        ended = odd (number (flags i) / 2);
        fallback = odd (number (flags i) / 4);
        fuel = float_in (field 6 (omega arith) i);
        controls = floats_from control_count (field 7 (omega arith) i);
        poses = floats_from pose_count (field 8 (omega arith) i);
        n = number (field 9 (omega arith) i);
      }

  -- without a wide seed, the seed is the narrow one
  agrees_from : (fs : List (List ℕ)) (f : Fields) → length fs ≡ 10 → first_loaded_from m most (fields fs) ≡ Some f
      → loaded_from m most (fields (fs ++ (replicate 8 0 ∷ []))) ≡ Some f
  unfolding first_loaded_from loaded_from fields_from seed_from seeds_ok
  agrees_from fs f n e =
      let gs = fs ++ (replicate 8 0 ∷ []) in
      let narrow = ap number (front fs (replicate 8 0 ∷ []) 0 n (omega arith)) in
      let flags = ap number (front fs (replicate 8 0 ∷ []) 5 n (omega arith)) in
      let wide : number (field_at gs 10) ≡ 0 = ap number (get_or_at fs (replicate 8 0) [] [] 10 n) ∙ number-zeros 8 in
      let all = ap₂ (λ (x y : ℕ). fields_with (seed_from x y) m gs) narrow wide ∙ fields-past (number (field_at fs 0)) fs (replicate 8 0 ∷ []) n in
      let one = ap₂ seeds_ok narrow wide in
      (λ i. cond (ltb (flags i) 8 && (one i && sound_fields most (all i))) (Some (all i)) None) ∙ e

  abbrev IsKept : Option Fields → Type 0
  IsKept (Some f) = Unit
  IsKept None = ⊥

  agrees-all : (bs : List ℕ) (f : Fields) → first_loaded m most bs ≡ Some f → loaded m most bs ≡ Some f
  unfolding first_loaded first_loaded_from loaded rows_of field_bytes no_fields
  agrees-all bs f e = go (parsed (first_form m) bs) refl e
    where
      go : (p : Parsed) → parsed (first_form m) bs ≡ p → first_loaded_from m most p ≡ Some f → loaded m most bs ≡ Some f
      go (fields fs) q r =
          ap (loaded_from m most) (parsed-past (first_form m) (record { bytes = 8; zeros = false } ∷ []) bs fs q)
          ∙ agrees_from fs f (parsed-many (first_form m) bs fs q) r
      go broken q r = absurd (subst IsKept (sym r) tt)

  pub first-reader : FirstReader m most
  first-reader =
      record {
        refuses = λ bs h. by-eleven bs (later-bit bs h);
        never = λ f wide fit. by-eleven (saved_form f) (later-bit (saved_form f) (wide_bit f wide fit));
        agrees = agrees-all;
        same = same-saves;
      }
