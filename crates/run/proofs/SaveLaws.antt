-- A save: its fields put one after the other, how long its form is, and what it answers. Assumes nothing.
use mathlib.Core.Bool.{Bool, true, false, cond}
use mathlib.Core.List.{List, [], ◌∷◌, ◌++◌, append_assoc, append-nil}
use mathlib.Core.Path.{◌≡◌, refl, sym, ap, ap₂, ◌∙◌}
use Prim.Native.Nat.{ℕ, ◌+◌, ◌-◌, ◌≤◌}
use native.Mathlib.Omega.{arith}
use lib.Dec.{ltb}
use lib.ListN.{length, take, drop}
use lib.Seq.{sets}
use borrow.Author.Tests.{ltb-false}
use Rattle.std.specs.Prelude.{Result, Ok, Err}
use Rattle.course.specs.declared.cause.Cause.{Cause}
use Rattle.form.specs.Rules.Bytes.{low, all_zero, word_bytes, leaves, store}
use Rattle.form.specs.declared.table.Row.{Row}
use Rattle.form.specs.declared.pack.NoRoom.{NoRoom}
use Rattle.form.specs.declared.short.TooShort.{TooShort}
use Rattle.form.specs.Rules.Form.{widths, cut, joined, most_rows, map_of, standing, packed, Wrote, wrote, pack_into}
use Rattle.form.proofs.ByteLaws.{low-length, stored-whole}
use Rattle.form.proofs.Filling.{Filling, sets-front, begins, goes_on, part-on, part-long, ends, ends-whole, ends-with}
use Rattle.form.proofs.TableLaws.{packed-length, pack-room, widths-of}
use Rattle.form.proofs.MapLaws.{left_out, cut-joined}
use Rattle.form.proofs.LaterRows.{zeros-low}
use Rattle.run.specs.Rules.Arguments.{save_room}
use Rattle.run.specs.Grader.Widths.{full_words}
use Rattle.run.specs.Grader.State.{State, unfit}
use Rattle.run.specs.Grader.Numbers.{pose_count}
use Rattle.run.specs.Grader.Saved.{Fields, fields_of, flags_of, wide_seed, narrow_part, wide_part, ten_fields, bytes_of, field_bytes, second_form, saved_form}
use Rattle.run.specs.Grader.Save.{save_check, after_save, save_at, save_of}
use Rattle.run.specs.Steps.Save.{seed_parts, first_fields, last_fields, first_bytes, last_from, all_bytes}
use Rattle.run.specs.declared.saved.SeedParts.{SeedParts}
use Rattle.run.proofs.CheckLaws.{passed}
use Rattle.run.proofs.FieldSizes.{first_of, last_of, apart, words_long, Whole, state-whole, bytes-sized, sized-length, first-length, last-length, all-bytes}

-- ---- how long

-- of the seed's two fields one is zeros, and left out
seed-left-out : (f : Fields) → length (standing (map_of (bytes_of f)) (bytes_of f)) + 4 ≤ length (joined (bytes_of f))
unfolding bytes_of ten_fields narrow_part wide_part
seed-left-out f = go (ltb f.seed wide_seed) refl
  where
    narrow : ℕ
    narrow = narrow_part f.seed

    wide : ℕ
    wide = wide_part f.seed

    go : (b : Bool) → ltb f.seed wide_seed ≡ b → length (standing (map_of (bytes_of f)) (bytes_of f)) + 4 ≤ length (joined (bytes_of f))
    go true e = omega (arith, left_out (low 8 wide) (ten_fields narrow f) [] (ap (λ (b : Bool). all_zero (low 8 (cond b 0 f.seed))) e ∙ zeros-low 8), low-length 8 wide)
    go false e = omega (arith, left_out (low 4 narrow) [] (drop 1 (bytes_of f)) (ap (λ (b : Bool). all_zero (low 4 (cond b f.seed 0))) e ∙ zeros-low 4), low-length 4 narrow)

-- so the room of a save is that of the map and of all fields but four bytes: no form is longer
form_small : (f : Fields) → Whole full_words f → length (saved_form f) ≤ save_room
unfolding saved_form
form_small f h =
    let fs = bytes_of f in
    omega (arith, packed-length (map_of fs) fs, seed-left-out f, sized-length (field_bytes full_words) [] fs (bytes-sized full_words f h), all-bytes)

-- ---- fields written one after the other

joined-append : (fs gs : List (List ℕ)) → joined (fs ++ gs) ≡ joined fs ++ joined gs
unfolding joined
joined-append [] gs = refl
joined-append (f ∷ fs) gs = ap (λ (l : List ℕ). f ++ l) (joined-append fs gs) ∙ sym (append_assoc f (joined fs) (joined gs))

-- the next field was put, by a call that was lent its part
pub field-on : {c l all : List ℕ} {i : ℕ} (f : List ℕ) (fs : List (List ℕ)) (p : List ℕ) (e : ℕ) (r : Result Unit TooShort) → Filling c l all i (joined (f ∷ fs))
    → leaves r p ≡ store f (take (e - i) (drop i c)) → length f ≡ e - i → i ≤ e → e ≤ length l
    → Filling (take i c ++ (p ++ drop (e - i) (drop i c))) l all e (joined fs)
unfolding joined
field-on {c} {l} {all} {i} f fs p e r k s n a h =
    let room : e ≤ length c = omega (arith, k.same, h) in
    let long : length f ≡ length (take (e - i) (drop i c)) = n ∙ sym (part-long c i e a room) in
    part-on p f (joined fs) e e k refl (stored-whole f _ p r long s) (omega (arith, n, a)) room refl

-- all were
pub fields-end : {c l all : List ℕ} {i : ℕ} → Filling c l all i (joined []) → length l ≡ i → c ≡ all
unfolding joined
fields-end k n = ends-whole k refl (omega (arith, k.count, n))

-- those at the front were
pub fields-front : {c l all : List ℕ} {i : ℕ} → Filling c l all i (joined []) → i ≤ length l → c ≡ all ++ drop i l
unfolding joined
fields-front {c} {l} {all} {i} k h =
    let n : length all ≡ i = omega (arith, k.count) in
    ends k refl (omega (arith, n, h)) ∙ ap (λ (j : ℕ). all ++ drop j l) n

-- a list, one of whose parts a call has filled
abbrev with_part : List ℕ → ℕ → ℕ → List ℕ → List ℕ
with_part l i e p = take i l ++ (p ++ drop (e - i) (drop i l))

-- all fields of a run are there once those before the credited tiles, these, and those behind are put
pub fields-put : (f : Fields) (full p q v : List ℕ) (r : Result Unit TooShort) (seed : SeedParts) (flags : ℕ) → Whole full_words f → length full ≡ all_bytes
    → seed ≡ seed_parts f.seed → p ≡ joined (first_fields seed.narrow f.share f.limit f.tick) ++ drop first_bytes full
    → leaves r q ≡ store (word_bytes f.credited) (take (last_from - first_bytes) (drop first_bytes p))
    → flags ≡ flags_of f.lap f.ended f.fallback
    → v ≡ take last_from (with_part p first_bytes last_from q) ++ joined (last_fields flags f.fuel f.controls f.poses f.n seed.wide) → v ≡ joined (bytes_of f)
unfolding seed_parts
fields-put f full p q v r seed flags h n s a b x z =
    let words = word_bytes f.credited in
    let front = joined (first_of f) in
    let first : p ≡ sets full 0 front =
    a ∙ ap (λ (t : SeedParts). joined (first_fields t.narrow f.share f.limit f.tick) ++ drop first_bytes full) s
    ∙ ap (λ (j : ℕ). front ++ drop j full) (sym (first-length f)) ∙ sym (sets-front front full (omega (arith, first-length f, n))) in
    let last : joined (last_fields flags f.fuel f.controls f.poses f.n seed.wide) ≡ joined (last_of f) =
    ap₂ (λ (k : ℕ) (t : SeedParts). joined (last_fields k f.fuel f.controls f.poses f.n t.wide)) x s in
    let k0 = begins full (joined (bytes_of f)) (joined (first_of f ++ (words ∷ last_of f))) (ap joined (sym (apart f))) in
    let k1 = goes_on p first_bytes front (joined (words ∷ last_of f)) k0 (joined-append (first_of f) (words ∷ last_of f)) first (omega (arith, first-length f)) in
    let k2 = field-on words (last_of f) q last_from r k1 b (words_long f.credited full_words h.credited) (omega arith) (omega (arith, n)) in
    z ∙ ap (λ (l : List ℕ). take last_from (with_part p first_bytes last_from q) ++ l) last ∙ ends-with k2 (omega (arith, k2.count, last-length f h, n))

-- ---- the answer

pub save-refused : (most : ℕ) (s : State) (out : List ℕ) (r : Result Unit Cause) (k : Cause) → r ≡ save_check most s.setup s.progress (length out) → r ≡ Err k
    → after_save (Err k) out ≡ save_of most s out
unfolding save_of save_at
save-refused most s out r k e z = ap (λ (j : Result Unit Cause). save_at j s out) (sym z ∙ e)

-- an output that is not refused has the room
save-fits : (most : ℕ) (s : State) (room : ℕ) → save_check most s.setup s.progress room ≡ Ok tt → save_room ≤ room
unfolding save_check
save-fits most s room e =
    let a = passed (unfit most s.setup s.progress) _ _ e in
    let b = passed s.progress.driven _ _ a.1 in
    ltb-false room save_room (passed (ltb room save_room) _ _ b.1).0

-- what is packed by the table and the map is the saved form
pub form-packed : (f : Fields) (ws full out out' : List ℕ) (m : ℕ) (r : Result ℕ NoRoom) → Whole full_words f → ws ≡ field_bytes full_words → full ≡ joined (bytes_of f)
    → m ≡ map_of (cut (take most_rows ws) full) → wrote r out' ≡ pack_into (packed m (cut ws full)) out → wrote r out' ≡ pack_into (saved_form f) out
unfolding saved_form field_bytes
form-packed f ws full out out' m r h w b e p =
    let all = ap₂ cut w (b ∙ sym (append-nil (joined (bytes_of f)))) ∙ cut-joined (field_bytes full_words) [] (bytes_of f) [] (bytes-sized full_words f h) in
    let t : take most_rows ws ≡ ws = ap (take most_rows) w ∙ sym w in
    let map = e ∙ ap (λ (l : List ℕ). map_of (cut l full)) t ∙ ap map_of all in
    p ∙ ap₂ (λ (j : ℕ) (fs : List (List ℕ)). pack_into (packed j fs) out) map all

-- the length that a call wrote or would need
abbrev the_length : Result ℕ NoRoom → ℕ
the_length (Ok n) = n
the_length (Err e) = e.needed

-- a save that is not refused has room for its form
module _ (most : ℕ) (s : State) (out out' full : List ℕ) (rows : List Row) (m : ℕ) (a : Result Unit Cause) (r : Result ℕ NoRoom) (credited : length s.credited ≡ full_words) (poses : length s.poses ≡ pose_count)
    (table : rows ≡ second_form full_words) (all : full ≡ joined (bytes_of (fields_of s))) (map : m ≡ map_of (cut (take most_rows (widths rows)) full))
    (p : wrote r out' ≡ pack_into (packed m (cut (widths rows) full)) out) (e : a ≡ save_check most s.setup s.progress (length out)) (z : a ≡ Ok tt) where
  abbrev form : List ℕ
  form = saved_form (fields_of s)

  small : length form ≤ save_room
  small = form_small (fields_of s) (state-whole full_words s credited poses)

  room : save_room ≤ length out
  room = save-fits most s (length out) (sym e ∙ z)

  form-is : wrote r out' ≡ wrote (Ok (length form)) (form ++ drop (length form) out)
  form-is =
      form-packed (fields_of s) (widths rows) full out out' m r (state-whole full_words s credited poses) (ap widths table ∙ widths-of (field_bytes full_words) []) all map p
      ∙ sym (pack-room form out _ _ refl (omega (arith, room, small)) refl)

  pub save-packed : r ≡ Ok (length (saved_form (fields_of s)))
  save-packed = ap (λ (x : Wrote). x.length) form-is

  module _ (n : ℕ) (q : r ≡ Ok n) where
    -- the length is small
    pub save-length : n ≤ save_room
    save-length = omega (arith, ap the_length (sym q ∙ save-packed), small)

    pub save-accepted : after_save (Ok n) out' ≡ save_of most s out
    unfolding save_of save_at
    save-accepted =
        ap (λ (x : Wrote). after_save (Ok (the_length x.length)) x.out) (ap (λ (t : Result ℕ NoRoom). wrote t out') (sym q) ∙ form-is)
        ∙ ap (λ (j : Result Unit Cause). save_at j s out) (sym z ∙ e)
