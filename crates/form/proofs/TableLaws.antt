-- The rows of a table one after another, over fields that lie end to end. Assumes nothing.
use Prim.Native.Nat.{ℕ, zero, suc, ◌+◌, ◌*◌, ◌-◌, ◌/◌, ◌%◌, ◌^◌, ◌≤◌, ◌<◌, min}
use mathlib.Core.Path.{◌≡◌, refl, sym, ap, ap₂, ◌∙◌, subst}
use mathlib.Core.Bool.{Bool, true, false, cond, not, true≢false}
use Rattle.std.specs.Option.{is_none}
use Rattle.std.proofs.lemmas.Nat.{pow_pos}
use mathlib.Core.List.{List, [], ◌∷◌, ◌++◌, map, append-nil}
use native.Mathlib.Nat.{pow-suc, pow-le-pow_right, mul-le-mul_left, mul-add, mul_assoc, mul_comm}
use native.Mathlib.Numerals.{add-one}
use native.Mathlib.Omega.{arith}
use mir.Val.{bool_byte}
use lib.ListN.{length, get_or, take, drop, length-append, take-append-drop, drop_of_length-le}
use lib.Seq.{drop-cons, sets}
use borrow.Author.Tests.{le-leb, lt-leb}
use Rattle.std.specs.Int.{w16, to_le_bytes}
use Rattle.form.proofs.ByteLaws.{low-length, low-said}
use Rattle.form.proofs.Filling.{Filling, sets-front, begins, goes_on, ends, part-on, take-least, drop-least}
use Rattle.form.specs.Rules.Bytes.{low, all_zero}
use Rattle.std.proofs.Common.{Option, Some, None, Ok, Err, ◌⊎◌, inl, inr}
use Rattle.form.specs.declared.table.Row.{Row}
use Rattle.form.specs.Rules.Form.{widths, rows_of, sum, cut, joined, odd, bit, map_of, standing, packed, Wrote, wrote, pack_into}

-- ---- the fields of a table, cut off where the bytes end
module _ (r : Row) (rows rest : List Row) (full f b : List ℕ) (n : ℕ) where
  pub cut-next : rows ≡ r ∷ rest → n ≡ min r.bytes (length full) → f ≡ take n full → b ≡ drop n full → cut (widths rows) full ≡ f ∷ cut (widths rest) b
  unfolding cut
  cut-next e h p q =
      ap (λ (rs : List Row). cut (widths rs) full) e
      ∙ ap₂ (λ (g l : List ℕ). g ∷ cut (widths rest) l) (sym (p ∙ ap (λ (k : ℕ). take k full) h ∙ take-least r.bytes full)) (sym (q ∙ ap (λ (k : ℕ). drop k full) h ∙ drop-least r.bytes full))

pub cut-none : (rows : List Row) (full : List ℕ) → length rows ≡ 0 → cut (widths rows) full ≡ []
unfolding cut
cut-none [] full e = refl
cut-none (r ∷ rows) full e = absurd (omega (arith, e))

-- ---- the rows from one on, and the bytes of all fields
abbrev pub no_row : Row
no_row = record { bytes = 0; zeros = false }

pub row_at : (rows : List Row) (k : ℕ) → k < length rows → drop k rows ≡ get_or rows k no_row ∷ drop (k + 1) rows
row_at rows k h = drop-cons rows k no_row h ∙ ap (λ (j : ℕ). get_or rows k no_row ∷ drop j rows) (sym (add-one k))

pub sum-at : (rows : List Row) (k : ℕ) → k < length rows → sum (widths (drop k rows)) ≡ (get_or rows k no_row).bytes + sum (widths (drop (k + 1) rows))
unfolding sum
sum-at rows k h = ap (λ (l : List Row). sum (widths l)) (row_at rows k h)

pub sum-none : (rows : List Row) (k : ℕ) → length rows ≤ k → sum (widths (drop k rows)) ≡ 0
unfolding sum
sum-none rows k h = ap (λ (l : List Row). sum (widths l)) (drop_of_length-le rows h)

-- the widths of a table of widths and marks
pub widths-of : (ws : List ℕ) (zs : List Bool) → widths (rows_of ws zs) ≡ ws
unfolding rows_of
widths-of [] zs = refl
widths-of (w ∷ ws) zs = ap (λ (l : List ℕ). w ∷ l) (widths-of ws (drop 1 zs))

-- a table's marks; and each table is that of its widths and marks
abbrev pub marks : List Row → List Bool
marks = map (λ (r : Row). r.zeros)

pub rows-back : (rows : List Row) → rows_of (widths rows) (marks rows) ≡ rows
unfolding rows_of
rows-back [] = refl
rows-back (r ∷ rows) = ap (λ (l : List Row). r ∷ l) (rows-back rows)

-- ---- the map
bit-small : (b : Bool) → bit b ≤ 1
bit-small true = omega arith
bit-small false = omega arith

bit-is : (b : Bool) → bool_byte b ≡ bit b
bit-is true = refl
bit-is false = refl

pub bit_most : (b : Bool) (x : ℕ) → x ≡ bool_byte b → x ≤ 1
bit_most b x e = omega (arith, e, bit-is b, bit-small b)

pub map-next : (fs : List (List ℕ)) (f : List ℕ) (gs : List (List ℕ)) (z : Bool) (x : ℕ) → fs ≡ f ∷ gs → z ≡ all_zero f → x ≡ bool_byte (not z) → map_of fs ≡ x + 2 * map_of gs
unfolding map_of
map-next fs f gs z x e h q = ap map_of e ∙ ap (λ (b : Bool). bit (not b) + 2 * map_of gs) (sym h) ∙ ap (λ (k : ℕ). k + 2 * map_of gs) (sym (q ∙ bit-is (not z)))

pub map-none : (fs : List (List ℕ)) → fs ≡ [] → map_of fs ≡ 0
unfolding map_of
map-none fs e = ap map_of e

pub map_below : (fs : List (List ℕ)) → map_of fs < 2 ^ length fs
unfolding map_of
map_below [] = omega arith
map_below (f ∷ fs) = omega (arith, bit-small (not (all_zero f)), map_below fs, pow-suc 2 (length fs))

-- a field for each width, and so a bit
cut-many : (ws full : List ℕ) → length (cut ws full) ≡ length ws
unfolding cut
cut-many [] full = refl
cut-many (w ∷ ws) full = ap suc (cut-many ws (drop w full))

pub map-small : (ws full : List ℕ) → map_of (cut ws full) < 2 ^ length ws
map-small ws full = subst (λ (k : ℕ). map_of (cut ws full) < 2 ^ k) (cut-many ws full) (map_below (cut ws full))

-- the first fields, one after another
pub cut-take : (n : ℕ) (ws full : List ℕ) → take n (cut ws full) ≡ cut (take n ws) full
unfolding cut
cut-take zero ws full = refl
cut-take (suc n) [] full = refl
cut-take (suc n) (w ∷ ws) full = ap (λ (l : List (List ℕ)). take w full ∷ l) (cut-take n ws (drop w full))

pub take-next : (n m : ℕ) (fs : List (List ℕ)) (f : List ℕ) (gs : List (List ℕ)) → fs ≡ f ∷ gs → m + 1 ≡ n → take n fs ≡ f ∷ take m gs
take-next n m fs f gs e h = ap₂ (λ (k : ℕ) (l : List (List ℕ)). take k l) (sym h ∙ add-one m) e

pub take-ended : (n : ℕ) (fs : List (List ℕ)) → (0 < n → fs ≡ []) → take n fs ≡ []
take-ended zero fs e = refl
take-ended (suc n) fs e = ap (take (suc n)) (e (omega arith))

pub power_small : (k : ℕ) → k ≤ 16 → 2 ^ k ≤ 2 ^ 16
power_small k h = pow-le-pow_right {n = 2} (omega arith) h

power-less : (k : ℕ) → k < 16 → 2 ^ k < 2 ^ 16
power-less k h =
    let e : 2 ^ (k + 1) ≡ 2 ^ k * 2 = ap (λ (z : ℕ). 2 ^ z) (add-one k) ∙ pow-suc 2 k in
    omega (arith, e, power_small (k + 1) (omega (arith, h)), pow_pos k)

-- a map of which k bits are gathered, and r is still to come
pub record Gathered (all m k r : ℕ) : Type 0 where
  pub small : m < 2 ^ k
  pub whole : all ≡ m + 2 ^ k * r

-- one bit more, which is shifted to its place
pub gathered : {all m k r : ℕ} (j n x r' : ℕ) → Gathered all m k r → j ≡ k → k < 16 → x ≤ 1 → n ≡ k + 1 → r ≡ x + 2 * r' → Gathered all (m + x * 2 ^ j % 2 ^ 16) n r'
gathered {all} {m} {k} {r} j n x r' g same h o e q =
    let v = 2 ^ k in
    let low : v * x ≤ v = omega (arith, mul-le-mul_left {m = x} {n = 1} v o) in
    let kept : x * v % 2 ^ 16 ≡ v * x = omega (arith, mul_comm x v, low, power-less k h) in
    let place : x * 2 ^ j % 2 ^ 16 ≡ v * x = ap (λ (z : ℕ). x * 2 ^ z % 2 ^ 16) same ∙ kept in
    let twice : v * 2 ≡ 2 ^ n = sym (ap (λ (z : ℕ). 2 ^ z) (e ∙ add-one k) ∙ pow-suc 2 k) in
    record {
      small = omega (arith, g.small, place, low, twice);
      whole =
          g.whole
          ∙ ap (λ (z : ℕ). m + v * z) q
          ∙ ap (λ (z : ℕ). m + z) (mul-add v x (2 * r') ∙ ap (λ (z : ℕ). v * x + z) (sym (mul_assoc v 2 r')))
          ∙ sums m (v * x) (v * 2 * r')
          ∙ ap₂ (λ (a b : ℕ). m + a + b * r') (sym place) twice;
    }
  where
    sums : (x y z : ℕ) → x + (y + z) ≡ x + y + z
    sums x y z = omega arith

pub gathered-all : (all m k r : ℕ) → Gathered all m k r → r ≡ 0 → m ≡ all
gathered-all all m k r g e = sym (g.whole ∙ ap (λ (z : ℕ). m + 2 ^ k * z) e ∙ none m (2 ^ k))
  where
    none : (m v : ℕ) → m + v * 0 ≡ m
    none m v = omega arith

-- ---- items with the bits of a map: these end where the items do, since the bits have no end
abbrev the_bit : Option Bool → Bool
the_bit (Some b) = b
the_bit None = false

pub same-bit : (a b : Bool) → Some a ≡ Some b → a ≡ b
same-bit a b e = ap the_bit e

abbrev Ended : {S T : Type 0} → Type 0 → Bool → (S → Type 0) → (T → Type 0) → Type 0
Ended {S = S} {T = T} none b P Q = ((s : S) × (none × P s)) ⊎ ((t : T) × ((◌≡◌ {A = Option Bool} None (Some b)) × Q t))

no-end : {X : Type 0} (b : Bool) → ◌≡◌ {A = Option Bool} None (Some b) → X
no-end b e = absurd (true≢false (ap (λ (o : Option Bool). is_none o) e))

pub ended : {S T : Type 0} (none : Type 0) (b : Bool) (P : S → Type 0) (Q : T → Type 0) → Ended none b P Q → none
ended none b P Q (inl h) = h.1.0
ended none b P Q (inr h) = no-end b h.1.0

-- ---- the length of what stands
pub shown-length : (b : Bool) (f : List ℕ) → length (cond b f []) ≡ cond b (length f) 0
shown-length true f = refl
shown-length false f = refl

pub shown-small : (b : Bool) (n : ℕ) → cond b n 0 ≤ n
shown-small true n = omega arith
shown-small false n = omega arith

-- what stands is no longer than all fields
pub standing-small : (m : ℕ) (fs : List (List ℕ)) → length (standing m fs) ≤ length (joined fs)
unfolding standing joined
standing-small m [] = omega arith
standing-small m (f ∷ fs) =
    omega (arith, length-append f (joined fs), length-append (cond (odd m) f []) (standing (m / 2) fs), shown-length (odd m) f, shown-small (odd m) (length f), standing-small (m / 2) fs)

-- nor than the bytes that the fields lie in
joined-within : (ws full : List ℕ) → length (joined (cut ws full)) ≤ length full
unfolding joined cut
joined-within [] full = omega arith
joined-within (w ∷ ws) full =
    omega (arith, length-append (take w full) (joined (cut ws (drop w full))), joined-within ws (drop w full), ap length (take-append-drop w full), length-append (take w full) (drop w full))

pub standing-within : (m : ℕ) (ws full : List ℕ) → length (standing m (cut ws full)) ≤ length full
standing-within m ws full = omega (arith, standing-small m (cut ws full), joined-within ws full)

-- one field, with its bit of the map
pub standing-next : (m m' : ℕ) (fs : List (List ℕ)) (f p : List ℕ) (gs : List (List ℕ)) (b : Bool) → fs ≡ f ∷ gs → Some b ≡ Some (odd m) → m' ≡ m / 2 → p ≡ cond b f []
    → standing m fs ≡ p ++ standing m' gs
unfolding standing
standing-next m m' fs f p gs b e o q h =
    ap (standing m) e ∙ ap₂ (λ (c : Bool) (k : ℕ). cond c f [] ++ standing k gs) (sym (same-bit b (odd m) o)) (sym q) ∙ ap (λ (l : List ℕ). l ++ standing m' gs) (sym h)

pub standing-none : (m : ℕ) (fs : List (List ℕ)) → fs ≡ [] → standing m fs ≡ []
unfolding standing
standing-none m fs e = ap (standing m) e

-- ---- the whole form
pub packed-length : (m : ℕ) (fs : List (List ℕ)) → length (packed m fs) ≡ 2 + length (standing m fs)
unfolding packed
packed-length m fs = omega (arith, length-append (low 2 m) (standing m fs), low-length 2 m)

module _ (bs out : List ℕ) where
  abbrev into : Bool → Wrote
  into b = cond b (wrote (Ok (length bs)) (bs ++ drop (length bs) out)) (wrote (Err (record { needed = length bs })) out)

  pub pack-short : (n : ℕ) → n ≡ length bs → length out < n → wrote (Err (record { needed = n })) out ≡ pack_into bs out
  unfolding pack_into
  pack-short n e h =
      let g : length out < length bs = omega (arith, e, h) in
      ap (λ (k : ℕ). wrote (Err (record { needed = k })) out) e ∙ sym (ap into (lt-leb _ _ g))

  pub pack-room : (out' : List ℕ) (n : ℕ) → n ≡ length bs → n ≤ length out → out' ≡ bs ++ drop (length bs) out → wrote (Ok n) out' ≡ pack_into bs out
  unfolding pack_into
  pack-room out' n e h q =
      let g : length bs ≤ length out = omega (arith, e, h) in
      ap₂ (λ (k : ℕ) (l : List ℕ). wrote (Ok k) l) e q ∙ sym (ap into (le-leb _ _ g))

-- the map's two bytes, then what stands
module _ (m n : ℕ) (fs : List (List ℕ)) (out b p : List ℕ) (q : n ≡ length (packed m fs)) (h : n ≤ length out) (e : b ≡ to_le_bytes w16 m) where
  abbrev out' : List ℕ
  out' = b ++ drop 2 out

  map-put : Filling out' out (packed m fs) 2 (standing m fs)
  unfolding packed
  map-put =
      let long = low-length 2 m in
      let front : out' ≡ sets out 0 (low 2 m) =
      ap₂ (λ (l : List ℕ) (j : ℕ). l ++ drop j out) (e ∙ sym (low-said 2 m)) (sym long) ∙ sym (sets-front (low 2 m) out (omega (arith, q, h, long, packed-length m fs))) in
      goes_on out' 2 (low 2 m) (standing m fs) (begins out (packed m fs) (packed m fs) refl) refl front (omega (arith, long))

  pub pack-done : p ≡ standing m fs → wrote (Ok n) (take 2 out' ++ (p ++ drop (n - 2) (drop 2 out'))) ≡ pack_into (packed m fs) out
  pack-done d =
      pack-room (packed m fs) out _ n q h
      (ends (part-on p (standing m fs) [] n n map-put (sym (append-nil (standing m fs))) d (omega (arith, q, packed-length m fs)) (omega (arith, h, map-put.same)) refl) refl (omega (arith, q, h)))
