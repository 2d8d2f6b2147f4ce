-- The map of the fields that are not zeros, and the whole form read back. Assumes nothing.
use mathlib.Core.Bool.{Bool, true, false, cond, not, ◌&&◌, ◌||◌, true≢false}
use mathlib.Core.List.{List, [], ◌∷◌, ◌++◌, append_assoc}
use mathlib.Core.Path.{◌≡◌, refl, sym, ap, ap₂, ◌∙◌, subst}
use Prim.Native.Nat.{ℕ, zero, suc, ◌+◌, ◌*◌, ◌/◌, ◌%◌, ◌^◌, ◌≤◌, ◌<◌}
use native.Mathlib.Nat.{pow-le-pow_right}
use native.Mathlib.Omega.{arith}
use lib.Dec.{eqb}
use lib.ListN.{length, get_or, take, drop, replicate, length-append, length-drop, take-append-drop}
use lib.Seq.{take_at, drop_at, take-add, length-take-le}
use borrow.Author.Tests.{le-leb, eqb-true}
use Rattle.form.proofs.ByteLaws.{Bytes, low-length, number-back, bytes_back}
use Rattle.std.proofs.Common.{Some, None}
use Rattle.form.proofs.TableLaws.{widths-of, marks, rows-back, shown-length, shown-small, standing-small}
use Rattle.form.proofs.ReadLaws.{parsed-long}
use Rattle.form.proofs.FormLaws.{Fits, none, shown, hidden, parse-back, fits-small, stands, parse-only}
use Rattle.form.specs.Rules.Bytes.{low, number, all_zero}
use Rattle.form.specs.declared.table.Row.{Row}
use Rattle.form.specs.Rules.Form.{rows_of, widths, sum, cut, joined, most_rows, odd, bit, map_of, standing, packed, Parsed, parse, map_in, parsed, read, read_fields, unpack_into}
use Rattle.form.specs.Rules.Form.Parsed.{fields}

-- ---- the map's bits
low_bit : (b : Bool) (m : ℕ) → odd (bit b + 2 * m) ≡ b
low_bit true m = let e : (1 + 2 * m) % 2 ≡ 1 = omega arith in ap (λ (z : ℕ). eqb z 1) e
low_bit false m = let e : (0 + 2 * m) % 2 ≡ 0 = omega arith in ap (λ (z : ℕ). eqb z 1) e

high_bits : (b : Bool) (m : ℕ) → (bit b + 2 * m) / 2 ≡ m
high_bits true m = omega arith
high_bits false m = omega arith

no-bit : (k : ℕ) → stands k 0 ≡ false
no-bit zero = refl
no-bit (suc k) = no-bit k

-- a field stands exactly where it is not zeros
pub map-bit : (fs : List (List ℕ)) (k : ℕ) → stands k (map_of fs) ≡ not (all_zero (get_or fs k []))
unfolding map_of all_zero
map-bit [] k = no-bit k
map-bit (f ∷ fs) zero = low_bit (not (all_zero f)) (map_of fs)
map-bit (f ∷ fs) (suc k) = ap (stands k) (high_bits (not (all_zero f)) (map_of fs)) ∙ map-bit fs k

-- ---- a field of zeros is left out
pub left_out : (f : List ℕ) (fs gs : List (List ℕ)) → all_zero f ≡ true
    → length (standing (map_of (fs ++ (f ∷ gs))) (fs ++ (f ∷ gs))) + length f ≤ length (joined (fs ++ (f ∷ gs)))
unfolding standing map_of joined
left_out f [] gs e =
    let m = map_of (f ∷ gs) in
    let hidden = ap (λ (b : Bool). cond b f []) (low_bit (not (all_zero f)) (map_of gs) ∙ ap not e) in
    omega (arith, length-append (cond (odd m) f []) (standing (m / 2) gs), ap length hidden, length-append f (joined gs), standing-small (m / 2) gs)
left_out f (g ∷ fs) gs e =
    let rest = fs ++ (f ∷ gs) in
    let m = map_of (g ∷ rest) in
    let next = ap (λ (k : ℕ). length (standing k rest)) (high_bits (not (all_zero g)) (map_of rest)) in
    omega (arith, length-append (cond (odd m) g []) (standing (m / 2) rest), shown-length (odd m) g, shown-small (odd m) (length g), next, length-append g (joined rest), left_out f fs gs e)

-- ---- it fits them
abbrev pub Sized : List Row → List (List ℕ) → Type 0
Sized [] [] = Unit
Sized [] (f ∷ fs) = ⊥
Sized (r ∷ rs) [] = ⊥
Sized (r ∷ rs) (f ∷ fs) = (length f ≡ r.bytes) × Sized rs fs

and_both : (a b : Bool) → (a && b) ≡ true → (a ≡ true) × (b ≡ true)
and_both true b e = (refl, e)
and_both false b e = absurd (true≢false (sym e))

pub zeros-are : (f : List ℕ) → all_zero f ≡ true → f ≡ replicate (length f) 0
unfolding all_zero
zeros-are [] e = refl
zeros-are (b ∷ f) e =
    let p = and_both (eqb b 0) (all_zero f) e in
    ap₂ (λ (x : ℕ) (l : List ℕ). x ∷ l) (eqb-true b 0 p.0) (zeros-are f p.1)

or_right : (a : Bool) → (a || true) ≡ true
or_right true = refl
or_right false = refl

pub map-fits : (rs : List Row) (fs : List (List ℕ)) → Sized rs fs → Fits rs (map_of fs) fs
unfolding map_of
map-fits [] [] h = none
map-fits [] (f ∷ fs) h = absurd h
map-fits (r ∷ rs) [] h = absurd h
map-fits (r ∷ rs) (f ∷ fs) h = go (map-fits rs fs h.1) (all_zero f) refl
  where
    rest : Fits rs (map_of fs) fs → (b : Bool) → Fits rs ((bit b + 2 * map_of fs) / 2) fs
    rest k b = subst (λ (m : ℕ). Fits rs m fs) (sym (high_bits b (map_of fs))) k

    go : Fits rs (map_of fs) fs → (z : Bool) → all_zero f ≡ z → Fits (r ∷ rs) (bit (not (all_zero f)) + 2 * map_of fs) (f ∷ fs)
    go k true e =
        subst (λ (b : Bool). Fits (r ∷ rs) (bit (not b) + 2 * map_of fs) (f ∷ fs)) (sym e)
        (hidden r rs (bit false + 2 * map_of fs) f fs (low_bit false (map_of fs)) (zeros-are f e ∙ ap (λ (k : ℕ). replicate k 0) h.0) (rest k false))
    go k false e =
        subst (λ (b : Bool). Fits (r ∷ rs) (bit (not b) + 2 * map_of fs) (f ∷ fs)) (sym e)
        (shown r rs (bit true + 2 * map_of fs) f fs (low_bit true (map_of fs)) h.0 (ap (λ (b : Bool). r.zeros || not b) e ∙ or_right r.zeros) (rest k true))

-- ---- the whole form, map and fields
pub map-in : (m : ℕ) (fs : List (List ℕ)) → m < 2 ^ most_rows → map_in (packed m fs) ≡ m
unfolding map_in packed
map-in m fs h = ap number (take_at (low 2 m) (standing m fs) 2 (low-length 2 m)) ∙ number-back 2 m (omega (arith, h))

module _ (rs : List Row) (m : ℕ) (fs : List (List ℕ)) (few : length rs ≤ most_rows) (k : Fits rs m fs) where
  pub map_back : map_in (packed m fs) ≡ m
  map_back =
      let p : 2 ^ length rs ≤ 2 ^ most_rows = pow-le-pow_right {n = 2} (omega arith) few in
      map-in m fs (omega (arith, p, fits-small rs m fs k))

  long-enough : 2 ≤ length (packed m fs)
  unfolding packed
  long-enough = omega (arith, length-append (low 2 m) (standing m fs), low-length 2 m)

  past-map : drop 2 (packed m fs) ≡ standing m fs
  unfolding packed
  past-map = drop_at (low 2 m) (standing m fs) 2 (low-length 2 m)

  pub form-back : parsed rs (packed m fs) ≡ fields fs
  form-back = parsed-long rs (packed m fs) long-enough ∙ ap₂ (parse rs) map_back past-map ∙ parse-back rs m fs k

-- ---- fields that lie end to end
pub cut-sized : (ws : List ℕ) (zs : List Bool) (full : List ℕ) → sum ws ≤ length full → Sized (rows_of ws zs) (cut ws full)
unfolding sum cut rows_of
cut-sized [] zs full h = tt
cut-sized (w ∷ ws) zs full h = (length-take-le w full (omega (arith, h)), cut-sized ws (drop 1 zs) (drop w full) (omega (arith, h, length-drop w full)))

pub joined-cut : (ws full : List ℕ) → joined (cut ws full) ≡ take (sum ws) full
unfolding sum cut joined
joined-cut [] full = refl
joined-cut (w ∷ ws) full = ap (λ (l : List ℕ). take w full ++ l) (joined-cut ws (drop w full)) ∙ sym (take-add w (sum ws) full)

pub cut-joined : (ws : List ℕ) (zs : List Bool) (fs : List (List ℕ)) (rest : List ℕ) → Sized (rows_of ws zs) fs → cut ws (joined fs ++ rest) ≡ fs
unfolding cut joined rows_of
cut-joined [] zs [] rest h = refl
cut-joined [] zs (f ∷ fs) rest h = absurd h
cut-joined (w ∷ ws) zs [] rest h = absurd h
cut-joined (w ∷ ws) zs (f ∷ fs) rest h =
    ap (λ (l : List ℕ). take w l ∷ cut ws (drop w l)) (append_assoc f (joined fs) rest)
    ∙ ap₂ (λ (p q : List ℕ). p ∷ cut ws q) (take_at f (joined fs ++ rest) w h.0) (drop_at f (joined fs ++ rest) w h.0)
    ∙ ap (λ (l : List (List ℕ)). f ∷ l) (cut-joined ws (drop 1 zs) fs rest h.1)

-- both for any table, by its own widths and marks
pub table-sized : (rows : List Row) (full : List ℕ) → sum (widths rows) ≤ length full → Sized rows (cut (widths rows) full)
table-sized rows full h = subst (λ (rs : List Row). Sized rs (cut (widths rows) full)) (rows-back rows) (cut-sized (widths rows) (marks rows) full h)

pub table-joined : (rows : List Row) (fs : List (List ℕ)) (rest : List ℕ) → Sized rows fs → cut (widths rows) (joined fs ++ rest) ≡ fs
table-joined rows fs rest h = cut-joined (widths rows) (marks rows) fs rest (subst (λ (rs : List Row). Sized rs fs) (sym (rows-back rows)) h)

-- what is packed by a map that fits is unpacked: the map, and the fields as they lay
pub saved-back : (rows : List Row) (m : ℕ) (full to : List ℕ) → length rows ≤ most_rows → sum (widths rows) ≤ length full → sum (widths rows) ≤ length to
    → Fits rows m (cut (widths rows) full) → unpack_into rows (packed m (cut (widths rows) full)) to ≡ read (Some m) (take (sum (widths rows)) full ++ drop (sum (widths rows)) to)
unfolding unpack_into
saved-back rows m full to few h room k =
    let ws = widths rows in
    let fs = cut ws full in
    let n : length (take (sum ws) full) ≡ sum ws = length-take-le (sum ws) full h in
    ap (λ (b : Bool). cond b (read_fields (parsed rows (packed m fs)) (map_in (packed m fs)) to) (read None to)) (le-leb (sum ws) (length to) room)
    ∙ ap₂ (λ (p : Parsed) (j : ℕ). read_fields p j to) (form-back rows m fs few k) (map_back rows m fs few k)
    ∙ ap (λ (l : List ℕ). read (Some m) (l ++ drop (length l) to)) (joined-cut ws full)
    ∙ ap (λ (j : ℕ). read (Some m) (take (sum ws) full ++ drop j to)) n

-- so by the map of the fields themselves, which fits them
pub lent-back : (rows : List Row) (full to : List ℕ) → length rows ≤ most_rows → sum (widths rows) ≤ length full → sum (widths rows) ≤ length to
    → unpack_into rows (packed (map_of (cut (widths rows) full)) (cut (widths rows) full)) to
    ≡ read (Some (map_of (cut (widths rows) full))) (take (sum (widths rows)) full ++ drop (sum (widths rows)) to)
lent-back rows full to few h room =
    let fs = cut (widths rows) full in
    saved-back rows (map_of fs) full to few h room (map-fits rows fs (table-sized rows full h))

rows-many : (ws : List ℕ) (zs : List Bool) → length (rows_of ws zs) ≡ length ws
unfolding rows_of
rows-many [] zs = refl
rows-many (w ∷ ws) zs = ap suc (rows-many ws (drop 1 zs))

-- and for a table of widths and marks
abbrev Saved : List Row → ℕ → List ℕ → List ℕ → List ℕ → Type 0
Saved rs m full to ws =
    sum ws ≤ length full → sum ws ≤ length to
    → Fits rs m (cut ws full) → unpack_into rs (packed m (cut ws full)) to ≡ read (Some m) (take (sum ws) full ++ drop (sum ws) to)

pub widths-saved-back : (ws : List ℕ) (zs : List Bool) (m : ℕ) (full to : List ℕ) → length ws ≤ most_rows → sum ws ≤ length full → sum ws ≤ length to
    → Fits (rows_of ws zs) m (cut ws full) → unpack_into (rows_of ws zs) (packed m (cut ws full)) to ≡ read (Some m) (take (sum ws) full ++ drop (sum ws) to)
widths-saved-back ws zs m full to few h room k =
    let rs = rows_of ws zs in
    subst (Saved rs m full to) (widths-of ws zs) (saved-back rs m full to (omega (arith, few, rows-many ws zs))) h room k

-- a saved form is the one that its map and fields have: no other bytes are read
first-bytes : (n : ℕ) (bs : List ℕ) → Bytes bs → Bytes (take n bs)
first-bytes zero bs h i = omega arith
first-bytes (suc n) [] h i = h i
first-bytes (suc n) (b ∷ bs) h zero = h 0
first-bytes (suc n) (b ∷ bs) h (suc i) = first-bytes n bs (λ j. h (suc j)) i

pub one_form : (rs : List Row) (bs : List ℕ) (fs : List (List ℕ)) → Bytes bs → 2 ≤ length bs → parsed rs bs ≡ fields fs → bs ≡ packed (map_in bs) fs
unfolding packed map_in
one_form rs bs fs h l e =
    let o = parse-only rs (map_in bs) (drop 2 bs) fs (sym (parsed-long rs bs l) ∙ e) in
    let n : length (take 2 bs) ≡ 2 = length-take-le 2 bs l in
    sym (take-append-drop 2 bs)
    ∙ ap₂ (λ (p q : List ℕ). p ++ q) (sym (bytes_back (take 2 bs) (first-bytes 2 bs h)) ∙ ap (λ (k : ℕ). low k (number (take 2 bs))) n) o.bytes
