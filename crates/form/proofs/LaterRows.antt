-- Rows that an order adds at a table's end: fields of zeros there change nothing that is written, what the table read before it reads as
-- before, and a table without them refuses a form in which one stands. Assumes nothing.
use mathlib.Core.Bool.{Bool, true, false, cond, not, true≢false}
use mathlib.Core.List.{List, [], ◌∷◌, ◌++◌}
use mathlib.Core.Path.{◌≡◌, refl, sym, ap, ◌∙◌, subst}
use Prim.Native.Nat.{ℕ, zero, suc, ◌+◌, ◌*◌, ◌/◌, ◌^◌, ◌≤◌, ◌<◌}
use native.Mathlib.Nat.{pow-suc}
use native.Mathlib.Omega.{arith}
use lib.Dec.{ltb}
use lib.ListN.{length, get_or, drop, replicate}
use Rattle.form.proofs.ByteLaws.{number-back}
use Rattle.form.proofs.TableLaws.{map_below}
use Rattle.form.proofs.FormLaws.{Fits, none, shown, hidden, parse-back, parse-only, unknown-bit, fits-small}
use Rattle.form.proofs.MapLaws.{zeros-are}
use Rattle.form.specs.Rules.Bytes.{low, number, all_zero}
use Rattle.form.specs.declared.table.Row.{Row}
use Rattle.form.specs.Rules.Form.{odd, bit, map_of, standing, packed, Parsed, parse, map_in, parsed}
use Rattle.form.specs.Rules.Form.Parsed.{fields, broken}

-- ---- writing

none-stands : (gs : List (List ℕ)) → standing 0 gs ≡ []
unfolding standing
none-stands [] = refl
none-stands (g ∷ gs) = none-stands gs

-- fields past the map's bits do not stand
pub standing-past : (m : ℕ) (fs gs : List (List ℕ)) → m < 2 ^ length fs → standing m (fs ++ gs) ≡ standing m fs
unfolding standing
standing-past m [] gs h = let z : m ≡ 0 = omega (arith, h) in ap (λ (k : ℕ). standing k gs) z ∙ none-stands gs
standing-past m (f ∷ fs) gs h =
    ap (λ (l : List ℕ). cond (odd m) f [] ++ l) (standing-past (m / 2) fs gs (omega (arith, h, pow-suc 2 (length fs))))

map-past : (fs gs : List (List ℕ)) → map_of gs ≡ 0 → map_of (fs ++ gs) ≡ map_of fs
unfolding map_of
map-past [] gs e = e
map-past (f ∷ fs) gs e = ap (λ (k : ℕ). bit (not (all_zero f)) + 2 * k) (map-past fs gs e)

pub packed-past : (fs gs : List (List ℕ)) → map_of gs ≡ 0 → packed (map_of (fs ++ gs)) (fs ++ gs) ≡ packed (map_of fs) fs
unfolding packed
packed-past fs gs e =
    ap (λ (m : ℕ). packed m (fs ++ gs)) (map-past fs gs e)
    ∙ ap (λ (l : List ℕ). low 2 (map_of fs) ++ l) (standing-past (map_of fs) fs gs (map_below fs))

-- ---- reading

-- what rows that do not stand are read as
unfoldable pub no_fields : List Row → List (List ℕ)
no_fields [] = []
no_fields (r ∷ rs) = replicate r.bytes 0 ∷ no_fields rs

fits-none : (qs : List Row) → Fits qs 0 (no_fields qs)
unfolding no_fields
fits-none [] = none
fits-none (q ∷ qs) = hidden q qs 0 (replicate q.bytes 0) (no_fields qs) refl refl (fits-none qs)

fits-past : (qs rs : List Row) (m : ℕ) (fs : List (List ℕ)) → Fits rs m fs → Fits (rs ++ qs) m (fs ++ no_fields qs)
fits-past qs all m fs none = fits-none qs
fits-past qs all n all' (shown r rs m f fs o l z k) = shown r (rs ++ qs) m f (fs ++ no_fields qs) o l z (fits-past qs rs (m / 2) fs k)
fits-past qs all n all' (hidden r rs m f fs o e k) = hidden r (rs ++ qs) m f (fs ++ no_fields qs) o e (fits-past qs rs (m / 2) fs k)

fits-many : (rs : List Row) (m : ℕ) (fs : List (List ℕ)) → Fits rs m fs → length fs ≡ length rs
fits-many all m fs none = refl
fits-many all n all' (shown r rs m f fs o l z k) = ap suc (fits-many rs (m / 2) fs k)
fits-many all n all' (hidden r rs m f fs o e k) = ap suc (fits-many rs (m / 2) fs k)

parse-past : (rs qs : List Row) (m : ℕ) (bs : List ℕ) (fs : List (List ℕ)) → parse rs m bs ≡ fields fs → parse (rs ++ qs) m bs ≡ fields (fs ++ no_fields qs)
parse-past rs qs m bs fs e =
    let o = parse-only rs m bs fs e in
    let small = subst (λ (k : ℕ). m < 2 ^ k) (sym (fits-many rs m fs o.fits)) (fits-small rs m fs o.fits) in
    ap (parse (rs ++ qs) m) (o.bytes ∙ sym (standing-past m fs (no_fields qs) small)) ∙ parse-back (rs ++ qs) m (fs ++ no_fields qs) (fits-past qs rs m fs o.fits)

abbrev IsBroken : Parsed → Type 0
IsBroken (fields fs) = ⊥
IsBroken broken = Unit

pub parsed-past : (rs qs : List Row) (bs : List ℕ) (fs : List (List ℕ)) → parsed rs bs ≡ fields fs → parsed (rs ++ qs) bs ≡ fields (fs ++ no_fields qs)
unfolding parsed
parsed-past rs qs bs fs e = go (ltb (length bs) 2) e
  where
    go : (b : Bool) → cond b broken (parse rs (map_in bs) (drop 2 bs)) ≡ fields fs → cond b broken (parse (rs ++ qs) (map_in bs) (drop 2 bs)) ≡ fields (fs ++ no_fields qs)
    go true q = absurd (subst IsBroken q tt)
    go false q = parse-past rs qs (map_in bs) (drop 2 bs) fs q

-- a field for each row
pub parsed-many : (rs : List Row) (bs : List ℕ) (fs : List (List ℕ)) → parsed rs bs ≡ fields fs → length fs ≡ length rs
unfolding parsed
parsed-many rs bs fs e = go (ltb (length bs) 2) e
  where
    go : (b : Bool) → cond b broken (parse rs (map_in bs) (drop 2 bs)) ≡ fields fs → length fs ≡ length rs
    go true q = absurd (subst IsBroken q tt)
    go false q = fits-many rs (map_in bs) fs (parse-only rs (map_in bs) (drop 2 bs) fs q).fits

-- ---- a bit past the table's last row

-- whatever else stands, and whatever the bytes are
pub later-refused : (rs : List Row) (bs : List ℕ) → 2 ^ length rs ≤ map_in bs → parsed rs bs ≡ broken
unfolding parsed
later-refused rs bs h = go (ltb (length bs) 2)
  where
    go : (b : Bool) → cond b broken (parse rs (map_in bs) (drop 2 bs)) ≡ broken
    go true = refl
    go false = unknown-bit rs (map_in bs) (drop 2 bs) h

-- a field that is not zeros has its bit in the map
pub map_at : (fs : List (List ℕ)) (k : ℕ) → all_zero (get_or fs k []) ≡ false → 2 ^ k ≤ map_of fs
unfolding map_of all_zero
map_at [] k e = absurd (true≢false e)
map_at (f ∷ fs) zero e = subst (λ (b : Bool). 1 ≤ bit (not b) + 2 * map_of fs) (sym e) (omega arith)
map_at (f ∷ fs) (suc k) e = omega (arith, map_at fs k e, pow-suc 2 k)

-- the bytes of 0 are zeros, those of another number are not
pub zeros-low : (k : ℕ) → all_zero (low k 0) ≡ true
unfolding low all_zero
zeros-low zero = refl
zeros-low (suc k) = zeros-low k

pub number-zeros : (k : ℕ) → number (replicate k 0) ≡ 0
unfolding number
number-zeros zero = refl
number-zeros (suc k) = omega (arith, number-zeros k)

pub some_byte : (k v : ℕ) → 0 < v → v < 256 ^ k → all_zero (low k v) ≡ false
some_byte k v p h = go (all_zero (low k v)) refl
  where
    go : (z : Bool) → all_zero (low k v) ≡ z → z ≡ false
    go true e = absurd (omega (arith, ap number (zeros-are (low k v) e) ∙ number-zeros (length (low k v)), number-back k v h, p))
    go false e = refl
