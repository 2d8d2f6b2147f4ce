-- The saved form of any table: what is written is read back, and nothing else is read. Assumes nothing.
use mathlib.Core.Bool.{Bool, true, false, cond, not, ◌&&◌, ◌||◌, true≢false}
use mathlib.Core.List.{List, [], ◌∷◌, ◌++◌}
use mathlib.Core.Path.{◌≡◌, refl, sym, ap, ap₂, ◌∙◌, subst}
use Prim.Native.Nat.{ℕ, zero, suc, ◌+◌, ◌/◌, ◌^◌, ◌≤◌, ◌<◌}
use native.Mathlib.Nat.{pow-suc}
use native.Mathlib.Omega.{arith}
use lib.Dec.{leb, eqb}
use lib.ListN.{length, get_or, take, drop, replicate, length-append, take-append-drop}
use lib.Seq.{take_at, drop_at, length-take-le}
use borrow.Author.Tests.{le-leb, ne_eqb, eqb-true}
use Rattle.form.proofs.ReadLaws.{stand-within}
use Rattle.form.specs.Rules.Bytes.{all_zero}
use Rattle.form.specs.declared.table.Row.{Row}
use Rattle.form.specs.Rules.Form.{odd, standing, Parsed, before, may_stand, parse}
use Rattle.form.specs.Rules.Form.Parsed.{fields, broken}

-- ---- a map fits the fields of a table: what stands may stand, what does not is zeros, and no bit is past the last field
pub data Fits : List Row → ℕ → List (List ℕ) → Type 0 where
  none : Fits [] 0 []
  shown : (r : Row) (rs : List Row) (m : ℕ) (f : List ℕ) (fs : List (List ℕ)) → odd m ≡ true → length f ≡ r.bytes → (r.zeros || not (all_zero f)) ≡ true
      → Fits rs (m / 2) fs → Fits (r ∷ rs) m (f ∷ fs)
  hidden : (r : Row) (rs : List Row) (m : ℕ) (f : List ℕ) (fs : List (List ℕ)) → odd m ≡ false → f ≡ replicate r.bytes 0
      → Fits rs (m / 2) fs → Fits (r ∷ rs) m (f ∷ fs)

may-stand : (r : Row) (f rest : List ℕ) → length f ≡ r.bytes → (r.zeros || not (all_zero f)) ≡ true → may_stand r (f ++ rest) ≡ true
unfolding may_stand
may-stand r f rest l z =
    let e : r.bytes ≤ length (f ++ rest) = omega (arith, length-append f rest, l) in
    ap₂ (λ (b : Bool) (p : List ℕ). b && (r.zeros || not (all_zero p))) (le-leb _ _ e) (take_at f rest r.bytes l) ∙ z

pub parse-back : (rs : List Row) (m : ℕ) (fs : List (List ℕ)) → Fits rs m fs → parse rs m (standing m fs) ≡ fields fs
unfolding parse standing
parse-back all m fs none = refl
parse-back all n all' (shown r rs m f fs o l z k) =
    rw o
    (ap (λ (b : Bool). cond b (before (take r.bytes (f ++ standing (m / 2) fs)) (parse rs (m / 2) (drop r.bytes (f ++ standing (m / 2) fs)))) broken) (may-stand r f (standing (m / 2) fs) l z)
    ∙ ap₂ (λ (p q : List ℕ). before p (parse rs (m / 2) q)) (take_at f (standing (m / 2) fs) r.bytes l) (drop_at f (standing (m / 2) fs) r.bytes l)
    ∙ ap (before f) (parse-back rs (m / 2) fs k))
parse-back all n all' (hidden r rs m f fs o e k) =
    rw o
    (ap (before (replicate r.bytes 0)) (parse-back rs (m / 2) fs k) ∙ ap (λ (g : List ℕ). fields (g ∷ fs)) (sym e))

-- ---- only what is written is read: the map fits the fields, and the bytes are those of the fields that stand
pub record Only (rs : List Row) (m : ℕ) (bs : List ℕ) (fs : List (List ℕ)) : Type 0 where
  pub fits : Fits rs m fs
  pub bytes : bs ≡ standing m fs

abbrev list_of : Parsed → List (List ℕ)
list_of (fields fs) = fs
list_of broken = []

abbrev Broken : Parsed → Type 0
Broken (fields fs) = ⊥
Broken broken = Unit

no-fields : {X : Type 0} (fs : List (List ℕ)) → broken ≡ fields fs → X
no-fields fs e = absurd (subst Broken e tt)

record Split (f : List ℕ) (p : Parsed) (fs : List (List ℕ)) : Type 0 where
  pub rest : List (List ℕ)
  pub read : p ≡ fields rest
  pub all : fs ≡ f ∷ rest

split : (f : List ℕ) (p : Parsed) (fs : List (List ℕ)) → before f p ≡ fields fs → Split f p fs
split f (fields gs) fs e = record { rest = gs; read = refl; all = sym (ap list_of e) }
split f broken fs e = no-fields fs e

and_left : (a b : Bool) → (a && b) ≡ true → a ≡ true
and_left true b e = refl
and_left false b e = absurd (true≢false (sym e))

and_right : (a b : Bool) → (a && b) ≡ true → b ≡ true
and_right true b e = e
and_right false b e = absurd (true≢false (sym e))

no_bytes : (bs : List ℕ) → length bs ≡ 0 → bs ≡ []
no_bytes [] e = refl
no_bytes (b ∷ bs) e = absurd (omega (arith, e))

only_none : (t : Bool) (m : ℕ) (bs : List ℕ) (fs : List (List ℕ)) → (t ≡ true → (m ≡ 0) × (bs ≡ [])) → cond t (fields []) broken ≡ fields fs → Only [] m bs fs
unfolding standing
only_none true m bs fs k e =
    let n : fs ≡ [] = sym (ap list_of e) in
    record {
      fits = subst (λ (z : List (List ℕ)). Fits [] m z) (sym n) (subst (λ (z : ℕ). Fits [] z []) (sym (k refl).0) none);
      bytes = (k refl).1 ∙ sym (ap (standing m) n);
    }
only_none false m bs fs k e = no-fields fs e

only-first : (r : Row) (rs : List Row) (m : ℕ) (bs : List ℕ) (fs : List (List ℕ)) (o s : Bool) → odd m ≡ o → may_stand r bs ≡ s
    → ((cs : List ℕ) (gs : List (List ℕ)) → parse rs (m / 2) cs ≡ fields gs → Only rs (m / 2) cs gs)
    → cond o (cond s (before (take r.bytes bs) (parse rs (m / 2) (drop r.bytes bs))) broken) (before (replicate r.bytes 0) (parse rs (m / 2) bs)) ≡ fields fs
    → Only (r ∷ rs) m bs fs
unfolding standing may_stand
only-first r rs m bs fs true true o s rec e =
    let f = take r.bytes bs in
    let t = split f (parse rs (m / 2) (drop r.bytes bs)) fs e in
    let q = rec (drop r.bytes bs) t.rest t.read in
    record {
      fits =
          subst (λ (z : List (List ℕ)). Fits (r ∷ rs) m z) (sym t.all)
          (shown r rs m f t.rest o (length-take-le r.bytes bs (stand-within r bs s)) (and_right (leb r.bytes (length bs)) (r.zeros || not (all_zero f)) s) q.fits);
      bytes =
          sym (ap (standing m) t.all ∙ ap (λ (b : Bool). cond b f [] ++ standing (m / 2) t.rest) o ∙ ap (λ (z : List ℕ). f ++ z) (sym q.bytes) ∙ take-append-drop r.bytes bs);
    }
only-first r rs m bs fs true false o s rec e = no-fields fs e
only-first r rs m bs fs false s' o s rec e =
    let f : List ℕ = replicate r.bytes 0 in
    let t = split f (parse rs (m / 2) bs) fs e in
    let q = rec bs t.rest t.read in
    record {
      fits = subst (λ (z : List (List ℕ)). Fits (r ∷ rs) m z) (sym t.all) (hidden r rs m f t.rest o refl q.fits);
      bytes = sym (ap (standing m) t.all ∙ ap (λ (b : Bool). cond b f [] ++ standing (m / 2) t.rest) o ∙ sym q.bytes);
    }

pub parse-only : (rs : List Row) (m : ℕ) (bs : List ℕ) (fs : List (List ℕ)) → parse rs m bs ≡ fields fs → Only rs m bs fs
unfolding parse
parse-only [] m bs fs e =
    only_none (eqb m 0 && eqb (length bs) 0) m bs fs
    (λ t. (eqb-true m 0 (and_left (eqb m 0) (eqb (length bs) 0) t), no_bytes bs (eqb-true (length bs) 0 (and_right (eqb m 0) (eqb (length bs) 0) t)))) e
parse-only (r ∷ rs) m bs fs e = only-first r rs m bs fs (odd m) (may_stand r bs) refl refl (λ cs gs. parse-only rs (m / 2) cs gs) e

-- ---- ended short, or bytes left over: the map tells how many bytes there must be
unfoldable pub bytes_for : List Row → ℕ → ℕ
bytes_for [] m = 0
bytes_for (r ∷ rs) m = cond (odd m) r.bytes 0 + bytes_for rs (m / 2)

fits-length : (rs : List Row) (m : ℕ) (fs : List (List ℕ)) → Fits rs m fs → length (standing m fs) ≡ bytes_for rs m
unfolding bytes_for standing
fits-length all m fs none = refl
fits-length all n all' (shown r rs m f fs o l z k) =
    rw o (omega (arith, length-append f (standing (m / 2) fs), l, fits-length rs (m / 2) fs k))
fits-length all n all' (hidden r rs m f fs o e k) =
    rw o (omega (arith, fits-length rs (m / 2) fs k))

pub form-length : (rs : List Row) (m : ℕ) (bs : List ℕ) (fs : List (List ℕ)) → parse rs m bs ≡ fields fs → length bs ≡ bytes_for rs m
form-length rs m bs fs e = let o = parse-only rs m bs fs e in ap length o.bytes ∙ fits-length rs m fs o.fits

pub wrong-length : (rs : List Row) (m : ℕ) (bs : List ℕ) → (length bs ≡ bytes_for rs m → ⊥) → parse rs m bs ≡ broken
wrong-length rs m bs h = go (parse rs m bs) refl
  where
    go : (p : Parsed) → parse rs m bs ≡ p → p ≡ broken
    go (fields fs) e = absurd (h (form-length rs m bs fs e))
    go broken e = refl

-- ---- a bit past the table's last field is refused, whatever else the bytes are
both-broken : (b d : Bool) (f g : List ℕ) (p q : Parsed) → p ≡ broken → q ≡ broken → cond b (cond d (before f p) broken) (before g q) ≡ broken
both-broken true true f g p q e h = ap (before f) e
both-broken true false f g p q e h = refl
both-broken false d f g p q e h = ap (before g) h

half : (k m : ℕ) → 2 ^ suc k ≤ m → 2 ^ k ≤ m / 2
half k m h = omega (arith, h, pow-suc 2 k)

pub unknown-bit : (rs : List Row) (m : ℕ) (bs : List ℕ) → 2 ^ length rs ≤ m → parse rs m bs ≡ broken
unfolding parse
unknown-bit [] m bs h = ap (λ (b : Bool). cond (b && eqb (length bs) 0) (fields []) broken) (ne_eqb m 0 (λ e. omega (arith, h, e)))
unknown-bit (r ∷ rs) m bs h =
    both-broken (odd m) (may_stand r bs) (take r.bytes bs) (replicate r.bytes 0) (parse rs (m / 2) (drop r.bytes bs)) (parse rs (m / 2) bs)
    (unknown-bit rs (m / 2) (drop r.bytes bs) (half (length rs) m h)) (unknown-bit rs (m / 2) bs (half (length rs) m h))

pub fits-small : (rs : List Row) (m : ℕ) (fs : List (List ℕ)) → Fits rs m fs → m < 2 ^ length rs
fits-small all m fs none = omega arith
fits-small all n all' (shown r rs m f fs o l z k) = omega (arith, fits-small rs (m / 2) fs k, pow-suc 2 (length rs))
fits-small all n all' (hidden r rs m f fs o e k) = omega (arith, fits-small rs (m / 2) fs k, pow-suc 2 (length rs))

-- ---- a field that stands is not zeros, unless its row allows it; one that does not is zeros
abbrev pub stands : ℕ → ℕ → Bool
stands zero m = odd m
stands (suc k) m = stands k (m / 2)

abbrev row_at : List Row → ℕ → Row
row_at rs k = get_or rs k (record { bytes = 0; zeros = false })

or-false : (a b : Bool) → (a || b) ≡ true → a ≡ false → b ≡ true
or-false true b e h = absurd (true≢false h)
or-false false b e h = e

not_is : (b : Bool) → not b ≡ true → b ≡ false
not_is true e = absurd (true≢false (sym e))
not_is false e = refl

pub no-zeros : (rs : List Row) (m : ℕ) (fs : List (List ℕ)) (k : ℕ) → Fits rs m fs → stands k m ≡ true → (row_at rs k).zeros ≡ false → k < length rs → all_zero (get_or fs k []) ≡ false
no-zeros all m fs k none s z h = absurd (omega (arith, h))
no-zeros all n all' zero (shown r rs m f fs o l y t) s z h = not_is (all_zero f) (or-false r.zeros (not (all_zero f)) y z)
no-zeros all n all' (suc k) (shown r rs m f fs o l y t) s z h = no-zeros rs (m / 2) fs k t s z (omega (arith, h))
no-zeros all n all' zero (hidden r rs m f fs o e t) s z h = absurd (true≢false (sym s ∙ o))
no-zeros all n all' (suc k) (hidden r rs m f fs o e t) s z h = no-zeros rs (m / 2) fs k t s z (omega (arith, h))

zeros-zero : (n : ℕ) → all_zero (replicate n 0) ≡ true
unfolding all_zero
zeros-zero zero = refl
zeros-zero (suc n) = zeros-zero n

pub left-out-zeros : (rs : List Row) (m : ℕ) (fs : List (List ℕ)) (k : ℕ) → Fits rs m fs → stands k m ≡ false → k < length rs → all_zero (get_or fs k []) ≡ true
left-out-zeros all m fs k none s h = absurd (omega (arith, h))
left-out-zeros all n all' zero (shown r rs m f fs o l y t) s h = absurd (true≢false (sym o ∙ s))
left-out-zeros all n all' (suc k) (shown r rs m f fs o l y t) s h = left-out-zeros rs (m / 2) fs k t s (omega (arith, h))
left-out-zeros all n all' zero (hidden r rs m f fs o e t) s h = ap all_zero e ∙ zeros-zero r.bytes
left-out-zeros all n all' (suc k) (hidden r rs m f fs o e t) s h = left-out-zeros rs (m / 2) fs k t s (omega (arith, h))

-- of bytes: a field of zeros that stands is refused
pub standing-zeros : (rs : List Row) (m : ℕ) (bs : List ℕ) (fs : List (List ℕ)) (k : ℕ) → parse rs m bs ≡ fields fs → stands k m ≡ true → (row_at rs k).zeros ≡ false
    → k < length rs → all_zero (get_or fs k []) ≡ true → ⊥
standing-zeros rs m bs fs k e s z h a = true≢false (sym a ∙ no-zeros rs m fs k (parse-only rs m bs fs e).fits s z h)
