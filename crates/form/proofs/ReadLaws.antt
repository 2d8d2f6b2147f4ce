-- Reading a saved form row by row. Assumes nothing.
use Prim.Native.Nat.{ℕ, ◌+◌, ◌-◌, ◌/◌, ◌≤◌, ◌<◌}
use mathlib.Core.Path.{◌≡◌, refl, sym, ap, ap₂, ◌∙◌, subst}
use mathlib.Core.Bool.{Bool, true, false, cond, not, ◌&&◌, ◌||◌, true≢false}
use mathlib.Core.List.{List, [], ◌∷◌, ◌++◌}
use native.Mathlib.Omega.{arith}
use lib.ListN.{length, take, drop, replicate, length-append, length-drop, length-replicate}
use lib.Seq.{length-take-le}
use lib.Dec.{leb, eqb}
use borrow.Author.Tests.{le-leb, lt-leb, leb-true, lt-ltb, le-ltb}
use Rattle.std.proofs.Common.{Option, Some, None}
use Rattle.form.proofs.Filling.{Filling, part-on, part_length}
use Rattle.form.proofs.TableLaws.{same-bit}
use Rattle.form.specs.Rules.Bytes.{all_zero}
use Rattle.form.specs.declared.table.Row.{Row}
use Rattle.form.specs.Rules.Form.{widths, sum, joined, odd, may_stand, Parsed, before, parse, map_in, parsed, Read, read, read_fields, unpack_into}
use Rattle.form.specs.Rules.Form.Parsed.{fields, broken}
use Rattle.form.specs.Steps.Form.{field_step, whole, standing_sum, fields_in}

-- ---- the bytes after a field that stands or not
and_left : (a b : Bool) → (a && b) ≡ true → a ≡ true
and_left true b e = refl
and_left false b e = e

pub stand-within : (r : Row) (bs : List ℕ) → may_stand r bs ≡ true → r.bytes ≤ length bs
unfolding may_stand
stand-within r bs e = leb-true _ _ (and_left _ _ e)

module _ (on : Bool) (r : Row) (bs : List ℕ) where
  abbrev stepped : Bool → Bool → Option (List ℕ)
  stepped a b = cond a (cond b (Some (drop r.bytes bs)) None) (Some bs)

  pub step_left : on ≡ false → field_step on r bs ≡ Some bs
  unfolding field_step
  step_left e = ap (λ (a : Bool). stepped a (may_stand r bs)) e

  pub step-short : on ≡ true → length bs < r.bytes → field_step on r bs ≡ None
  unfolding field_step may_stand
  step-short e h = ap₂ (λ (a b : Bool). stepped a (b && (r.zeros || not (all_zero (take r.bytes bs))))) e (lt-leb r.bytes (length bs) h)

  pub step-tested : (v : Bool) → on ≡ true → r.bytes ≤ length bs → v ≡ (r.zeros || not (all_zero (take r.bytes bs))) → field_step on r bs ≡ cond v (Some (drop r.bytes bs)) None
  unfolding field_step may_stand
  step-tested v e h q = ap₂ (λ (a b : Bool). stepped a (b && (r.zeros || not (all_zero (take r.bytes bs))))) e (le-leb r.bytes (length bs) h) ∙ sym (ap (stepped true) q)

-- ---- one row of a form
whole_before : (f : List ℕ) (p : Parsed) → whole (before f p) ≡ whole p
whole_before f (fields fs) = refl
whole_before f broken = refl

-- what the rest of the rows makes of it
on-from : (on may : Bool) (f g x y cs : List ℕ) (rs : List Row) (m : ℕ) → cond on (cond may (Some x) None) (Some y) ≡ Some cs
    → whole (cond on (cond may (before f (parse rs m x)) broken) (before g (parse rs m y))) ≡ whole (parse rs m cs)
on-from true true f g x y cs rs m e = whole_before f (parse rs m x) ∙ ap (λ (z : List ℕ). whole (parse rs m z)) (cc)
on-from true false f g x y cs rs m e = cc
on-from false may f g x y cs rs m e = whole_before g (parse rs m y) ∙ ap (λ (z : List ℕ). whole (parse rs m z)) (cc)

off-from : (on may : Bool) (f g x y : List ℕ) (p q : Parsed) → cond on (cond may (Some x) None) (Some y) ≡ None → whole (cond on (cond may (before f p) broken) (before g q)) ≡ false
off-from true true f g x y p q e = cc
off-from true false f g x y p q e = refl
off-from false may f g x y p q e = cc

module _ (rows rs : List Row) (r : Row) (m m' : ℕ) (bs : List ℕ) (on : Bool) (e : rows ≡ r ∷ rs) (o : Some on ≡ Some (odd m)) (half : m' ≡ m / 2) where
  step-is : field_step (odd m) r bs ≡ field_step on r bs
  step-is = ap (λ (b : Bool). field_step b r bs) (sym (same-bit on (odd m) o))

  pub form-on : (cs : List ℕ) → field_step on r bs ≡ Some cs → whole (parse rows m bs) ≡ whole (parse rs m' cs)
  unfolding parse field_step
  form-on cs h =
      ap (λ (l : List Row). whole (parse l m bs)) e
      ∙ on-from (odd m) (may_stand r bs) (take r.bytes bs) (replicate r.bytes 0) (drop r.bytes bs) bs cs rs (m / 2) (step-is ∙ h)
      ∙ ap (λ (k : ℕ). whole (parse rs k cs)) (sym half)

  pub form-off : field_step on r bs ≡ None → whole (parse rows m bs) ≡ false
  unfolding parse field_step
  form-off h = ap (λ (l : List Row). whole (parse l m bs)) e ∙ off-from (odd m) (may_stand r bs) (take r.bytes bs) (replicate r.bytes 0) (drop r.bytes bs) bs _ _ (step-is ∙ h)

-- ---- after the last row
whole-cond : (b : Bool) → whole (cond b (fields []) broken) ≡ b
whole-cond true = refl
whole-cond false = refl

pub form-end : (rows : List Row) (m : ℕ) (bs : List ℕ) → rows ≡ [] → whole (parse rows m bs) ≡ (eqb m 0 && eqb (length bs) 0)
unfolding parse
form-end rows m bs e = ap (λ (l : List Row). whole (parse l m bs)) e ∙ whole-cond _

-- ---- the fields one after another
pub fields-none : (rows : List Row) (m : ℕ) (bs : List ℕ) → length rows ≡ 0 → joined (fields_in (widths rows) m bs) ≡ []
unfolding joined fields_in
fields-none [] m bs e = refl
fields-none (r ∷ rows) m bs e = absurd (omega (arith, e))

pub field-length : (b : Bool) (w : ℕ) (bs : List ℕ) → cond b w 0 ≤ length bs → length (cond b (take w bs) (replicate w 0)) ≡ w
field-length true w bs h = length-take-le w bs h
field-length false w bs h = length-replicate w 0

rest-long : (b : Bool) (w n : ℕ) (bs : List ℕ) → cond b w 0 + n ≤ length bs → n ≤ length (cond b (drop w bs) bs)
rest-long true w n bs h = omega (arith, h, length-drop w bs)
rest-long false w n bs h = omega (arith, h)

pub joined_length : (ws : List ℕ) (m : ℕ) (bs : List ℕ) → standing_sum ws m ≤ length bs → length (joined (fields_in ws m bs)) ≡ sum ws
unfolding joined fields_in sum standing_sum
joined_length [] m bs h = refl
joined_length (w ∷ ws) m bs h =
    let f = cond (odd m) (take w bs) (replicate w 0) in
    let k : cond (odd m) w 0 ≤ length bs = omega (arith, h) in
    omega (
      arith,
      length-append f (joined (fields_in ws (m / 2) (cond (odd m) (drop w bs) bs))),
      field-length (odd m) w bs k,
      joined_length ws (m / 2) (cond (odd m) (drop w bs) bs) (rest-long (odd m) w (standing_sum ws (m / 2)) bs h),
    )

-- ---- a saved form: its bytes are enough, and its fields are these
whole-taken : (on may : Bool) (f g : List ℕ) (p q : Parsed) → whole (cond on (cond may (before f p) broken) (before g q)) ≡ true
    → (on ≡ true → may ≡ true) × (whole (cond on p q) ≡ true)
whole-taken true true f g p q e = (λ o. refl, sym (whole_before f p) ∙ e)
whole-taken true false f g p q e = absurd (true≢false (sym e))
whole-taken false may f g p q e = (λ o. absurd (true≢false (sym o)), sym (whole_before g q) ∙ e)

enough-first : (on may : Bool) (w n : ℕ) (bs : List ℕ) → (on ≡ true → may ≡ true) → (may ≡ true → w ≤ length bs) → (on ≡ true → n ≤ length (drop w bs)) → (on ≡ false → n ≤ length bs)
    → cond on w 0 + n ≤ length bs
enough-first true may w n bs m h g k = omega (arith, h (m refl), g refl, length-drop w bs)
enough-first false may w n bs m h g k = omega (arith, k refl)

pub form-enough : (rows : List Row) (m : ℕ) (bs : List ℕ) → whole (parse rows m bs) ≡ true → standing_sum (widths rows) m ≤ length bs
unfolding parse standing_sum
form-enough [] m bs e = omega arith
form-enough (r ∷ rs) m bs e =
    let w = r.bytes in
    let t = whole-taken (odd m) (may_stand r bs) (take w bs) (replicate w 0) (parse rs (m / 2) (drop w bs)) (parse rs (m / 2) bs) e in
    enough-first (odd m) (may_stand r bs) w (standing_sum (widths rs) (m / 2)) bs t.0 (stand-within r bs)
    (λ o. form-enough rs (m / 2) (drop w bs) (sym (ap (λ (b : Bool). whole (cond b (parse rs (m / 2) (drop w bs)) (parse rs (m / 2) bs))) o) ∙ t.1))
    (λ o. form-enough rs (m / 2) bs (sym (ap (λ (b : Bool). whole (cond b (parse rs (m / 2) (drop w bs)) (parse rs (m / 2) bs))) o) ∙ t.1))

fields-first : (on may : Bool) (f g : List ℕ) (p q : Parsed) (fs gs : List (List ℕ)) → (on ≡ true → may ≡ true) → (on ≡ true → p ≡ fields fs) → (on ≡ false → q ≡ fields gs)
    → cond on (cond may (before f p) broken) (before g q) ≡ fields (cond on f g ∷ cond on fs gs)
fields-first true true f g p q fs gs m e n = ap (before f) (e refl)
fields-first true false f g p q fs gs m e n = absurd (true≢false (sym (m refl)))
fields-first false may f g p q fs gs m e n = ap (before g) (n refl)

cond-fields : (b : Bool) (ws : List ℕ) (m : ℕ) (p q : List ℕ) → cond b (fields_in ws m p) (fields_in ws m q) ≡ fields_in ws m (cond b p q)
cond-fields true ws m p q = refl
cond-fields false ws m p q = refl

pub form-fields : (rows : List Row) (m : ℕ) (bs : List ℕ) → whole (parse rows m bs) ≡ true → parse rows m bs ≡ fields (fields_in (widths rows) m bs)
unfolding parse fields_in
form-fields [] m bs e = none (eqb m 0 && eqb (length bs) 0) e
  where
    none : (b : Bool) → whole (cond b (fields []) broken) ≡ true → cond b (fields []) broken ≡ fields []
    none true e = refl
    none false e = absurd (true≢false (sym e))
form-fields (r ∷ rs) m bs e =
    let w = r.bytes in
    let ws = widths rs in
    let t = whole-taken (odd m) (may_stand r bs) (take w bs) (replicate w 0) (parse rs (m / 2) (drop w bs)) (parse rs (m / 2) bs) e in
    fields-first (odd m) (may_stand r bs) (take w bs) (replicate w 0) (parse rs (m / 2) (drop w bs)) (parse rs (m / 2) bs) (fields_in ws (m / 2) (drop w bs)) (fields_in ws (m / 2) bs) t.0
    (λ o. form-fields rs (m / 2) (drop w bs) (sym (ap (λ (b : Bool). whole (cond b (parse rs (m / 2) (drop w bs)) (parse rs (m / 2) bs))) o) ∙ t.1))
    (λ o. form-fields rs (m / 2) bs (sym (ap (λ (b : Bool). whole (cond b (parse rs (m / 2) (drop w bs)) (parse rs (m / 2) bs))) o) ∙ t.1))
    ∙ ap (λ (fs : List (List ℕ)). fields (cond (odd m) (take w bs) (replicate w 0) ∷ fs)) (cond-fields (odd m) ws (m / 2) (drop w bs) bs)

-- one field more goes to its place
module _ (rows rs : List Row) (r : Row) (full full₀ all left : List ℕ) (m m' from : ℕ) (on : Bool) (e : rows ≡ r ∷ rs) (o : Some on ≡ Some (odd m)) (half : m' ≡ m / 2)
    (enough : standing_sum (widths rows) m ≤ length left) (room : from + sum (widths rows) ≤ length full₀) (f : Filling full full₀ all from (joined (fields_in (widths rows) m left))) where
  abbrev w : ℕ
  w = r.bytes

  abbrev part : List ℕ
  part = take (from + w - from) (drop from full)

  bit-on : on ≡ odd m
  bit-on = same-bit on (odd m) o

  all-room : from + (w + sum (widths rs)) ≤ length full₀
  unfolding sum
  all-room = subst (λ (l : List Row). from + sum (widths l) ≤ length full₀) e room

  pub spread-room : from + w ≤ length full
  spread-room = omega (arith, all-room, f.same)

  own-length : length part ≡ w
  own-length = part_length full from w spread-room

  needs : cond on w 0 + standing_sum (widths rs) m' ≤ length left
  unfolding standing_sum
  needs =
      let h = subst (λ (l : List Row). standing_sum (widths l) m ≤ length left) e enough in
      omega (arith, h, ap₂ (λ (b : Bool) (k : ℕ). cond b w 0 + standing_sum (widths rs) k) bit-on half)

  pub spread-enough : cond on (length part) 0 ≤ length left
  spread-enough = omega (arith, needs, ap (λ (n : ℕ). cond on n 0) own-length)

  module _ (after p : List ℕ) (q : after ≡ cond on (drop (length part) left) left) (h : p ≡ cond on (take (length part) left) (replicate (length part) 0)) where
    after-is : after ≡ cond on (drop w left) left
    after-is = q ∙ ap (λ (n : ℕ). cond on (drop n left) left) own-length

    pub spread-more : (standing_sum (widths rs) m' ≤ length after) × (from + w + sum (widths rs) ≤ length full₀)
        × Filling (take from full ++ (p ++ drop (from + w - from) (drop from full))) full₀ all (from + w) (joined (fields_in (widths rs) m' after))
    unfolding joined fields_in
    spread-more =
        let a = cond on (take w left) (replicate w 0) in
        let g : cond on w 0 ≤ length left = omega (arith, needs) in
        let n : from + length a ≡ from + w = ap (λ (j : ℕ). from + j) (field-length on w left g) in (
          subst (λ (l : List ℕ). standing_sum (widths rs) m' ≤ length l) (sym after-is) (rest-long on w _ left needs),
          omega (arith, all-room),
          part-on p a (joined (fields_in (widths rs) m' after)) (from + w) (from + w) f
              (ap (λ (l : List Row). joined (fields_in (widths l) m left)) e
              ∙ ap₂ (λ (b : Bool) (k : ℕ). cond b (take w left) (replicate w 0) ++ joined (fields_in (widths rs) k (cond b (drop w left) left))) (sym bit-on) (sym half)
              ∙ ap (λ (l : List ℕ). a ++ joined (fields_in (widths rs) m' l)) (sym after-is))
              (h ∙ ap (λ (j : ℕ). cond on (take j left) (replicate j 0)) own-length) n spread-room refl,
        )

-- ---- the whole form
pub parsed-short : (rs : List Row) (bs : List ℕ) → length bs < 2 → parsed rs bs ≡ broken
unfolding parsed
parsed-short rs bs h = ap (λ (b : Bool). cond b broken (parse rs (map_in bs) (drop 2 bs))) (lt-ltb (length bs) 2 h)

pub parsed-long : (rs : List Row) (bs : List ℕ) → 2 ≤ length bs → parsed rs bs ≡ parse rs (map_in bs) (drop 2 bs)
unfolding parsed
parsed-long rs bs h = ap (λ (b : Bool). cond b broken (parse rs (map_in bs) (drop 2 bs))) (le-ltb (length bs) 2 h)

pub not-whole : (p : Parsed) → whole p ≡ false → p ≡ broken
not-whole (fields fs) e = absurd (true≢false e)
not-whole broken e = refl

either : {A : Type 0} (b : Bool) (x : A) → x ≡ cond b x x
either true x = refl
either false x = refl

module _ (rows : List Row) (bs full : List ℕ) where
  abbrev into : Bool → Parsed → Read
  into b p = cond b (read_fields p (map_in bs) full) (read None full)

  pub unpack-broken : parsed rows bs ≡ broken → read None full ≡ unpack_into rows bs full
  unfolding unpack_into
  unpack-broken h = either (leb (sum (widths rows)) (length full)) (read None full) ∙ ap (into (leb (sum (widths rows)) (length full))) (sym h)

  pub unpack-short : leb (sum (widths rows)) (length full) ≡ false → read None full ≡ unpack_into rows bs full
  unfolding unpack_into
  unpack-short h = sym (ap (λ (b : Bool). into b (parsed rows bs)) h)

  pub unpack-whole : (m : ℕ) (full' : List ℕ) → m ≡ map_in bs → leb (sum (widths rows)) (length full) ≡ true → 2 ≤ length bs → whole (parse rows m (drop 2 bs)) ≡ true
      → full' ≡ joined (fields_in (widths rows) m (drop 2 bs)) ++ drop (length (joined (fields_in (widths rows) m (drop 2 bs)))) full → read (Some m) full' ≡ unpack_into rows bs full
  unfolding unpack_into
  unpack-whole m full' e r h w q =
      ap (read (Some m)) q
      ∙ ap (λ (k : ℕ). read_fields (fields (fields_in (widths rows) m (drop 2 bs))) k full) e
      ∙ ap (λ (p : Parsed). read_fields p (map_in bs) full) (sym (parsed-long rows bs h ∙ ap (λ (k : ℕ). parse rows k (drop 2 bs)) (sym e) ∙ form-fields rows m (drop 2 bs) w))
      ∙ sym (ap (λ (b : Bool). into b (parsed rows bs)) r)
