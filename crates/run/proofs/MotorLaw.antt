-- The joint motor's speed is the product cut at both ends: a product by 50 has the sign of its factor, and a float times 1 is itself. So the Rust's
-- sign times the lesser size is the same float, at −0, at the infinities and at NaN too. Assumes nothing.
use mathlib.Core.Path.{◌≡◌, refl, sym, ap, ap₂, ◌∙◌, subst}
use Prim.Native.Nat.{ℕ, ◌*◌}
use native.Mathlib.Nat.{one-mul}
use mathlib.Core.Bool.{Bool, true, false, cond}
use lib.IntN.{ℤ, pos}
use lib.Dec.{T}
use lib.Ieee.{Float, nan, inf, fin, binary64, up, down, round, mul, neg, lt, is_nan, fits, of_bits, of_int}
use lib.Ieee.Fits.{mul-fits}
use Rattle.course.specs.Rules.Arithmetic.{◌⊖◌, ◌⊗◌, natural}
use Rattle.std.proofs.lemmas.Float.{lt_trans, lt_irrefl}
use Rattle.course.specs.Rules.Numeric.{abs_of, clamp_of, min_of, signum_of}
use Rattle.course.proofs.Bounds.{plain, plain-round, neg-round}
use Rattle.course.proofs.OwnValue.{own_value}
use Rattle.run.specs.Rules.Dynamics.{motor_of}

-- ---- the code's literals

abbrev one : Float
one = fin false 1 (pos 0)

abbrev pub three : Float
three = fin false 3 (pos 0)

abbrev pub fifty : Float
fifty = fin false 25 (pos 1)

-- ---- a float with no minus sign times 1, and times −1

times-one : (z : Float) → T (plain z) → T (fits binary64 z) → one ⊗ z ≡ z
unfolding mul
times-one nan p F = absurd p
times-one (inf true) p F = absurd p
times-one (inf false) p F = refl
times-one (fin true m e) p F = absurd p
times-one (fin false m e) p F = ap₂ (round binary64 false) (one-mul (m * up e)) (one-mul (down e)) ∙ own_value m e F

times-minus-one : (z : Float) → T (plain z) → T (fits binary64 z) → neg one ⊗ z ≡ neg z
unfolding mul neg
times-minus-one nan p F = absurd p
times-minus-one (inf true) p F = absurd p
times-minus-one (inf false) p F = refl
times-minus-one (fin true m e) p F = absurd p
times-minus-one (fin false m e) p F =
    ap₂ (round binary64 true) (one-mul (m * up e)) (one-mul (down e)) ∙ neg-round binary64 (m * up e) (down e) ∙ ap neg (own_value m e F)

-- ---- where a float with no minus sign stands

number : (z : Float) → T (plain z) → is_nan z ≡ false
unfolding is_nan
number nan p = absurd p
number (inf s) p = refl
number (fin s m e) p = refl

not-under : (z : Float) → T (plain z) → lt z (neg three) ≡ false
unfolding lt neg
not-under nan p = absurd p
not-under (inf true) p = absurd p
not-under (inf false) p = refl
not-under (fin true m e) p = absurd p
not-under (fin false m e) p = refl

-- ---- cut at both ends

abbrev cut : Float → Float
cut v =
    let w = cond (lt three v) three v in
    cond (lt w (neg three)) (neg three) w

-- the other sign turns the order
turned : (z : Float) → T (plain z) → (lt three (neg z) ≡ false) × (lt (neg z) (neg three) ≡ lt three z)
unfolding lt neg
turned nan p = absurd p
turned (inf true) p = absurd p
turned (inf false) p = (refl, refl)
turned (fin true m e) p = absurd p
turned (fin false m e) p = (refl, refl)

plus : (z : Float) → T (plain z) → T (fits binary64 z) → (b : Bool) → lt three z ≡ b → cut z ≡ one ⊗ min_of z three
unfolding min_of lt neg mul
plus z p F true h = rw (h)
plus z p F false h = rw (h, not-under z p, number z p, times-one z p F)

minus : (z : Float) → T (plain z) → T (fits binary64 z) → (b : Bool) → lt three z ≡ b → cut (neg z) ≡ neg one ⊗ min_of z three
unfolding min_of neg mul
minus z p F true h = rw ((turned z p).0, (turned z p).1, h)
minus z p F false h = rw ((turned z p).0, (turned z p).1, h, number z p, times-minus-one z p F)

-- ---- the two signs of a product by 50

product-plain : (m : ℕ) (e : ℤ) → T (plain (fifty ⊗ fin false m e))
unfolding mul
product-plain m e = plain-round binary64 (50 * (m * up e)) (1 * down e)

product-minus : (m : ℕ) (e : ℤ) → fifty ⊗ fin true m e ≡ neg (fifty ⊗ fin false m e)
unfolding mul
product-minus m e = neg-round binary64 (50 * (m * up e)) (1 * down e)

at-difference : (d : Float) → cut (fifty ⊗ d) ≡ signum_of d ⊗ min_of (fifty ⊗ abs_of d) three
unfolding signum_of abs_of min_of lt neg mul natural of_int
at-difference nan = refl
at-difference (inf true) = refl
at-difference (inf false) = refl
at-difference (fin false m e) = let z = fifty ⊗ fin false m e in plus z (product-plain m e) (mul-fits binary64 fifty (fin false m e)) (lt three z) refl
at-difference (fin true m e) = let z = fifty ⊗ fin false m e in ap cut (product-minus m e) ∙ minus z (product-plain m e) (mul-fits binary64 fifty (fin false m e)) (lt three z) refl

motor-cut : (steer angle : Float) → cut (fifty ⊗ (steer ⊖ angle)) ≡ motor_of steer angle
unfolding motor_of natural of_int
motor-cut steer angle = at-difference (steer ⊖ angle)

-- ---- the clamp, which raises before it lowers: what is over 3 is not under −3
over-not-under : (x : Float) → lt three x ≡ true → lt x (neg three) ≡ false
unfolding lt neg
over-not-under x h = go (lt x (neg three)) refl
  where
    go : (b : Bool) → lt x (neg three) ≡ b → lt x (neg three) ≡ false
    go false e = e
    go true e = absurd (lt_irrefl three (lt_trans three (neg three) three (lt_trans three x (neg three) (subst T (sym h) tt) (subst T (sym e) tt)) tt))

abbrev by-tests : Bool → Bool → Float → Float
by-tests over under x = cond under (cond (lt three (neg three)) three (neg three)) (cond over three x)

abbrev lowered-first : Bool → Float → Float
lowered-first over x = cond (lt (cond over three x) (neg three)) (neg three) (cond over three x)

clamped : (x : Float) → clamp_of x (neg three) three ≡ cut x
unfolding clamp_of lt neg
clamped x = go (lt three x) refl
  where
    go : (over : Bool) → lt three x ≡ over → clamp_of x (neg three) three ≡ cut x
    go true h = ap₂ (λ (o u : Bool). by-tests o u x) h (over-not-under x h) ∙ sym (ap (λ (o : Bool). lowered-first o x) h)
    go false h = ap (λ (o : Bool). by-tests o (lt x (neg three)) x) h ∙ sym (ap (λ (o : Bool). lowered-first o x) h)

-- by the bits of the code's literals
pub motor_clamped : (steer angle r : Float) → r ≡ clamp_of (of_bits binary64 0x4049000000000000 ⊗ (steer ⊖ angle)) (neg (of_bits binary64 0x4008000000000000)) (of_bits binary64 0x4008000000000000) → r ≡ motor_of steer angle
unfolding of_bits
motor_clamped steer angle r e = e ∙ clamped (fifty ⊗ (steer ⊖ angle)) ∙ motor-cut steer angle
