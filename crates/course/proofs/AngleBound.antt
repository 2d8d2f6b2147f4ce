-- atan2 is a NaN or within ±6.25, for any x and y. Assumes nothing.
use Rattle.std.proofs.Common.{◌≡◌, ℕ, ◌*◌, ◌^◌, ◌<◌, ◌≤◌, Bool, true, false, cond, not, ◌&&◌, T, eqb, ltb, ◌⊎◌, List, [], ◌∷◌, ℤ, pos, refl, ap, ◌∙◌, subst, inl, inr, le_of_lt, eq-zero-or-pos, mul-pos, zero-mul, arith, lit≤, ltb→lt, nltb→le, eq-eqb}
use lib.Ieee.{Float, nan, inf, fin, binary64, up, down, neg, lt, le, eq, round, of_int, add, sub, mul, div}
use lib.Ieee.Fits.{up_pos, down_pos, and_l, and_r}
use lib.Ieee.Order.{round_mono}
use Rattle.course.specs.Rules.Arithmetic.{◌⊕◌, ◌⊖◌, ◌⊗◌, ◌⊘◌, natural, decimal}
use Rattle.course.specs.Rules.Constants.{half_pi}
use Rattle.course.specs.Rules.Numeric.{abs_of, within}
use Rattle.course.specs.Rules.Trig.{plus, minus, horner, atan_terms, atan_poly, arc, arc_of, ratio_of, steep_of, leftward, downward, direction_of, atan2_of}
use Rattle.course.proofs.Intervals.{In, Near, either, neg-in, near-of-within, wider, add-in, sub_in, mul-near, div-near, above_in, not-above-in, nonzero}

-- ---- the polynomial: for |z| ≤ 0.18 and coefficients within ±1 it stays within ±1.5
small : List Float → Bool
small [] = true
small (c ∷ cs) = within (natural 1) c && small cs

horner-near : (z c : Float) (cs : List Float) → Near (decimal 18 100) z → Near (natural 1) c → T (small cs) → Near (decimal 15 10) (horner z c cs)
unfolding horner small
horner-near z c [] hz hc hs = wider hc (unfold le neg natural of_int decimal round in tt)
horner-near z c (d ∷ ds) hz hc hs =
    let hd = near-of-within (natural 1) d (and_l (within (natural 1) d) (small ds) hs) in
    let a : Near (decimal 27 100) (horner z d ds ⊗ z) = mul-near (horner-near z d ds hz hd (and_r (within (natural 1) d) (small ds) hs)) hz (unfold le neg mul decimal round in tt) in
    add-in a hc (unfold le neg add decimal natural of_int round in tt)

small-terms : T (small atan_terms)
unfolding small atan_terms plus minus natural of_int div within le neg
small-terms = tt

one-near : Near (natural 1) (natural 1)
unfolding natural of_int le neg
one-near = record { low = tt; high = tt }

poly-near : (w : Float) → Near (decimal 42 100) w → Near (decimal 15 10) (atan_poly w)
unfolding atan_poly
poly-near w h = horner-near (w ⊗ w) (natural 1) atan_terms (mul-near h h (unfold le neg mul decimal round in tt)) one-near small-terms

-- ---- the angle, for t from 0 to 1
abbrev knee : Float
knee = decimal 41421356237309503 (10 ^ 17)

abbrev eighth : Float
eighth = decimal 7853981633974483 (10 ^ 16)

arc-near : (base w : Float) → Near (decimal 8 10) base → Near (decimal 42 100) w → Near (decimal 15 10) (arc base w)
unfolding arc
arc-near base w hb hw =
    let a : Near (decimal 64 100) (w ⊗ atan_poly w) = mul-near hw (poly-near w hw) (unfold le neg mul decimal round in tt) in
    add-in hb a (unfold le neg add decimal round in tt)

zero-base : Near (decimal 8 10) (natural 0)
unfolding natural of_int decimal round le neg
zero-base = record { low = tt; high = tt }

eighth-base : Near (decimal 8 10) eighth
unfolding decimal round le neg
eighth-base = record { low = tt; high = tt }

-- above the knee w is (t − 1) / (t + 1)
folded : (t : Float) → In knee (natural 1) t → Near (decimal 42 100) ((t ⊖ natural 1) ⊘ (t ⊕ natural 1))
folded t h =
    let one : In (natural 1) (natural 1) (natural 1) = record { low = unfold natural of_int le in tt; high = unfold natural of_int le in tt } in
    let a : Near (decimal 586 1000) (t ⊖ natural 1) = sub_in h one (unfold le neg sub natural of_int decimal round in tt) in
    let b : In (decimal 14 10) (natural 2) (t ⊕ natural 1) = add-in h one (unfold le neg add natural of_int decimal round in tt) in
    div-near a b (unfold le neg div natural of_int decimal round in tt)

arc_of-near : (t : Float) → In (natural 0) (natural 1) t → Near (decimal 15 10) (arc_of t)
unfolding arc_of
arc_of-near t h = go (lt knee t) refl
  where
    go : (b : Bool) → lt knee t ≡ b → Near (decimal 15 10) (cond b (arc eighth ((t ⊖ natural 1) ⊘ (t ⊕ natural 1))) (arc (natural 0) t))
    go true e = arc-near eighth ((t ⊖ natural 1) ⊘ (t ⊕ natural 1)) eighth-base (folded t (above_in knee h e))
    go false e = arc-near (natural 0) t zero-base (wider (not-above-in knee h e (unfold natural of_int decimal round in tt)) (unfold le neg natural of_int decimal round in tt))

-- ---- the smaller magnitude over the larger is from 0 to 1, or a NaN
abbrev NanOr : (Float → Type 0) → Float → Type 0
NanOr P x = (x ≡ nan) ⊎ P x

abbrev Unit01 : Float → Type 0
Unit01 x = In (natural 0) (natural 1) x

round-unit : (a b : ℕ) → 0 < b → a ≤ b → Unit01 (round binary64 false a b)
unfolding natural of_int
round-unit a b B h = record { low = round_mono binary64 0 1 a b (lit≤ tt) B (omega arith); high = round_mono binary64 a b 1 1 B (lit≤ tt) (omega arith) }

no-factor : (m a b : ℕ) → 0 < a → 0 < b → m * a * b ≤ 0 → m ≡ 0
no-factor m a b A B h = elim (eq-zero-or-pos m) [ inl z ↦ z | inr p ↦ let g : 0 < m * a * b = mul-pos (mul-pos p A) B in absurd (omega arith) ]

quotient-unit : (m : ℕ) (e : ℤ) (n : ℕ) (d : ℤ) → m * up e * down d ≤ n * up d * down e → NanOr Unit01 (fin false m e ⊘ fin false n d)
unfolding div
quotient-unit m e n d h = elim (eq-zero-or-pos n) [
  | inl z ↦ inl (rw (eq-eqb n 0 z, eq-eqb m 0 (no-factor m (up e) (down d) (up_pos e) (down_pos d) (zeroed z))))
  | inr p ↦ inr (rw (nonzero n (cond (eqb m 0) nan (inf false)) (round binary64 false (m * up e * down d) (n * up d * down e)) p)
      (round-unit (m * up e * down d) (n * up d * down e) (mul-pos (mul-pos p (up_pos d)) (down_pos e)) h))
]
  where
    zeroed : n ≡ 0 → m * up e * down d ≤ 0
    zeroed z = subst (λ (k : ℕ). m * up e * down d ≤ k) (ap (λ (k : ℕ). k * up d * down e) z ∙ ap (λ (k : ℕ). k * down e) (zero-mul (up d)) ∙ zero-mul (down e)) h

zero-unit : Unit01 (fin false 0 (pos 0))
unfolding natural of_int le
zero-unit = record { low = tt; high = tt }

ratio-unit : (y x : Float) → NanOr Unit01 (ratio_of (abs_of y) (abs_of x))
unfolding ratio_of abs_of lt div
ratio-unit nan nan = inl refl
ratio-unit nan (inf t) = inl refl
ratio-unit nan (fin t n d) = inl refl
ratio-unit (inf s) nan = inl refl
ratio-unit (inf s) (inf t) = inl refl
ratio-unit (inf s) (fin t n d) = inr zero-unit
ratio-unit (fin s m e) nan = inl refl
ratio-unit (fin s m e) (inf t) = inr zero-unit
ratio-unit (fin s m e) (fin t n d) = go (ltb (n * up d * down e) (m * up e * down d)) (ltb→lt _ _) (nltb→le _ _)
  where
    go : (b : Bool) → (T b → n * up d * down e < m * up e * down d) → (T (not b) → m * up e * down d ≤ n * up d * down e)
        → NanOr Unit01 (cond b (fin false n d ⊘ fin false m e) (fin false m e ⊘ fin false n d))
    go true f g = quotient-unit n d m e (le_of_lt (f tt))
    go false f g = quotient-unit m e n d (g tt)

-- ---- the four quadrants
less-nan : (x : Float) → x ⊖ nan ≡ nan
unfolding sub
less-nan nan = refl
less-nan (inf s) = refl
less-nan (fin s m e) = refl

same : (b : Bool) (u v : Float) → u ≡ nan → v ≡ nan → cond b u v ≡ nan
same b u v = either (λ (z : Float). z ≡ nan) b u v

arc-nan : arc_of nan ≡ nan
unfolding arc_of arc natural of_int decimal round lt mul add
arc-nan = refl

steep-nan : (ay ax : Float) → steep_of ay ax nan ≡ nan
unfolding steep_of
steep-nan ay ax = same (lt ax ay) (half_pi ⊖ nan) nan (less-nan half_pi) refl

left-nan : (x : Float) → leftward x nan ≡ nan
unfolding leftward
left-nan x = same (lt x (natural 0)) (decimal 3141592653589793 (10 ^ 15) ⊖ nan) nan (less-nan (decimal 3141592653589793 (10 ^ 15))) refl

down-nan : (y : Float) → downward y nan ≡ nan
unfolding downward neg
down-nan y = same (lt y (natural 0)) nan nan refl refl

direction-nan : (y x : Float) → ratio_of (abs_of y) (abs_of x) ≡ nan → direction_of y x ≡ nan
unfolding direction_of
direction-nan y x h =
    ap (λ (t : Float). downward y (leftward x (steep_of (abs_of y) (abs_of x) (arc_of t)))) h
    ∙ ap (λ (a : Float). downward y (leftward x (steep_of (abs_of y) (abs_of x) a))) arc-nan
    ∙ ap (λ (a : Float). downward y (leftward x a)) (steep-nan (abs_of y) (abs_of x))
    ∙ ap (downward y) (left-nan x)
    ∙ down-nan y

steep-near : (ay ax a : Float) → Near (decimal 15 10) a → Near (decimal 31 10) (steep_of ay ax a)
unfolding steep_of
steep-near ay ax a h =
    let c : In (decimal 157 100) (decimal 158 100) half_pi = record { low = unfold half_pi decimal round le in tt; high = unfold half_pi decimal round le in tt } in
    either (Near (decimal 31 10)) (lt ax ay) (half_pi ⊖ a) a (sub_in c h (unfold le neg sub decimal round in tt)) (wider h (unfold le neg decimal round in tt))

left_near : (x a : Float) → Near (decimal 31 10) a → Near (decimal 625 100) (leftward x a)
unfolding leftward
left_near x a h =
    let pi = decimal 3141592653589793 (10 ^ 15) in
    let c : In (decimal 314 100) (decimal 315 100) pi = record { low = unfold decimal round le in tt; high = unfold decimal round le in tt } in
    either (Near (decimal 625 100)) (lt x (natural 0)) (pi ⊖ a) a (sub_in c h (unfold le neg sub decimal round in tt)) (wider h (unfold le neg decimal round in tt))

direction-near : (y x : Float) → Unit01 (ratio_of (abs_of y) (abs_of x)) → Near (decimal 625 100) (direction_of y x)
unfolding direction_of downward
direction-near y x h =
    let a = leftward x (steep_of (abs_of y) (abs_of x) (arc_of (ratio_of (abs_of y) (abs_of x)))) in
    let n = left_near x _ (steep-near (abs_of y) (abs_of x) _ (arc_of-near (ratio_of (abs_of y) (abs_of x)) h)) in
    either (Near (decimal 625 100)) (lt y (natural 0)) (neg a) a (wider (neg-in n) (unfold le neg decimal round in tt)) n

pub atan2-near : (y x : Float) → (atan2_of y x ≡ nan) ⊎ Near (decimal 625 100) (atan2_of y x)
unfolding atan2_of
atan2-near y x = go (eq y (natural 0) && eq x (natural 0)) (ratio-unit y x)
  where
    go : (b : Bool) → NanOr Unit01 (ratio_of (abs_of y) (abs_of x)) → (cond b (natural 0) (direction_of y x) ≡ nan) ⊎ Near (decimal 625 100) (cond b (natural 0) (direction_of y x))
    go true r = inr (record { low = unfold natural of_int decimal round neg le in tt; high = unfold natural of_int decimal round neg le in tt })
    go false (inl e) = inl (direction-nan y x e)
    go false (inr i) = inr (direction-near y x i)
