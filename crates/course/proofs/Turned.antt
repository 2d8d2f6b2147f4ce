-- Quarter turns as a record, and sine and cosine from the rest's, by k mod 4. Assumes nothing.
use Rattle.std.proofs.Common.{◌≡◌, ℕ, zero, suc, ℤ, refl, ap, ◌∙◌}
use lib.Ieee.{Float, neg, of_int, binary64}
use Rattle.course.specs.Rules.Trig.{SinCos, quarter_of, turns_of, rest_of, sine_poly, cosine_poly, cosine_of, sine_of, sin_cos_of, pick}
use Rattle.course.specs.Steps.Numbers.{turns_at, sin_cos_as}
use Rattle.course.specs.declared.trig.SinCos.{SinCos as CodeSinCos}

pub turns-is : (f : Float) (q : ℕ) (z : ℤ) → f ≡ of_int binary64 z → q ≡ quarter_of z → record { k = f; quarter = q } ≡ turns_at z
unfolding turns_at
turns-is f q z e h = λ i. record { k = e i; quarter = h i }

pub turned : (a : Float) (q : ℕ) (r S C : Float) → q ≡ quarter_of (turns_of a) → r ≡ rest_of a → S ≡ sine_poly r → C ≡ cosine_poly r
    → record { cos = pick q C (neg S) (neg C) S; sin = pick q S C (neg S) (neg C) } ≡ sin_cos_of a
unfolding sin_cos_of cosine_of sine_of
turned a q r S C hq hr hs hc = cc

pub sin-cos-is : (a c s c' s' : Float) → c ≡ c' → s ≡ s' → record { cos = c'; sin = s' } ≡ sin_cos_of a → record { cos = c; sin = s } ≡ sin_cos_of a
sin-cos-is a c s c' s' p q h = (λ i. record { cos = p i; sin = q i }) ∙ h

-- the two results of `sin_cos`
pub cos-is : (a : Float) (r : CodeSinCos) → sin_cos_as r ≡ sin_cos_of a → r.cos ≡ cosine_of a
unfolding sin_cos_of
cos-is a r h = ap (λ (x : SinCos). x.cos) h

pub sin-is : (a : Float) (r : CodeSinCos) → sin_cos_as r ≡ sin_cos_of a → r.sin ≡ sine_of a
unfolding sin_cos_of
sin-is a r h = ap (λ (x : SinCos). x.sin) h

pub pick-0 : (q : ℕ) (a b c d : Float) → q ≡ 0 → a ≡ pick q a b c d
unfolding pick
pick-0 q a b c d h = rw h

pub pick-1 : (q : ℕ) (a b c d : Float) → q ≡ 1 → b ≡ pick q a b c d
unfolding pick
pick-1 q a b c d h = rw h

pub pick-2 : (q : ℕ) (a b c d : Float) → q ≡ 2 → c ≡ pick q a b c d
unfolding pick
pick-2 q a b c d h = rw h

pub pick-3 : (q : ℕ) (a b c d : Float) → (q ≡ 0 → ⊥) → (q ≡ 1 → ⊥) → (q ≡ 2 → ⊥) → d ≡ pick q a b c d
unfolding pick
pick-3 zero a b c d f g h = absurd (f refl)
pick-3 (suc zero) a b c d f g h = absurd (g refl)
pick-3 (suc (suc zero)) a b c d f g h = absurd (h refl)
pick-3 (suc (suc (suc n))) a b c d f g h = refl
