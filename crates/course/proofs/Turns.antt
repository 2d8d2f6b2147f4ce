-- Turning beta, with the constants as the compiled code has them. Assumes nothing.
use Rattle.std.proofs.Common.{◌≡◌, ℕ, zero, suc, ◌-◌, Some, None, true, false, sym, refl, ap, ◌∙◌, sub-one}
use lib.Ieee as Ieee
use lib.Ieee.{Float, binary64, of_bits}
use Rattle.course.specs.Rules.Arithmetic.{◌⊕◌, ◌⊖◌}
use Rattle.course.specs.Rules.Step.{turn_down, turn_up}
use Rattle.course.proofs.Literals.{tau-bits, far-above-bits, far-below-bits}

abbrev pub tau_b : Float
tau_b = of_bits binary64 0x401921fb54442d18

abbrev pub down_b : Float
down_b = of_bits binary64 0x4012d97c7f3321d2

abbrev pub up_b : Float
up_b = of_bits binary64 0xc012d97c7f3321d2

pub suc-pred : (n : ℕ) → (n ≡ 0 → ⊥) → suc (n - 1) ≡ n
suc-pred zero h = absurd (h refl)
suc-pred (suc n) h = ap suc (sub-one (suc n))

pub down-left : (n : ℕ) (b a : Float) → Ieee.lt down_b (b ⊖ a) ≡ false → turn_down n b a ≡ Some (b, n)
unfolding turn_down
down-left zero b a h = rw (far-above-bits, h)
down-left (suc n) b a h = rw (far-above-bits, h)

pub down-stop : (n : ℕ) (b a : Float) → Ieee.lt down_b (b ⊖ a) ≡ true → n ≡ 0 → turn_down n b a ≡ None
unfolding turn_down
down-stop n b a h z = rw (z, far-above-bits, h)

down-suc : (n : ℕ) (b a : Float) → Ieee.lt down_b (b ⊖ a) ≡ true → turn_down (suc n) b a ≡ turn_down n (b ⊖ tau_b) a
unfolding turn_down
down-suc n b a h = rw (far-above-bits, h, tau-bits)

pub down-more : (n : ℕ) (b a : Float) → Ieee.lt down_b (b ⊖ a) ≡ true → (n ≡ 0 → ⊥) → turn_down n b a ≡ turn_down (n - 1) (b ⊖ tau_b) a
down-more n b a h z = ap (λ (m : ℕ). turn_down m b a) (sym (suc-pred n z)) ∙ down-suc (n - 1) b a h

pub up_left : (n : ℕ) (b a : Float) → Ieee.lt (b ⊖ a) up_b ≡ false → turn_up n b a ≡ Some (b, n)
unfolding turn_up
up_left zero b a h = rw (far-below-bits, h)
up_left (suc n) b a h = rw (far-below-bits, h)

pub up-stop : (n : ℕ) (b a : Float) → Ieee.lt (b ⊖ a) up_b ≡ true → n ≡ 0 → turn_up n b a ≡ None
unfolding turn_up
up-stop n b a h z = rw (z, far-below-bits, h)

up_suc : (n : ℕ) (b a : Float) → Ieee.lt (b ⊖ a) up_b ≡ true → turn_up (suc n) b a ≡ turn_up n (b ⊕ tau_b) a
unfolding turn_up
up_suc n b a h = rw (far-below-bits, h, tau-bits)

pub up_more : (n : ℕ) (b a : Float) → Ieee.lt (b ⊖ a) up_b ≡ true → (n ≡ 0 → ⊥) → turn_up n b a ≡ turn_up (n - 1) (b ⊕ tau_b) a
up_more n b a h z = ap (λ (m : ℕ). turn_up m b a) (sym (suc-pred n z)) ∙ up_suc (n - 1) b a h
