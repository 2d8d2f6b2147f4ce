-- What each action asks for, by its number, and a check that tells the number. Assumes nothing.
use mathlib.Core.Path.{◌≡◌, refl, ap, ◌∙◌}
use Prim.Native.Nat.{ℕ}
use Rattle.std.specs.Prelude.{Result, Ok, Err}
use Rattle.std.specs.Result.{result_map_both, result_unwrap_or}
use Rattle.course.specs.declared.cause.Cause.{Cause}
use lib.Ieee.{binary64, of_int, of_bits, round, mul, add, neg, lt}
use Rattle.course.specs.Rules.Arithmetic.{natural, decimal}
use Rattle.course.specs.Rules.Numeric.{clamp_of}
use Rattle.run.specs.Rules.Pass.{steer_of, gas_of, brake_of, indicator}
use Rattle.run.specs.Steps.Drive.{action_number, told}
use Rattle.run.specs.declared.drive.Action.{Action}
use Rattle.run.specs.declared.drive.Action.TheVariants.{Nothing, Right, Left, Gas, Brake}

pub steer_right : neg (of_bits binary64 0x3fe3333333333333) ≡ steer_of 1
unfolding steer_of indicator natural decimal of_int of_bits round mul add neg
steer_right = refl

pub steer_left : of_bits binary64 0x3fe3333333333333 ≡ steer_of 2
unfolding steer_of indicator natural decimal of_int of_bits round mul add neg
steer_left = refl

pub steer_none : (a : Action) → (a ≡ Right → ⊥) → (a ≡ Left → ⊥) → of_bits binary64 0 ≡ steer_of (action_number a)
unfolding steer_of indicator natural decimal of_int of_bits round mul add neg
steer_none Nothing r l = refl
steer_none Right r l = absurd (r refl)
steer_none Left r l = absurd (l refl)
steer_none Gas r l = refl
steer_none Brake r l = refl

pub gas_wished : of_bits binary64 0x3fc999999999999a ≡ gas_of 3
unfolding gas_of clamp_of indicator natural decimal of_int of_bits round mul lt
gas_wished = refl

pub gas_none : (a : Action) → (a ≡ Gas → ⊥) → of_bits binary64 0 ≡ gas_of (action_number a)
unfolding gas_of clamp_of indicator natural decimal of_int of_bits round mul lt
gas_none Nothing g = refl
gas_none Right g = refl
gas_none Left g = refl
gas_none Gas g = absurd (g refl)
gas_none Brake g = refl

pub brake_on : of_bits binary64 0x3fe999999999999a ≡ brake_of 4
unfolding brake_of indicator natural decimal of_int of_bits round mul
brake_on = refl

pub brake_none : (a : Action) → (a ≡ Brake → ⊥) → of_bits binary64 0 ≡ brake_of (action_number a)
unfolding brake_of indicator natural decimal of_int of_bits round mul
brake_none Nothing b = refl
brake_none Right b = refl
brake_none Left b = refl
brake_none Gas b = refl
brake_none Brake b = absurd (b refl)

-- ---- a check that tells the action's number

-- without the number
untold : (action : ℕ) (r : Result Unit Cause) → result_map_both (λ n. tt) (λ c. c) (told action r) ≡ r
untold action (Ok none) = refl
untold action (Err c) = refl

-- it ends as the check
pub told_refused : (action : ℕ) (r : Result Unit Cause) {c : Cause} → Err c ≡ told action r → Err c ≡ r
told_refused action r e = ap (λ (x : Result ℕ Cause). result_map_both (λ n. tt) (λ c. c) x) e ∙ untold action r

pub told_passed : (action n : ℕ) (r : Result Unit Cause) → Ok n ≡ told action r → Ok tt ≡ r
told_passed action n r e = ap (λ (x : Result ℕ Cause). result_map_both (λ n. tt) (λ c. c) x) e ∙ untold action r

-- and tells that number
pub told_number : (action n : ℕ) (r : Result Unit Cause) → Ok n ≡ told action r → n ≡ action
told_number action n (Ok none) e = ap (λ (x : Result ℕ Cause). result_unwrap_or x n) e
told_number action n (Err c) e = absurd (cc)
