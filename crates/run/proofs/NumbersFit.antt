-- The numbers of a car that drives lead to are floats of 64 bits, and a car is read back from its numbers; four poses have sixteen. Assumes nothing.
use mathlib.Core.Bool.{Bool}
use mathlib.Core.List.{List, [], ◌∷◌, ◌++◌}
use mathlib.Core.Path.{◌≡◌, refl}
use Prim.Native.Nat.{ℕ}
use native.Mathlib.Omega.{arith}
use lib.Dec.{T}
use lib.ListN.{length, take}
use lib.Ieee.{Float, binary64, fits}
use lib.Ieee.Fits.{add-fits, sub-fits, mul-fits}
use lib.Ieee.Bits.{of_bits-fits}
use Rattle.form.proofs.ByteLaws.{All, Fitting}
use Rattle.run.specs.Rules.Dynamics.{tyre_of, finish_of}
use Rattle.run.specs.Rules.Pass.{steer_of, brake_of, raised_of, front_of, rear_of, ctl_at, gathered_of, pass_of, still_wheel, still_car}
use Rattle.run.specs.Grader.Numbers.{pose_count, pose_numbers, control_count, car_numbers, wheel_from, car_from}
use Rattle.run.specs.declared.state.Pose.{Pose}
use Rattle.run.specs.declared.state.WheelCtl.{WheelCtl}
use Rattle.run.specs.declared.state.Car.{Car}
use Rattle.run.specs.declared.dynamics.Motion.{Motion}
use Rattle.run.proofs.NumberLaws.{controls-taken}

-- ---- a car
pub record CarFits (car : Car) : Type 0 where
  pub four : length car.ctl ≡ 4
  pub controls : All Fitting (take control_count (car_numbers car))
  pub fuel : T (fits binary64 car.fuel_spent)

-- one wheel of it, and its numbers before those of the next
record WheelFits (w : WheelCtl) : Type 0 where
  gas : Fitting w.gas
  brake : Fitting w.brake
  steer : Fitting w.steer
  omega : Fitting w.omega
  phase : Fitting w.phase

abbrev numbers_of : WheelCtl → List Float → List Float
numbers_of w xs = w.gas ∷ w.brake ∷ w.steer ∷ w.omega ∷ w.phase ∷ xs

first_fits : (w : WheelCtl) (xs : List Float) → All Fitting (numbers_of w xs) → WheelFits w
first_fits w xs h = record { gas = h.0; brake = h.1.0; steer = h.1.1.0; omega = h.1.1.1.0; phase = h.1.1.1.1.0 }

rest-fits : (w : WheelCtl) (xs : List Float) → All Fitting (numbers_of w xs) → All Fitting xs
rest-fits w xs h = h.1.1.1.1.1

both-fit : (w : WheelCtl) (xs : List Float) → WheelFits w → All Fitting xs → All Fitting (numbers_of w xs)
both-fit w xs h t = (h.gas, (h.brake, (h.steer, (h.omega, (h.phase, t)))))

-- the numbers from wheel 3, 2, 1 on
abbrev from_third : List WheelCtl → List Float
from_third ws = numbers_of (ctl_at ws 3) []

abbrev from_second : List WheelCtl → List Float
from_second ws = numbers_of (ctl_at ws 2) (from_third ws)

abbrev from_first : List WheelCtl → List Float
from_first ws = numbers_of (ctl_at ws 1) (from_second ws)

-- the four wheels apart, and together
record FourFit (ws : List WheelCtl) : Type 0 where
  first : WheelFits (ctl_at ws 0)
  second : WheelFits (ctl_at ws 1)
  third : WheelFits (ctl_at ws 2)
  fourth : WheelFits (ctl_at ws 3)

apart : (car : Car) → All Fitting (take control_count (car_numbers car)) → FourFit car.ctl
unfolding car_numbers
apart car h =
    let ws = car.ctl in
    let b = rest-fits (ctl_at ws 0) (from_first ws) h in
    let c = rest-fits (ctl_at ws 1) (from_second ws) b in
    let d = rest-fits (ctl_at ws 2) (from_third ws) c in
    record {
      first = first_fits (ctl_at ws 0) (from_first ws) h;
      second = first_fits (ctl_at ws 1) (from_second ws) b;
      third = first_fits (ctl_at ws 2) (from_third ws) c;
      fourth = first_fits (ctl_at ws 3) [] d;
    }

together : (car : Car) → FourFit car.ctl → All Fitting (take control_count (car_numbers car))
unfolding car_numbers
together car h =
    let ws = car.ctl in
    both-fit (ctl_at ws 0) (from_first ws) h.first
    (both-fit (ctl_at ws 1) (from_second ws) h.second (both-fit (ctl_at ws 2) (from_third ws) h.third (both-fit (ctl_at ws 3) [] h.fourth tt)))

-- ---- a drive: what a wheel's pass writes is rounded, the rest stays
front_fits : (a : ℕ) (w : WheelCtl) (m : Motion) (r : Bool) (f : Float) → WheelFits w → WheelFits (tyre_of (front_of a w) m r f).ctl
unfolding tyre_of finish_of front_of steer_of brake_of
front_fits a w m r f h =
    record { gas = h.gas; brake = mul-fits binary64 _ _; steer = add-fits binary64 _ _; omega = sub-fits binary64 _ _; phase = add-fits binary64 _ _ }

rear-fits : (a : ℕ) (w : WheelCtl) (m : Motion) (r : Bool) (f : Float) → WheelFits w → WheelFits (tyre_of (rear_of a w) m r f).ctl
unfolding tyre_of finish_of rear_of raised_of brake_of
rear-fits a w m r f h =
    record { gas = add-fits binary64 _ _; brake = mul-fits binary64 _ _; steer = h.steer; omega = sub-fits binary64 _ _; phase = add-fits binary64 _ _ }

fuel-fits : (w : WheelCtl) (m : Motion) (r : Bool) (f : Float) → Fitting (tyre_of w m r f).fuel
unfolding tyre_of finish_of
fuel-fits w m r f = add-fits binary64 _ _

pub pass_fits : (car : Car) (a : ℕ) (ms : List Motion) (roads : List Bool) → CarFits car → CarFits (pass_of car a ms roads).car
unfolding pass_of gathered_of
pass_fits car a ms roads h =
    let k = apart car h.controls in
    record {
      four = refl;
      controls = together (pass_of car a ms roads).car (record {
        first = front_fits a _ _ _ _ k.first;
        second = front_fits a _ _ _ _ k.second;
        third = rear-fits a _ _ _ _ k.third;
        fourth = rear-fits a _ _ _ _ k.fourth;
      });
      fuel = fuel-fits _ _ _ _;
    }

pub still-fits : CarFits still_car
unfolding still_car still_wheel
still-fits =
    let z = of_bits-fits binary64 0 in
    let w : WheelFits still_wheel = record { gas = z; brake = z; steer = z; omega = z; phase = z } in
    record { four = refl; controls = together still_car (record { first = w; second = w; third = w; fourth = w }); fuel = z }

-- ---- read back
pub control-many : (car : Car) → length (take control_count (car_numbers car)) ≡ control_count
control-many car = controls-taken car (car_numbers car) refl

-- of wheels ws and fuel x
abbrev car_of : List WheelCtl → Float → Car
car_of ws x = record { ctl = ws; fuel_spent = x }

wheels-back : (ws : List WheelCtl) (x : Float) → length ws ≡ 4 → car_from (take control_count (car_numbers (car_of ws x)) ++ (x ∷ [])) ≡ car_of ws x
unfolding car_from car_numbers wheel_from
wheels-back (a ∷ b ∷ c ∷ d ∷ []) x e = refl
wheels-back [] x e = absurd (omega (arith, e))
wheels-back (a ∷ []) x e = absurd (omega (arith, e))
wheels-back (a ∷ b ∷ []) x e = absurd (omega (arith, e))
wheels-back (a ∷ b ∷ c ∷ []) x e = absurd (omega (arith, e))
wheels-back (a ∷ b ∷ c ∷ d ∷ f ∷ r) x e = absurd (omega (arith, e))

pub car-back : (car : Car) → length car.ctl ≡ 4 → car_from (take control_count (car_numbers car) ++ (car.fuel_spent ∷ [])) ≡ car
car-back car e = wheels-back car.ctl car.fuel_spent e

-- ---- poses
pub pose-many : (ps : List Pose) → length (pose_numbers ps) ≡ pose_count
unfolding pose_numbers
pose-many ps = refl
