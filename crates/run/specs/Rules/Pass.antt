-- Document 01, "Drive": the action rule of the Rust's `step`, and the tyre pass over the four wheels. Assumes nothing.
use Rattle.std.specs.Prelude.{Bool, false, cond, List, [], ◌∷◌, ℕ, eqb, get_or, Float}
use Rattle.std.specs.Float.{nan}
use Rattle.std.specs.Float.Ieee.{neg}
use Rattle.course.specs.Rules.Arithmetic.{◌⊕◌, ◌⊖◌, ◌⊗◌, natural, decimal, nought}
use Rattle.course.specs.Rules.Numeric.{min_of, clamp_of}
use Rattle.run.specs.Rules.Arguments.{motion_at}
use Rattle.run.specs.Rules.Dynamics.{PassedWheel, tyre_of}
use Rattle.run.specs.declared.state.WheelCtl.{WheelCtl}
use Rattle.run.specs.declared.state.Car.{Car}
use Rattle.run.specs.declared.dynamics.Motion.{Motion}
use Rattle.run.specs.declared.dynamics.Force.{Force}

-- ---- the action rule of `step`: 1 steers to −0.6 (clockwise, to the right), 2 to 0.6, 3 gives gas, 4 brakes

-- `f64::from` of a bool
unfoldable pub indicator : Bool → Float
indicator b = cond b (natural 1) (natural 0)

unfoldable pub steer_of : ℕ → Float
steer_of action = neg (decimal 6 10) ⊗ indicator (eqb action 1) ⊕ decimal 6 10 ⊗ indicator (eqb action 2)

unfoldable pub gas_of : ℕ → Float
gas_of action = clamp_of (decimal 2 10 ⊗ indicator (eqb action 3)) (natural 0) (natural 1)

unfoldable pub brake_of : ℕ → Float
brake_of action = decimal 8 10 ⊗ indicator (eqb action 4)

-- gas on its way to the wish: a rise is held to 0.1, a fall is not
unfoldable pub raised_of : Float → Float → Float
raised_of wish gas = gas ⊕ min_of (wish ⊖ gas) (decimal 1 10)

-- the front wheels, 0 and 1, steer; the rear wheels, 2 and 3, have gas; all brake
unfoldable pub front_of : ℕ → WheelCtl → WheelCtl
front_of action w = record { gas = w.gas; brake = brake_of action; steer = steer_of action; omega = w.omega; phase = w.phase }

unfoldable pub rear_of : ℕ → WheelCtl → WheelCtl
rear_of action w = record { gas = raised_of (gas_of action) w.gas; brake = brake_of action; steer = w.steer; omega = w.omega; phase = w.phase }

-- ---- the four wheels in their order, the fuel going from one to the next

-- what the pass leaves: controls and fuel spent, and the forces
pub record Passed : Type 0 where
  pub car : Car
  pub forces : List Force

abbrev pub tyres_passed : Car → List Force → Passed
tyres_passed car fs = record { car = car; forces = fs }

abbrev pub ctl_at : List WheelCtl → ℕ → WheelCtl
ctl_at ws i = get_or ws i (record { gas = nan; brake = nan; steer = nan; omega = nan; phase = nan })

abbrev pub road_at : List Bool → ℕ → Bool
road_at roads i = get_or roads i false

-- from what each wheel's pass leaves
unfoldable pub gathered_of : PassedWheel → PassedWheel → PassedWheel → PassedWheel → Passed
gathered_of a b c d = tyres_passed (record { ctl = a.ctl ∷ b.ctl ∷ c.ctl ∷ d.ctl ∷ []; fuel_spent = d.fuel }) (a.force ∷ b.force ∷ c.force ∷ d.force ∷ [])

unfoldable pub pass_of : Car → ℕ → List Motion → List Bool → Passed
pass_of car action ms roads =
    let a = tyre_of (front_of action (ctl_at car.ctl 0)) (motion_at ms 0) (road_at roads 0) car.fuel_spent in
    let b = tyre_of (front_of action (ctl_at car.ctl 1)) (motion_at ms 1) (road_at roads 1) a.fuel in
    let c = tyre_of (rear_of action (ctl_at car.ctl 2)) (motion_at ms 2) (road_at roads 2) b.fuel in
    let d = tyre_of (rear_of action (ctl_at car.ctl 3)) (motion_at ms 3) (road_at roads 3) c.fuel in
    gathered_of a b c d

-- ---- at rest

-- controls and fuel of 0
unfoldable pub still_wheel : WheelCtl
still_wheel = record { gas = nought; brake = nought; steer = nought; omega = nought; phase = nought }

unfoldable pub still_car : Car
still_car = record { ctl = still_wheel ∷ still_wheel ∷ still_wheel ∷ still_wheel ∷ []; fuel_spent = nought }

-- no force
abbrev pub no_force : Force
no_force = record { motor = nought; fx = nought; fy = nought }

abbrev pub no_forces : List Force
no_forces = no_force ∷ no_force ∷ no_force ∷ no_force ∷ []
