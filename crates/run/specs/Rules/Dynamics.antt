-- Document 01, "Drive": the tyre pass of the Rust's `CarWorld::step` for one wheel, up to `add_force`. Every operation stands in the Rust's
-- order and is rounded once. Assumes nothing.
use Rattle.std.specs.Prelude.{Bool, cond, Float}
use Rattle.std.specs.Float.Ieee.{neg, lt, le}
use Rattle.course.specs.Rules.Arithmetic.{◌⊕◌, ◌⊖◌, ◌⊗◌, ◌⊘◌, natural, decimal}
use Rattle.course.specs.Rules.Constants.{fps}
use Rattle.course.specs.Rules.Numeric.{abs_of, min_of, signum_of}
use Rattle.course.specs.Rules.Root.{sqrt_of}
use Rattle.run.specs.Rules.Wheel.{size, wheel_r}
use Rattle.run.specs.declared.state.WheelCtl.{WheelCtl}
use Rattle.run.specs.declared.dynamics.Motion.{Motion}
use Rattle.run.specs.declared.dynamics.Force.{Force}

-- ---- the constants of the reference's dynamics.rs, each the Rust's expression; SIZE and WHEEL_R stand in Wheel

-- ENGINE_POWER
unfoldable pub engine_power : Float
engine_power = natural 100000000 ⊗ size ⊗ size

-- WHEEL_MOMENT_OF_INERTIA
unfoldable pub wheel_moment_of_inertia : Float
wheel_moment_of_inertia = natural 4000 ⊗ size ⊗ size

-- FRICTION_LIMIT
unfoldable pub friction_limit : Float
friction_limit = natural 1000000 ⊗ size ⊗ size

-- `wheel_rad`
unfoldable pub wheel_rad : Float
wheel_rad = wheel_r ⊗ size

-- the factor of both forces
unfoldable pub stiffness : Float
stiffness = natural 205000 ⊗ size ⊗ size

-- `dt`: 1/50
unfoldable pub dt : Float
dt = natural 1 ⊘ fps

-- ---- the pass

-- the forces at a tyre: along its direction (the Rust's `f_force`) and across it (`p_force`)
pub record TyreForce : Type 0 where
  pub along : Float
  pub across : Float

-- what one wheel's pass leaves: its controls, its force, and the fuel spent
pub record PassedWheel : Type 0 where
  pub ctl : WheelCtl
  pub force : Force
  pub fuel : Float

-- the joint motor's speed: 50 times the way to the steering angle, at most 3, with its sign
unfoldable pub motor_of : Float → Float → Float
motor_of steer angle =
    let diff = steer ⊖ angle in
    signum_of diff ⊗ min_of (natural 50 ⊗ abs_of diff) (natural 3)

-- omega after the engine
unfoldable pub spun_of : Float → Float → Float
spun_of gas omega = omega ⊕ dt ⊗ engine_power ⊗ gas ⊘ wheel_moment_of_inertia ⊘ (abs_of omega ⊕ natural 5)

-- The braking rule: from a brake of 0.9 on, omega is 0; above 0 it is brought towards 0 by 15 times the brake, or to 0 where that is more than
-- omega; else it stays.
unfoldable pub braked_of : Float → Float → Float
braked_of brake omega =
    let most = natural 15 ⊗ brake in
    let val = cond (lt (abs_of omega) most) (abs_of omega) most in
    cond (le (decimal 9 10) brake) (natural 0)
    (cond (lt (natural 0) brake) (omega ⊕ neg (signum_of omega) ⊗ val)
    omega)

-- omega after the engine, then the brake
unfoldable pub turning_of : WheelCtl → Float
turning_of w = braked_of w.brake (spun_of w.gas w.omega)

-- `friction_limit`: grip is 1 on the road, else 0.6
unfoldable pub limit_of : Bool → Float
limit_of road = friction_limit ⊗ cond road (natural 1) (decimal 6 10)

-- the two forces at the tyre, cut down together where they exceed the limit
unfoldable pub held_of : Float → Float → Float → TyreForce
held_of limit f p =
    let force = sqrt_of (f ⊗ f ⊕ p ⊗ p) in
    cond (lt limit force) (record { along = f ⊘ force ⊗ limit; across = p ⊘ force ⊗ limit }) (record { along = f; across = p })

-- what pushes at the tyre of a wheel that turns at omega, before it is cut: along its direction and across it
unfoldable pub push_of : Float → Motion → TyreForce
push_of omega m =
    let vf = neg m.sin ⊗ m.vx ⊕ m.cos ⊗ m.vy in
    let vs = m.cos ⊗ m.vx ⊕ m.sin ⊗ m.vy in
    record { along = (neg vf ⊕ omega ⊗ wheel_rad) ⊗ stiffness; across = neg vs ⊗ stiffness }

-- the rest of a wheel's pass, given how fast it turns after the brake, and the forces as they are cut
unfoldable pub finish_of : WheelCtl → Motion → Float → TyreForce → Float → PassedWheel
finish_of w m omega s fuel =
    record {
      ctl = record {
        gas = w.gas;
        brake = w.brake;
        steer = w.steer;
        omega = omega ⊖ dt ⊗ s.along ⊗ wheel_rad ⊘ wheel_moment_of_inertia;
        phase = w.phase ⊕ omega ⊗ dt;
      };
      force = record {
        motor = motor_of w.steer m.joint_angle;
        fx = s.across ⊗ m.cos ⊕ s.along ⊗ neg m.sin;
        fy = s.across ⊗ m.sin ⊕ s.along ⊗ m.cos;
      };
      fuel = fuel ⊕ dt ⊗ engine_power ⊗ w.gas;
    }

-- the wheel's controls, its force and the fuel spent after the pass, for a wheel on the road or not
unfoldable pub tyre_of : WheelCtl → Motion → Bool → Float → PassedWheel
tyre_of w m road fuel =
    let push = push_of (turning_of w) m in
    finish_of w m (turning_of w) (held_of (limit_of road) push.along push.across) fuel
