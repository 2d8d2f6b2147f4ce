-- Motions, poses, forces and a car as a column of numbers holds them: how each record is read from number i on, the four wheels in their
-- order, and poses, forces and car written back. Assumes nothing.
use Rattle.std.specs.Prelude.{List, [], ◌∷◌, ℕ, ◌+◌, ◌*◌, get_or, Float}
use Rattle.course.specs.Rules.Tiles.{number_at}
use Rattle.run.specs.Rules.Arguments.{pose_at}
use Rattle.run.specs.Rules.Pass.{ctl_at, no_force}
use Rattle.run.specs.declared.state.Pose.{Pose}
use Rattle.run.specs.declared.state.WheelCtl.{WheelCtl}
use Rattle.run.specs.declared.state.Car.{Car}
use Rattle.run.specs.declared.dynamics.Motion.{Motion}
use Rattle.run.specs.declared.dynamics.Force.{Force}

-- four records of k numbers each, from number i on
abbrev pub four_from : {T : Type 0} → (List Float → ℕ → T) → ℕ → List Float → ℕ → List T
four_from read k ns i = read ns i ∷ read ns (i + k) ∷ read ns (i + 2 * k) ∷ read ns (i + 3 * k) ∷ []

-- ---- a call's numbers

unfoldable pub motion_from : List Float → ℕ → Motion
motion_from ns i =
    record { joint_angle = number_at ns i; sin = number_at ns (i + 1); cos = number_at ns (i + 2); vx = number_at ns (i + 3); vy = number_at ns (i + 4) }

abbrev pub motion_list : Motion → List Float
motion_list m = m.joint_angle ∷ m.sin ∷ m.cos ∷ m.vx ∷ m.vy ∷ []

-- the four wheels' motions of a drive
unfoldable pub motions_from : List Float → List Motion
motions_from ns = motion_from ns 0 ∷ motion_from ns 5 ∷ motion_from ns 10 ∷ motion_from ns 15 ∷ []

unfoldable pub pose_from : List Float → ℕ → Pose
pose_from ns i = record { x = number_at ns i; y = number_at ns (i + 1); cos = number_at ns (i + 2); sin = number_at ns (i + 3) }

abbrev pub pose_list : Pose → List Float
pose_list p = p.x ∷ p.y ∷ p.cos ∷ p.sin ∷ []

-- the four wheels' poses, from number i on
unfoldable pub poses_at : List Float → ℕ → List Pose
poses_at ns i = pose_from ns i ∷ pose_from ns (i + 4) ∷ pose_from ns (i + 8) ∷ pose_from ns (i + 12) ∷ []

-- those of a settle, behind the hull's x and y
abbrev pub poses_from : List Float → List Pose
poses_from ns = poses_at ns 2

-- and back
abbrev pub pose_count : ℕ
pose_count = 16

unfoldable pub pose_numbers : List Pose → List Float
pose_numbers ps =
    (pose_at ps 0).x ∷ (pose_at ps 0).y ∷ (pose_at ps 0).cos ∷ (pose_at ps 0).sin
    ∷ (pose_at ps 1).x ∷ (pose_at ps 1).y ∷ (pose_at ps 1).cos ∷ (pose_at ps 1).sin
    ∷ (pose_at ps 2).x ∷ (pose_at ps 2).y ∷ (pose_at ps 2).cos ∷ (pose_at ps 2).sin
    ∷ (pose_at ps 3).x ∷ (pose_at ps 3).y ∷ (pose_at ps 3).cos ∷ (pose_at ps 3).sin
    ∷ []

-- ---- forces: per wheel motor speed, fx, fy

unfoldable pub force_from : List Float → ℕ → Force
force_from ns i = record { motor = number_at ns i; fx = number_at ns (i + 1); fy = number_at ns (i + 2) }

abbrev pub force_list : Force → List Float
force_list f = f.motor ∷ f.fx ∷ f.fy ∷ []

unfoldable pub forces_from : List Float → List Force
forces_from ns = force_from ns 0 ∷ force_from ns 3 ∷ force_from ns 6 ∷ force_from ns 9 ∷ []

abbrev pub force_at : List Force → ℕ → Force
force_at fs i = get_or fs i no_force

-- and back
unfoldable pub force_numbers : List Force → List Float
force_numbers fs =
    (force_at fs 0).motor ∷ (force_at fs 0).fx ∷ (force_at fs 0).fy
    ∷ (force_at fs 1).motor ∷ (force_at fs 1).fx ∷ (force_at fs 1).fy
    ∷ (force_at fs 2).motor ∷ (force_at fs 2).fx ∷ (force_at fs 2).fy
    ∷ (force_at fs 3).motor ∷ (force_at fs 3).fx ∷ (force_at fs 3).fy
    ∷ []

-- ---- a car: five to a wheel, then the fuel spent

-- the numbers of the four controls
abbrev pub control_count : ℕ
control_count = 20

unfoldable pub wheel_from : List Float → ℕ → WheelCtl
wheel_from ns i =
    record { gas = number_at ns i; brake = number_at ns (i + 1); steer = number_at ns (i + 2); omega = number_at ns (i + 3); phase = number_at ns (i + 4) }

abbrev pub wheel_list : WheelCtl → List Float
wheel_list w = w.gas ∷ w.brake ∷ w.steer ∷ w.omega ∷ w.phase ∷ []

unfoldable pub car_from : List Float → Car
car_from ns = record { ctl = wheel_from ns 0 ∷ wheel_from ns 5 ∷ wheel_from ns 10 ∷ wheel_from ns 15 ∷ []; fuel_spent = number_at ns 20 }

-- and back
unfoldable pub car_numbers : Car → List Float
car_numbers car =
    (ctl_at car.ctl 0).gas ∷ (ctl_at car.ctl 0).brake ∷ (ctl_at car.ctl 0).steer ∷ (ctl_at car.ctl 0).omega ∷ (ctl_at car.ctl 0).phase
    ∷ (ctl_at car.ctl 1).gas ∷ (ctl_at car.ctl 1).brake ∷ (ctl_at car.ctl 1).steer ∷ (ctl_at car.ctl 1).omega ∷ (ctl_at car.ctl 1).phase
    ∷ (ctl_at car.ctl 2).gas ∷ (ctl_at car.ctl 2).brake ∷ (ctl_at car.ctl 2).steer ∷ (ctl_at car.ctl 2).omega ∷ (ctl_at car.ctl 2).phase
    ∷ (ctl_at car.ctl 3).gas ∷ (ctl_at car.ctl 3).brake ∷ (ctl_at car.ctl 3).steer ∷ (ctl_at car.ctl 3).omega ∷ (ctl_at car.ctl 3).phase
    ∷ car.fuel_spent
    ∷ []
