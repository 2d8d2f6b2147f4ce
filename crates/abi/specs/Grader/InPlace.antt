-- Drive and settle for a host that keeps its run where it stands: the car, the sets and the last poses are lent and changed in place, motions are read and forces
-- written as numbers. What such a call answers and leaves is said by the call on the parts of a state. For sets of m words that hold `most` tiles. Assumes nothing.
use Rattle.std.specs.Prelude.{List, ℕ, Float, Result, Ok, Err}
use Rattle.course.specs.declared.cause.Cause.{Cause}
use Rattle.run.specs.Grader.State.{Columns}
use Rattle.run.specs.Grader.Drive.{drive_parts_of}
use Rattle.run.specs.Grader.Settle.{settle_poses_of}
use Rattle.run.specs.Grader.Numbers.{motions_from, force_numbers, car_from, car_numbers}
use Rattle.run.specs.declared.state.Setup.{Setup}
use Rattle.run.specs.declared.state.Progress.{Progress}
use Rattle.run.specs.declared.state.Pose.{Pose}
use Rattle.run.specs.declared.dynamics.Force.{Force}
use Rattle.abi.specs.Grader.Flat.{flat_driven, flat_settled}
use Rattle.abi.specs.declared.flat.FlatDriven.{FlatDriven}
use Rattle.abi.specs.declared.flat.FlatSettled.{FlatSettled}

-- ---- drive

-- what it answers, and what it leaves in the lent car and forces
pub record DrivenInPlace : Type 0 where
  pub answer : FlatDriven
  pub car : List Float
  pub forces : List Float

abbrev pub driven_in_place : FlatDriven → List Float → List Float → DrivenInPlace
driven_in_place r car forces = record { answer = r; car = car; forces = forces }

-- the forces are written where it is accepted, and stay as they were lent where it is not
unfoldable pub forces_after : Result (List Force) Cause → List Float → List Float
forces_after (Ok fs) forces = force_numbers fs
forces_after (Err c) forces = forces

unfoldable pub drive_in_place : ℕ → ℕ → Setup → Progress → List Float → List ℕ → ℕ → List Float → List Float → DrivenInPlace
drive_in_place m most u p car wheels action motions forces =
    let d = drive_parts_of m most u p (car_from car) wheels action (motions_from motions) in
    driven_in_place (flat_driven d.answer d.progress) (car_numbers d.car) (forces_after d.answer forces)

-- ---- settle

-- what it answers, and what it leaves in the lent sets and last poses
pub record SettledInPlace : Type 0 where
  pub answer : FlatSettled
  pub credited : List ℕ
  pub wheels : List ℕ
  pub poses : List Float

abbrev pub settled_in_place : FlatSettled → List ℕ → List ℕ → List Float → SettledInPlace
settled_in_place r credited wheels last = record { answer = r; credited = credited; wheels = wheels; poses = last }

unfoldable pub settle_in_place : ℕ → ℕ → Setup → Progress → List ℕ → List ℕ → List Float → Columns → Float → Float → List Pose → SettledInPlace
settle_in_place m most u p credited wheels last l x y ps =
    let d = settle_poses_of m most u p credited wheels last l x y ps in
    settled_in_place (flat_settled d.parts.answer d.parts.progress) d.parts.credited d.parts.wheels d.poses
