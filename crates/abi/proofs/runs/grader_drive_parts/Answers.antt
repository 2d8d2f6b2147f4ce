-- `abi::runs::grader_drive_parts` meets its contract. Assumes nothing.
use Rattle.course.specs.Grader.Cause.{cause_number}
use Rattle.abi.proofs.FlatLaws.{driven_accepted, driven_refused}
use Rattle.abi.proofs.runs.grader_drive_parts.Goals as goal

pub returns-in-Ok : goal.returns-in-Ok
unfolding cause_number
returns-in-Ok c =
    driven_accepted _ _ _ _ _ _ _ _ _ _ _ c.drive_parts-said.ensures c.car_from-after.ensures.value c.motions_from-given.ensures c.from-told.ensures
    c.in-Ok.is c.put_car.ensures c.put_forces.ensures

pub returns-in_default : goal.returns-in_default
unfolding cause_number
returns-in_default c =
    driven_refused _ _ _ _ _ _ _ _ _ _ _ c.drive_parts-said.ensures c.car_from-after.ensures.value c.motions_from-given.ensures c.from-told.ensures
    c.in_default.is c.car_from-after.ensures.result_value
