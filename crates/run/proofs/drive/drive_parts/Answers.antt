-- `run::drive::drive_parts` meets its contract. Assumes nothing.
use mathlib.Core.Path.{ap, ◌∙◌}
use Rattle.std.specs.Prelude.{Err}
use Rattle.std.proofs.lemmas.Result.{err_from_is_err_and}
use Rattle.run.proofs.DriveLaws.{drive_refused, drive_accepted}
use Rattle.run.specs.Grader.State.{awaiting}
use Rattle.run.proofs.drive.drive_parts.Goals as goal

pub returns-in_err-action : goal.returns-in_err-action
returns-in_err-action c =
    let p = err_from_is_err_and c.from_residual.result c.from_residual.ensures.1 in
    drive_refused _ _ _ _ _ _ _ _ _ _ c.in_err-action.ensures (p.1 ∙ ap Err p.2)

pub returns : goal.returns
unfolding awaiting
returns c = drive_accepted _ _ _ _ _ _ _ _ _ _ _ _ c.in_ok-action.ensures c.roads_of-roads.ensures c.pass-p.ensures
