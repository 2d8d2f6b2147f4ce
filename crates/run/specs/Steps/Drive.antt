-- Document 01, "Drive": a wheel's set by its words, and the code's structs of the tyre pass, as private functions of `drive` and
-- `dynamics` say it. Assumes nothing.
use Rattle.std.specs.Prelude.{Bool, not, ℕ, eqb, Result}
use Rattle.std.specs.Result.{result_map_both}
use Rattle.course.specs.declared.cause.Cause.{Cause}
use Rattle.run.specs.Rules.Dynamics.{TyreForce, PassedWheel}
use Rattle.run.specs.declared.drive.Action.{Action}
use Rattle.run.specs.declared.drive.Action.TheVariants.{Nothing, Right, Left, Gas, Brake}
use Rattle.run.specs.declared.dynamics.TyreForce.{TyreForce as CodeTyreForce}
use Rattle.run.specs.declared.dynamics.Turned.{Turned as CodeTurned}

-- ---- the code's structs as the definitions' own
abbrev pub tyre_force_as : CodeTyreForce → TyreForce
tyre_force_as s = record { along = s.f_force; across = s.p_force }

abbrev pub wheel_as : CodeTurned → PassedWheel
wheel_as t = record { ctl = t.ctl; force = t.force; fuel = t.fuel_spent }

-- ---- an action by its number
abbrev pub action_number : Action → ℕ
action_number Nothing = 0
action_number Right = 1
action_number Left = 2
action_number Gas = 3
action_number Brake = 4

-- what is refused, or the number of what is not
abbrev pub numbered : Result Action Cause → Result ℕ Cause
numbered r = result_map_both action_number (λ c. c) r

-- a check of a call with this action, and its number where none ended it
abbrev pub told : ℕ → Result Unit Cause → Result ℕ Cause
told action r = result_map_both (λ none. action) (λ c. c) r

-- ---- a word of a set

-- it is not 0
unfoldable pub stands : ℕ → Bool
stands w = not (eqb w 0)
