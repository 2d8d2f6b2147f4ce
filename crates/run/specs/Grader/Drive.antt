-- Document 01, "Drive" and "Refusals by cause" (drive 4, 5, 6, 7, 8): the causes in their order, the answer and the state after. Assumes nothing.
use Rattle.std.specs.Prelude.{cond, not, ◌||◌, List, ℕ, ltb, leb, Result, Ok, Err}
use Rattle.course.specs.declared.cause.Cause.{Cause}
use Rattle.course.specs.declared.cause.Cause.TheVariants.{State as NoRun, Turn, Limit, Action, Range}
use Rattle.run.specs.Grader.State.{State, state_of, awaiting, unfit}
use Rattle.run.specs.Rules.Arguments.{motions_ok}
use Rattle.run.specs.Rules.Pass.{Passed, pass_of}
use Rattle.run.specs.Grader.Grip.{roads_of}
use Rattle.run.specs.declared.state.Setup.{Setup}
use Rattle.run.specs.declared.state.Progress.{Progress}
use Rattle.run.specs.declared.state.Car.{Car}
use Rattle.run.specs.declared.dynamics.Motion.{Motion}
use Rattle.run.specs.declared.dynamics.Force.{Force}

-- ---- refusals

-- The first cause that holds, if one does: 4 a state that is no run's or has ended, 5 out of turn, 6 the tick limit, 7 the action, 8 a number. Sets hold
-- `most` tiles.
unfoldable pub drive_check : ℕ → Setup → Progress → ℕ → List Motion → Result Unit Cause
drive_check most u p action ms =
    cond (unfit most u p || p.ended) (Err NoRun)
    (cond p.driven (Err Turn)
    (cond (leb u.tick_limit p.tick) (Err Limit)
    (cond (ltb 4 action) (Err Action)
    (cond (not (motions_ok ms)) (Err Range) (Ok tt)))))

-- ---- the call

-- an answer, and the parts that a drive changes
pub record DroveParts : Type 0 where
  pub answer : Result (List Force) Cause
  pub progress : Progress
  pub car : Car

abbrev pub drove_parts : Result (List Force) Cause → Progress → Car → DroveParts
drove_parts r p car = record { answer = r; progress = p; car = car }

-- no cause: the forces, the car after the pass, and a settle awaited; a cause: all as it was
unfoldable pub drive_at : Result Unit Cause → Progress → Car → Passed → DroveParts
drive_at (Ok none) p car d = drove_parts (Ok d.forces) (awaiting p) d.car
drive_at (Err c) p car d = drove_parts (Err c) p car

-- on the parts that it reads and changes, in sets of m words to a wheel, which hold `most` tiles
unfoldable pub drive_parts_of : ℕ → ℕ → Setup → Progress → Car → List ℕ → ℕ → List Motion → DroveParts
drive_parts_of m most u p car wheels action ms = drive_at (drive_check most u p action ms) p car (pass_of car action ms (roads_of m wheels))

-- an answer, and the state beside it
pub record Driven : Type 0 where
  pub answer : Result (List Force) Cause
  pub state : State

abbrev pub driven : Result (List Force) Cause → State → Driven
driven r s = record { answer = r; state = s }

-- on a whole state
unfoldable pub drive_of : ℕ → ℕ → State → ℕ → List Motion → Driven
drive_of m most s action ms =
    let d = drive_parts_of m most s.setup s.progress s.car s.wheels action ms in
    driven d.answer (state_of s.setup d.progress d.car s.credited s.wheels s.poses s.seed)
