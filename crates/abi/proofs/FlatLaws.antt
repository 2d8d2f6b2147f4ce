-- From what a call below leaves, and its answer made flat, to the whole of what crosses the boundary. Assumes nothing.
use mathlib.Core.List.{List}
use mathlib.Core.Path.{◌≡◌, sym, ap, ◌∙◌}
use Prim.Native.Nat.{ℕ}
use lib.Ieee.{Float}
use Rattle.std.specs.Prelude.{Result, Ok, Err}
use Rattle.course.specs.declared.cause.Cause.{Cause}
use Rattle.course.specs.Grader.Outcome.{CourseColumns, Outcome, outcome}
use Rattle.course.specs.Grader.Curbs.{Edged, edged}
use Rattle.course.specs.declared.points.LaidCourse.{LaidCourse}
use Rattle.course.specs.declared.points.LayError.{LayError}
use Rattle.run.specs.Grader.Drive.{DroveParts, drove_parts, drive_parts_of}
use Rattle.run.specs.Grader.Settle.{settled_parts, SettledPoses, settled_poses}
use Rattle.run.specs.Grader.Numbers.{motions_from, force_numbers, car_from, car_numbers}
use Rattle.run.specs.declared.state.Setup.{Setup}
use Rattle.run.specs.declared.state.Progress.{Progress}
use Rattle.run.specs.declared.state.Car.{Car}
use Rattle.run.specs.declared.dynamics.Motion.{Motion}
use Rattle.run.specs.declared.dynamics.Force.{Force}
use Rattle.run.specs.declared.settle.SettleValues.{SettleValues}
use Rattle.run.proofs.DriveLaws.{refused-keeps}
use Rattle.abi.specs.Grader.Flat.{flat_laid, flat_curbs, flat_driven, flat_settled}
use Rattle.abi.specs.Grader.InPlace.{DrivenInPlace, driven_in_place, forces_after, drive_in_place, SettledInPlace, settled_in_place}
use Rattle.abi.specs.declared.flat.FlatLaid.{FlatLaid}
use Rattle.abi.specs.declared.flat.FlatCurbs.{FlatCurbs}
use Rattle.abi.specs.declared.flat.FlatDriven.{FlatDriven}
use Rattle.abi.specs.declared.flat.FlatSettled.{FlatSettled}

-- ---- courses

pub laid_whole : (f : FlatLaid) (a : Result LaidCourse LayError) (l : CourseColumns) (o : Outcome) → f ≡ flat_laid a → outcome a l ≡ o → (f ≡ flat_laid o.answer) × (l ≡ o.lent)
laid_whole f a l o e p = (e ∙ ap (λ (q : Outcome). flat_laid q.answer) p, ap (λ (q : Outcome). q.lent) p)

pub curbs_whole : (f : FlatCurbs) (a : Result ℕ Cause) (q : List Float) (w : List ℕ) (o : Edged) → f ≡ flat_curbs a → edged a q w ≡ o
    → (f ≡ flat_curbs o.answer) × ((q ≡ o.quads) × (w ≡ o.white))
curbs_whole f a q w o e p =
    (e ∙ ap (λ (s : Edged). flat_curbs s.answer) p, (ap (λ (s : Edged). s.quads) p, ap (λ (s : Edged). s.white) p))

-- ---- the run

-- an accepted drive: what is written is the car and the forces after; a refused one writes nothing
module _ (m most : ℕ) (u : Setup) (p : Progress) (car : List Float) (wheels : List ℕ) (action : ℕ) (motions forces : List Float) (c : Car) (ms : List Motion)
    {r : Result (List Force) Cause} {p' : Progress} {c' : Car} {f : FlatDriven}
    (is : drove_parts r p' c' ≡ drive_parts_of m most u p c wheels action ms) (ec : c ≡ car_from car) (em : ms ≡ motions_from motions) (flat : f ≡ flat_driven r p') where
  same : drove_parts r p' c' ≡ drive_parts_of m most u p (car_from car) wheels action (motions_from motions)
  same = is ∙ (λ i. drive_parts_of m most u p (ec i) wheels action (em i))

  written : DroveParts → DrivenInPlace
  written d = driven_in_place (flat_driven d.answer d.progress) (car_numbers d.car) (forces_after d.answer forces)

  pub driven_accepted : {fs : List Force} {car' forces' : List Float} → r ≡ Ok fs → car' ≡ car_numbers c' → forces' ≡ force_numbers fs
      → driven_in_place f car' forces' ≡ drive_in_place m most u p car wheels action motions forces
  unfolding drive_in_place forces_after written
  driven_accepted ok eq ef =
      (λ i. driven_in_place (flat i) (eq i) ((ef ∙ ap (λ (x : Result (List Force) Cause). forces_after x forces) (sym ok)) i))
      ∙ ap written same

  pub driven_refused : {x : Cause} → r ≡ Err x → car_numbers c ≡ car
      → driven_in_place f car forces ≡ drive_in_place m most u p car wheels action motions forces
  unfolding drive_in_place forces_after written
  driven_refused {x} err back =
      (λ i. driven_in_place (flat i) (kept i) (ap (λ (z : Result (List Force) Cause). forces_after z forces) (sym err) i))
      ∙ ap written same
    where
      kept : car ≡ car_numbers c'
      kept =
          sym back
          ∙ ap car_numbers (sym (refused-keeps m most u p c wheels action ms x (ap (λ (d : DroveParts). d.answer) (sym is) ∙ err)).1)
          ∙ ap (λ (d : DroveParts). car_numbers d.car) (sym is)

abbrev settled_from : SettledPoses → SettledInPlace
settled_from d = settled_in_place (flat_settled d.parts.answer d.parts.progress) d.parts.credited d.parts.wheels d.poses

pub settled_whole : {a : Result SettleValues Cause} {next : Progress} {c w : List ℕ} {last : List Float} {f : FlatSettled} {d : SettledPoses}
    → f ≡ flat_settled a next → settled_poses (settled_parts a next c w) last ≡ d → settled_in_place f c w last ≡ settled_from d
settled_whole {c = c} {w = w} {last = last} flat e = ap (λ (f : FlatSettled). settled_in_place f c w last) flat ∙ ap settled_from e
