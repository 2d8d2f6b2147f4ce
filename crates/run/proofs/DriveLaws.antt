-- The tyre pass from its steps, and what a drive answers, by its cause: a refused one leaves all as it was. For any number of words. Assumes nothing.
use mathlib.Core.Path.{◌≡◌, refl, ap, ◌∙◌}
use mathlib.Core.Bool.{Bool, cond, not, ◌||◌}
use mathlib.Core.List.{List}
use Prim.Native.Nat.{ℕ}
use lib.Dec.{ltb, leb}
use lib.Ieee.{Float}
use Rattle.std.specs.Prelude.{Result, Ok, Err}
use Rattle.course.specs.Grader.Cause.{number_of, cause_number}
use Rattle.course.specs.declared.cause.Cause.{Cause}
use Rattle.run.specs.Rules.Arguments.{motion_at, motions_ok}
use Rattle.run.specs.Rules.Dynamics.{TyreForce, PassedWheel, turning_of, limit_of, held_of, push_of, finish_of, tyre_of}
use Rattle.run.specs.Grader.State.{awaiting, unfit}
use Rattle.run.specs.Steps.Drive.{told}
use Rattle.run.proofs.ActionLaws.{told_refused, told_passed, told_number}
use Rattle.run.proofs.CheckLaws.{cause-by, none-number}
use Rattle.run.specs.Grader.Grip.{roads_of}
use Rattle.run.specs.Rules.Pass.{front_of, rear_of, ctl_at, road_at, Passed, tyres_passed, gathered_of, pass_of}
use Rattle.run.specs.Grader.Drive.{drive_check, drove_parts, drive_at, drive_parts_of}
use Rattle.run.specs.declared.state.WheelCtl.{WheelCtl}
use Rattle.run.specs.declared.state.Setup.{Setup}
use Rattle.run.specs.declared.state.Progress.{Progress}
use Rattle.run.specs.declared.state.Car.{Car}
use Rattle.run.specs.declared.dynamics.Motion.{Motion}
use Rattle.run.specs.declared.dynamics.Force.{Force}

-- ---- the pass

-- the steps of a wheel's pass are the tyre rule
pub wheel_passed : (w : WheelCtl) (m : Motion) (road : Bool) (fuel omega : Float) (push s : TyreForce) (t : PassedWheel) → omega ≡ turning_of w → push ≡ push_of omega m
    → s ≡ held_of (limit_of road) push.along push.across → t ≡ finish_of w m omega s fuel → t ≡ tyre_of w m road fuel
unfolding tyre_of
wheel_passed w m road fuel omega push s t eo ep es et =
    let p = ep ∙ ap (λ (x : Float). push_of x m) eo in
    et ∙ (λ i. finish_of w m (eo i) ((es ∙ ap (λ (x : TyreForce). held_of (limit_of road) x.along x.across) p) i) fuel)

-- the four wheels, the fuel going from one to the next
pub pass_from : (car : Car) (action : ℕ) (ms : List Motion) (roads : List Bool) (w₀ w₁ w₂ w₃ : WheelCtl) (a b c d : PassedWheel)
    → w₀ ≡ front_of action (ctl_at car.ctl 0) → w₁ ≡ front_of action (ctl_at car.ctl 1) → w₂ ≡ rear_of action (ctl_at car.ctl 2) → w₃ ≡ rear_of action (ctl_at car.ctl 3)
    → a ≡ tyre_of w₀ (motion_at ms 0) (road_at roads 0) car.fuel_spent → b ≡ tyre_of w₁ (motion_at ms 1) (road_at roads 1) a.fuel
    → c ≡ tyre_of w₂ (motion_at ms 2) (road_at roads 2) b.fuel → d ≡ tyre_of w₃ (motion_at ms 3) (road_at roads 3) c.fuel
    → gathered_of a b c d ≡ pass_of car action ms roads
unfolding pass_of
pass_from car action ms roads w₀ w₁ w₂ w₃ a b c d e₀ e₁ e₂ e₃ ha hb hc hd =
    let pa = ha ∙ (λ i. tyre_of (e₀ i) (motion_at ms 0) (road_at roads 0) car.fuel_spent) in
    let pb = hb ∙ (λ i. tyre_of (e₁ i) (motion_at ms 1) (road_at roads 1) (pa i).fuel) in
    let pc = hc ∙ (λ i. tyre_of (e₂ i) (motion_at ms 2) (road_at roads 2) (pb i).fuel) in
    let pd = hd ∙ (λ i. tyre_of (e₃ i) (motion_at ms 3) (road_at roads 3) (pc i).fuel) in
    λ i. gathered_of (pa i) (pb i) (pc i) (pd i)

-- ---- the call on its parts, by its cause
-- the answer's number is the check's
number_at : (x : Result Unit Cause) (p : Progress) (car : Car) (d : Passed) → cause_number (drive_at x p car d).answer ≡ cause_number x
unfolding drive_at cause_number
number_at (Ok none) p car d = refl
number_at (Err c) p car d = refl

module _ (m most : ℕ) (u : Setup) (p : Progress) (car : Car) (wheels : List ℕ) (action : ℕ) (ms : List Motion) where
  pub drive_refused : (r : Result (List Force) Cause) (c : Cause) → Err c ≡ told action (drive_check most u p action ms) → r ≡ Err c
      → drove_parts r p car ≡ drive_parts_of m most u p car wheels action ms
  unfolding drive_parts_of drive_at
  drive_refused r c e h =
      ap (λ (x : Result (List Force) Cause). drove_parts x p car) h
      ∙ ap (λ (x : Result Unit Cause). drive_at x p car (pass_of car action ms (roads_of m wheels))) (told_refused _ _ e)

  pub drive_accepted : (number : ℕ) (roads : List Bool) (after : Car) (fs : List Force) → Ok number ≡ told action (drive_check most u p action ms) → roads ≡ roads_of m wheels
      → tyres_passed after fs ≡ pass_of car number ms roads → drove_parts (Ok fs) (awaiting p) after ≡ drive_parts_of m most u p car wheels action ms
  unfolding drive_parts_of drive_at
  drive_accepted number roads after fs e on h =
      ap (λ (d : Passed). drove_parts (Ok d.forces) (awaiting p) d.car) (h ∙ (λ i. pass_of car (told_number _ _ _ e i) ms (on i)))
      ∙ ap (λ (x : Result Unit Cause). drive_at x p car (pass_of car action ms (roads_of m wheels))) (told_passed _ _ _ e)

  pub number : cause_number (drive_parts_of m most u p car wheels action ms).answer ≡ cause_number (drive_check most u p action ms)
  unfolding drive_parts_of
  number = number_at _ _ _ _

  -- the number of its cause
  pub drive-cause-number : cause_number (drive_check most u p action ms)
      ≡ cond (unfit most u p || p.ended) 4 (cond p.driven 5 (cond (leb u.tick_limit p.tick) 6 (cond (ltb 4 action) 7 (cond (not (motions_ok ms)) 8 0))))
  unfolding drive_check number_of
  drive-cause-number = simp (cause-by, none-number)

  kept-at : (x : Result Unit Cause) (d : Passed) (c : Cause) → (drive_at x p car d).answer ≡ Err c → ((drive_at x p car d).progress ≡ p) × ((drive_at x p car d).car ≡ car)
  unfolding drive_at
  kept-at (Ok none) d c e = absurd (cc)
  kept-at (Err b) d c e = (refl, refl)

  -- a refused drive
  pub refused-keeps : (c : Cause) → (drive_parts_of m most u p car wheels action ms).answer ≡ Err c
      → ((drive_parts_of m most u p car wheels action ms).progress ≡ p) × ((drive_parts_of m most u p car wheels action ms).car ≡ car)
  unfolding drive_parts_of
  refused-keeps c e = kept-at _ _ c e
