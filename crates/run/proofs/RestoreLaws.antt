-- What a restore answers, by its causes and by what was read. Assumes nothing.
use mathlib.Core.Bool.{true, not, ◌&&◌}
use mathlib.Core.List.{List, [], ◌∷◌, ◌++◌}
use mathlib.Core.Path.{◌≡◌, sym, ap, ◌∙◌, subst}
use Prim.Native.Nat.{ℕ, ◌≤◌}
use native.Mathlib.Omega.{arith}
use Rattle.std.specs.Prelude.{Option, Some, None, Result, Ok, Err}
use lib.Dec.{leb, eqb}
use lib.ListN.{length, take}
use lib.Ieee.{Float}
use borrow.Author.Tests.{le-ltb, not-false, eqb-true, leb-true}
use Rattle.course.specs.Rules.Lengths.{most_points}
use Rattle.course.specs.declared.cause.Cause.{Cause}
use Rattle.course.proofs.BoolLaws.{and_left, and_right}
use Rattle.run.specs.Rules.Arguments.{settings_ok}
use Rattle.run.specs.Grader.State.{State, Columns, short_of}
use Rattle.run.specs.declared.state.WheelCtl.{WheelCtl}
use Rattle.run.specs.declared.state.Car.{Car}
use Rattle.run.specs.Rules.Pass.{ctl_at}
use Rattle.run.specs.Grader.Numbers.{poses_at, control_count, car_from, car_numbers}
use Rattle.run.specs.Grader.Touch.{sound_poses}
use Rattle.run.specs.Grader.Start.{zero_state, first_contact}
use Rattle.run.specs.Grader.Saved.{Fields, sound_fields, loaded}
use Rattle.run.specs.Grader.Restore.{restore_check, run_from, restored_state, after_restore, restore_at, restore_of}
use Rattle.run.proofs.CallLaws.{long, ContactFacts}
use Rattle.run.proofs.FourItems.{four-items}
use Rattle.run.proofs.NumberLaws.{numbers-back}
use Rattle.run.proofs.CheckLaws.{passed}

-- ---- what no cause tells
pub restore-facts : (most : ℕ) (l : Columns) (n : ℕ) (f : Fields) → most ≤ most_points → sound_fields most f ≡ true → Ok tt ≡ restore_check l n (Some f) → ContactFacts most l n (poses_at f.poses 0)
unfolding restore_check sound_fields short_of
restore-facts most l n f m h e =
    let p = passed (not (eqb n f.n)) _ _ (sym e) in
    let q = passed (short_of n l) _ _ p.1 in
    let r = passed (not (sound_poses l.offsets l.list n (poses_at f.poses 0))) _ _ q.1 in
    let same : n ≡ f.n = eqb-true n f.n (not-false (eqb n f.n) p.0) in
    let range = and_left (leb 1 f.n && leb f.n most) _ (and_right (settings_ok f.share f.limit) _ h) in
    let few : n ≤ most = omega (arith, same, leb-true f.n most (and_right (leb 1 f.n) (leb f.n most) range)) in
    record {
      some = omega (arith, same, leb-true 1 f.n (and_left (leb 1 f.n) (leb f.n most) range));
      few = few;
      lent = long (length l.tiles) (length l.offsets) n most q.0 (le-ltb most n few) m;
      sound = not-false (sound_poses l.offsets l.list n (poses_at f.poses 0)) r.0;
    }

-- ---- a car of four wheels is that of its controls and its fuel
parts-kept : (a b c d : WheelCtl) (fuel : Float)
    → let car : Car = record { ctl = a ∷ b ∷ c ∷ d ∷ []; fuel_spent = fuel } in car ≡ car_from (take control_count (car_numbers car) ++ (fuel ∷ []))
unfolding car_numbers
parts-kept a b c d fuel = sym (numbers-back a b c d fuel)

pub car-kept : (car : Car) → length car.ctl ≡ 4 → car ≡ car_from (take control_count (car_numbers car) ++ (car.fuel_spent ∷ []))
car-kept car h =
    subst (λ (l : List WheelCtl). let x : Car = record { ctl = l; fuel_spent = car.fuel_spent } in x ≡ car_from (take control_count (car_numbers x) ++ (car.fuel_spent ∷ [])))
    (sym (four-items car.ctl (ctl_at [] 0) h)) (parts-kept (ctl_at car.ctl 0) (ctl_at car.ctl 1) (ctl_at car.ctl 2) (ctl_at car.ctl 3) car.fuel_spent)

-- ---- the answer
-- a run is the restored one: its credited tiles are the saved ones, and its wheels' sets those of the first contact
pub run-restored : (m : ℕ) (l : Columns) (f : Fields) (s : State) (wheels : List ℕ) → s ≡ run_from f f.credited wheels
    → wheels ≡ (first_contact m l (poses_at f.poses 0)).wheels → s ≡ restored_state m l f
unfolding restored_state
run-restored m l f s wheels e w = e ∙ ap (run_from f f.credited) w

module _ (m most : ℕ) (bs : List ℕ) (l : Columns) (n : ℕ) where
  pub restore-none : None ≡ loaded m most bs → after_restore (Err Cause.Form) (zero_state m) ≡ restore_of m most bs l n
  unfolding restore_of restore_at restore_check
  restore-none e = ap (λ (r : Option Fields). restore_at m (restore_check l n r) l r) e

  pub restore-refused : (f : Fields) (k : Cause) → Some f ≡ loaded m most bs → Err k ≡ restore_check l n (Some f) → after_restore (Err k) (zero_state m) ≡ restore_of m most bs l n
  unfolding restore_of restore_at
  restore-refused f k e c = ap (λ (j : Result Unit Cause). restore_at m j l (Some f)) c ∙ ap (λ (x : Option Fields). restore_at m (restore_check l n x) l x) e

  pub restore-accepted : (s : State) (f : Fields) → Some f ≡ loaded m most bs → Ok tt ≡ restore_check l n (Some f) → s ≡ restored_state m l f → after_restore (Ok tt) s ≡ restore_of m most bs l n
  unfolding restore_of restore_at
  restore-accepted s f e c q =
      ap (after_restore (Ok tt)) q ∙ ap (λ (j : Result Unit Cause). restore_at m j l (Some f)) c ∙ ap (λ (x : Option Fields). restore_at m (restore_check l n x) l x) e
