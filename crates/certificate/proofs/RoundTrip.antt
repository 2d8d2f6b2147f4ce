-- A restore of what a save of a run wrote, on the same course, gives that run's state back; and a save of a run is refused while a settle is due or for
-- room alone. For any number of words that hold the course's tiles. Assumes nothing.
use mathlib.Core.Bool.{Bool, true, false, cond, not, ◌&&◌}
use mathlib.Core.List.{List, [], ◌∷◌}
use mathlib.Core.Path.{◌≡◌, refl, sym, ap, ◌∙◌, subst}
use Prim.Native.Nat.{ℕ, ◌*◌, ◌^◌, ◌≤◌, ◌<◌}
use native.Mathlib.Omega.{arith}
use Rattle.std.specs.Prelude.{Option, Some, Result, Ok, Err}
use lib.Dec.{T, ltb, leb}
use lib.ListN.{length}
use lib.Ieee.{Float, binary64, fits, le}
use borrow.Author.Tests.{leb-true, le-leb, eq-eqb}
use Rattle.course.specs.Rules.Arithmetic.{natural}
use Rattle.course.specs.Grader.Cause.{cause_number, number_of}
use Rattle.course.specs.declared.cause.Cause.{Cause}
use Rattle.course.specs.declared.tiles.TrackPoint.{TrackPoint}
use Rattle.course.proofs.BoolLaws.{and_left, and_right, both}
use Rattle.form.proofs.ByteLaws.{All, Fitting}
use Rattle.run.specs.Rules.Arguments.{settings_ok, poses_ok, save_room}
use Rattle.run.specs.Rules.Wheel.{quad_of}
use Rattle.run.specs.Grader.State.{State, Columns, short_of}
use Rattle.run.specs.Grader.Words.{set_of}
use Rattle.run.specs.Grader.Touch.{sound_poses}
use Rattle.run.specs.Grader.Contact.{wheel_sets, Contacted}
use Rattle.run.specs.Grader.Numbers.{pose_from, poses_at, pose_numbers}
use Rattle.run.specs.Grader.Start.{setup_of, zero_state, first_contact}
use Rattle.run.specs.Grader.Saved.{Fields, fields_of, saved_form, sound_fields}
use Rattle.run.specs.Grader.Save.{save_check}
use Rattle.run.specs.Grader.Restore.{bit_count, restore_check, restored_state, AfterRestore, after_restore, restore_at, restore_of}
use Rattle.run.proofs.CheckLaws.{cause-by}
use Rattle.run.proofs.BelowLaws.{below}
use Rattle.run.proofs.PlainContact.{wheels_by}
use Rattle.run.proofs.NumbersFit.{CarFits, pass_fits, still-fits, car-back, control-many, pose-many}
use Rattle.run.proofs.SavedLaws.{Carried, loaded-back, all-below-set, bit-count-set, small-set}
use Rattle.run.proofs.WordLaws.{length-set_of}
use Rattle.certificate.specs.Claim.Scorer.{Opening, History, opening, drives, settles, last_poses, touch, touched, touched_count, lap_done, ended, passed, save_number}
use Rattle.certificate.specs.Claim.Scorer.History.{begun, then_drive, then_settle}
use Rattle.certificate.specs.Claim.Items.{all_fit}
use Rattle.certificate.specs.Claim.Certificate.{CourseLabel}
use Rattle.certificate.proofs.Simulation.{held, HoldsCourse, history_state, first-contact, fits-state}
use Rattle.run.specs.declared.state.Pose.{Pose}

-- ---- tests as facts
pub fitting : (x : Float) → fits binary64 x ≡ true → Fitting x
fitting x e = subst T (sym e) tt

pub all-fitting : (xs : List Float) → all_fit xs ≡ true → All Fitting xs
unfolding all_fit
all-fitting [] e = tt
all-fitting (x ∷ xs) e = (fitting x (and_left (fits binary64 x) (all_fit xs) e), all-fitting xs (and_right (fits binary64 x) (all_fit xs) e))

limit-small : (share : Float) (limit : ℕ) → settings_ok share limit ≡ true → limit ≤ 1000000
unfolding settings_ok
limit-small share limit e =
    leb-true _ _ (and_right (leb 1 limit) (leb limit 1000000) (and_right (le (natural 0) share && le share (natural 1)) (leb 1 limit && leb limit 1000000) e))

-- ---- controls and fuel after any drives
pub car-fits : (c : List TrackPoint) (h : History) → CarFits (passed c h).car
unfolding passed
car-fits c (begun b) = still-fits
car-fits c (then_drive h a ms) = pass_fits (passed c h).car a ms _ (car-fits c h)
car-fits c (then_settle h x y ps) = car-fits c h

-- ---- the poses of the four wheels, from their numbers
poses-ok-back : (ps : List Pose) → poses_ok (poses_at (pose_numbers ps) 0) ≡ poses_ok ps
unfolding poses_ok poses_at pose_from pose_numbers
poses-ok-back ps = refl

wheels-back : (m n : ℕ) (fits : n ≤ 64 * m) (c : List TrackPoint) (ps : List Pose) → wheels_by m n fits (touch c (poses_at (pose_numbers ps) 0)) ≡ wheels_by m n fits (touch c ps)
unfolding wheel_sets touch quad_of poses_at pose_from pose_numbers
wheels-back m n fits c ps = refl

-- ---- a run's state, on a course of the points c, whose tiles the sets hold
module _ (m most : ℕ) (c : List TrackPoint) (room : most ≤ 64 * m) (some : 0 < length c) (few : length c ≤ most) (small : most < 65536) (label : CourseLabel) where
  -- what an accepted start and accepted settles leave true, of values that bytes can carry
  pub record Whole (h : History) : Type 0 where
    pub within : settles h ≤ (opening h).limit
    pub settings : settings_ok (opening h).share (opening h).limit ≡ true
    pub placed : poses_ok (last_poses h) ≡ true
    pub seed : label.seed < 2 ^ 64
    pub share : fits binary64 (opening h).share ≡ true
    pub poses : all_fit (pose_numbers (last_poses h)) ≡ true

  abbrev pub state_at : History → State
  state_at h = history_state m most c room some few label h

  module _ (h : History) (v : Whole h) where
    abbrev tiles : List ℕ
    tiles = set_of m (below (length c) (touched c h))

    carried : Carried m (fields_of (state_at h))
    unfolding fields_of setup_of
    carried =
        let p : CarFits (passed c h).car = car-fits c h in
        let w : settles h ≤ (opening h).limit = v.within in
        let l : (opening h).limit ≤ 1000000 = limit-small (opening h).share (opening h).limit v.settings in
        let k : length c ≤ most = few in
        let s : label.seed < 2 ^ 64 = v.seed in
        record {
          seed = omega (arith, s);
          limit = omega (arith, l);
          tick = omega (arith, w, l);
          n = omega (arith, k, small);
          share = fitting (opening h).share v.share;
          fuel = p.fuel;
          many = length-set_of m (below (length c) (touched c h));
          words = small-set m (below (length c) (touched c h));
          wheels = control-many (passed c h).car;
          controls = p.controls;
          four = pose-many (last_poses h);
          poses = all-fitting (pose_numbers (last_poses h)) v.poses;
        }

    sound : sound_fields most (fields_of (state_at h)) ≡ true
    unfolding sound_fields fields_of setup_of
    sound =
        both _ _ v.settings
        (both _ _ (both _ _ (le-leb 1 (length c) some) (le-leb (length c) most few))
        (both _ _ (poses-ok-back (last_poses h) ∙ v.placed)
        (both _ _ (all-below-set m (length c) (touched c h)) (le-leb (settles h) (opening h).limit v.within))))

    bits : bit_count tiles ≡ touched_count c h
    unfolding touched_count
    bits = bit-count-set m (length c) (touched c h) (held m most c room some few)

    module _ (even : ltb (settles h) (drives h) ≡ false) (l : Columns) (holds : short_of (length c) l ≡ false → HoldsCourse m most c room some few l) where
      wheels-are : HoldsCourse m most c room some few l
          → (first_contact m l (poses_at (pose_numbers (last_poses h)) 0)).wheels ≡ wheels_by m (length c) (held m most c room some few) (touch c (last_poses h))
      wheels-are w =
          let b : Opening = record { share = (opening h).share; limit = (opening h).limit; poses = poses_at (pose_numbers (last_poses h)) 0 } in
          ap (λ (x : Contacted). x.wheels) (first-contact m most c room some few l b w)
          ∙ wheels-back m (length c) (held m most c room some few) c (last_poses h)

      restored : HoldsCourse m most c room some few l → restored_state m l (fields_of (state_at h)) ≡ state_at h
      unfolding restored_state fields_of setup_of
      restored w = λ i.
          record {
            setup = (state_at h).setup;
            progress = record { visited_count = bits i; tick = settles h; lap = lap_done c h; ended = ended c h; driven = sym even i };
            car = car-back (passed c h).car (car-fits c h).four i;
            credited = tiles;
            wheels = wheels-are w i;
            poses = pose_numbers (last_poses h);
            seed = label.seed;
          }

      abbrev by_length : Bool → AfterRestore
      by_length b = cond b (after_restore (Err Cause.Length) (zero_state m)) (after_restore (Ok tt) (state_at h))

      -- what is left of the causes behind 12
      abbrev cause_left : Bool → Bool → Result Unit Cause
      cause_left isShort isSound = cond isShort (Err Cause.Length) (cond (not isSound) (Err Cause.Index) (Ok tt))

      abbrev sound_at : Bool
      sound_at = sound_poses l.offsets l.list (length c) (poses_at (pose_numbers (last_poses h)) 0)

      go : (b : Bool) → short_of (length c) l ≡ b → restore_at m (cause_left b sound_at) l (Some (fields_of (state_at h))) ≡ by_length b
      unfolding restore_at
      go true e = refl
      go false e =
          ap (λ (b : Bool). restore_at m (cause_left false b) l (Some (fields_of (state_at h)))) ((holds e).sound (poses_at (pose_numbers (last_poses h)) 0))
          ∙ ap (after_restore (Ok tt)) (restored (holds e))

      pub round_trip : restore_of m most (saved_form (fields_of (state_at h))) l (length c) ≡ by_length (short_of (length c) l)
      unfolding restore_of restore_check fields_of setup_of
      round_trip =
          ap (λ (x : Option Fields). restore_at m (restore_check l (length c) x) l x) (loaded-back m most (fields_of (state_at h)) carried sound)
          ∙ ap (λ (b : Bool). restore_at m (cond (not b) (Err Cause.Course) (cause_left (short_of (length c) l) sound_at)) l (Some (fields_of (state_at h)))) (eq-eqb (length c) (length c) refl)
          ∙ go (short_of (length c) l) refl

  pub save-number : (h : History) (n : ℕ) → cause_number (save_check most (state_at h).setup (state_at h).progress n) ≡ save_number c h n
  unfolding save_check save_number cause_number number_of
  save-number h n =
      rw (fits-state m most c room some few label h)
      (cause-by (ltb (settles h) (drives h)) Cause.Turn _ ∙ ap (cond (ltb (settles h) (drives h)) 5) (cause-by (ltb n save_room) Cause.Length (Ok tt)))
