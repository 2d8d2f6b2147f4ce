-- The grader's state is a function of the plain scorer's history, and each call keeps it so: what is answered is the scorer's answer.
-- For any number of words that hold the course's tiles. Assumes nothing.
use mathlib.Core.Bool.{Bool, true, false, not, ◌&&◌, ◌||◌, and-true, and-false}
use mathlib.Core.List.{List, [], ◌∷◌, ◌++◌}
use mathlib.Core.Path.{◌≡◌, refl, sym, ap, ap₂, ◌∙◌}
use Prim.Native.Nat.{ℕ, zero, suc, ◌+◌, ◌*◌, ◌≤◌, ◌<◌}
use native.Mathlib.Nat.{zero-mul, suc-mul, le_trans}
use native.Mathlib.Omega.{arith}
use Rattle.std.specs.Prelude.{Result}
use lib.Dec.{ltb, leb}
use lib.ListN.{length, replicate, length-replicate, replicate-append-replicate}
use lib.Ieee.{Float}
use borrow.Author.Tests.{ltb-true, lt-ltb, le-ltb, lt-leb, not-false}
use Rattle.std.specs.Prelude.{Ok, Err}
use Rattle.course.specs.Grader.Cause.{number_of, cause_number}
use Rattle.course.specs.declared.cause.Cause.{Cause}
use Rattle.course.specs.declared.tiles.TrackPoint.{TrackPoint}
use Rattle.run.specs.Rules.Below.{any_below, how_many}
use Rattle.run.specs.Rules.Arguments.{places_ok}
use Rattle.run.specs.Grader.State.{State, awaiting, Columns, short_of, unfit}
use Rattle.run.specs.Grader.Words.{set_of}
use Rattle.run.specs.Rules.Wheel.{quad_of}
use Rattle.run.specs.Grader.Touch.{touched_by, sound_poses}
use Rattle.run.specs.Grader.Contact.{wheel_sets, Contacted, contacted, contact_of}
use Rattle.run.specs.Grader.Grip.{on_road, roads_of}
use Rattle.run.specs.Grader.Numbers.{pose_numbers}
use Rattle.run.specs.Rules.Lap.{above_share, lap_of, off_field, end_of}
use Rattle.run.specs.Rules.Pass.{pass_of}
use Rattle.run.specs.Grader.Start.{setup_of, first_progress, first_contact, started_by}
use Rattle.run.specs.Grader.Drive.{DroveParts, drive_check, drive_at, drive_parts_of, drive_of}
use Rattle.run.specs.Grader.Settle.{settle_check, settled_progress, SettledParts, settled_parts, settled_by, settle_at, settle_parts_of, poses_after, settle_poses_of, settle_of}
use Rattle.certificate.specs.Grader.Calls.{Call, Replied, drive_said, settle_said, reply_of}
use Rattle.certificate.specs.Claim.Scorer.{Opening, Told, History, opening, drives, settles, last_poses, off, Scored, touch, touches, touched, touched_count, new_tiles, meets_lap, lap_done, over, ended, grip, grips, passed, drive_number, settle_number, drive_score, settle_score, score}
use Rattle.certificate.specs.Claim.Scorer.History.{begun, then_drive, then_settle}
use Rattle.certificate.specs.Claim.Items.{lengths_of}
use Rattle.certificate.specs.Claim.Certificate.{CourseLabel, settings_for, progress_by}
use Rattle.run.specs.declared.state.Pose.{Pose}
use Rattle.run.specs.declared.state.Progress.{Progress}
use Rattle.run.specs.declared.dynamics.Motion.{Motion}
use Rattle.run.specs.declared.settle.SettleValues.{SettleValues}
use Rattle.course.proofs.BoolLaws.{right-false, cond-else, cond-skip, cleared}
use Rattle.run.proofs.WordLaws.{get_d-zeros, how_many-cong, how_many-or, set_of-cong}
use Rattle.run.proofs.CreditLaws.{few, empty-words}
use Rattle.run.proofs.AnyLaws.{any_none}
use Rattle.run.proofs.CheckLaws.{number-not-0, none-number}
use Rattle.run.proofs.DriveLaws.{drive-cause-number}
use Rattle.run.proofs.CallLaws.{settle-cause-number}
use Rattle.certificate.specs.Rules.Answers.Answer.{refused}
use Rattle.certificate.proofs.ScoreLaws.{InTurn}
use Rattle.run.proofs.BelowLaws.{below, all_pass}
use Rattle.run.proofs.PlainContact.{credited_by, wheels_by, on-road, contact-is, sets-cong}

-- ---- no tile: words of 0
no_tile : (m : ℕ) → replicate m 0 ≡ set_of m (λ t. false)
no_tile m = empty-words m (replicate m 0) (length-replicate m 0) (λ j _. get_d-zeros m j)

no-tiles : (m k : ℕ) → replicate (k * m) 0 ≡ wheel_sets m (λ w t. false) k
unfolding wheel_sets
no-tiles m zero = ap (λ (x : ℕ). replicate x 0) (zero-mul m)
no-tiles m (suc k) =
    ap (λ (x : ℕ). replicate x 0) (suc-mul k m)
    ∙ sym (replicate-append-replicate (k * m) m 0)
    ∙ ap₂ ◌++◌ (no-tiles m k) (no_tile m)

-- ---- on a course of the points c, whose tiles the sets hold
module _ (m most : ℕ) (c : List TrackPoint) (room : most ≤ 64 * m) (some : 0 < length c) (fits : length c ≤ most) where
  pub held : length c ≤ 64 * m
  held = le_trans fits room

  -- the lent columns hold the course: look-up and lent tiles say what the rectangles and the course's tiles say, and nothing in the index is out of place
  pub record HoldsCourse (l : Columns) : Type 0 where
    pub same : (ps : List Pose) (w t : ℕ) → touched_by l.tiles l.offsets l.list (quad_of ps w) t ≡ below (length c) (touch c ps w) t
    pub sound : (ps : List Pose) → sound_poses l.offsets l.list (length c) ps ≡ true

  -- the state that the accepted calls lead to
  abbrev pub history_state : CourseLabel → History → State
  history_state label h =
      record {
        setup = setup_of (settings_for (length c) label (opening h));
        progress = progress_by c h;
        car = (passed c h).car;
        credited = credited_by m (length c) held (touched c h);
        wheels = wheels_by m (length c) held (touch c (last_poses h));
        poses = pose_numbers (last_poses h);
        seed = label.seed;
      }

  abbrev pub with_state : CourseLabel → Scored → Replied
  with_state label s = record { answer = s.answer; state = history_state label s.kept }

  -- tiles of the last contact are touched
  last-touched : (h : History) (t : ℕ) → touched c h t ≡ false → any_below 4 (λ w. touch c (last_poses h) w t) ≡ false
  unfolding touched touches last_poses
  last-touched (begun b) t e = e
  last-touched (then_drive h a ms) t e = last-touched h t e
  last-touched (then_settle h x y ps) t e = right-false (touched c h t) (touches c ps t) e

  -- ---- contacts
  settle-contact : (h : History) (l : Columns) (x y : Float) (ps : List Pose) → HoldsCourse l
      → contact_of m (credited_by m (length c) held (touched c h)) (wheels_by m (length c) held (touch c (last_poses h))) (λ w. touched_by l.tiles l.offsets l.list (quad_of ps w))
      ≡ contacted (credited_by m (length c) held (touched c (then_settle h x y ps))) (wheels_by m (length c) held (touch c ps)) (new_tiles c h ps)
      (any_below 4 (λ w. touch c ps w 0 && not (touch c (last_poses h) w 0)))
  unfolding touched touches new_tiles
  settle-contact h l x y ps w =
      contact-is m (length c) held (touched c h) (touch c (last_poses h)) (λ v. touched_by l.tiles l.offsets l.list (quad_of ps v)) (touch c ps)
      some (last-touched h) (w.same ps)

  pub first-contact : (l : Columns) (b : Opening) → HoldsCourse l
      → first_contact m l b.poses
      ≡ contacted (credited_by m (length c) held (touched c (begun b))) (wheels_by m (length c) held (touch c b.poses)) (touched_count c (begun b))
      (any_below 4 (λ w. touch c b.poses w 0 && not false))
  unfolding first_contact touched touches touched_count
  first-contact l b w =
      ap₂ (λ (x y : List ℕ). contact_of m x y (λ v. touched_by l.tiles l.offsets l.list (quad_of b.poses v))) none nones
      ∙ contact-is m (length c) held (λ t. false) (λ v t. false) (λ v. touched_by l.tiles l.offsets l.list (quad_of b.poses v)) (touch c b.poses)
      some (λ t _. nobody) (w.same b.poses)
      ∙ ap (λ (k : ℕ). contacted (credited_by m (length c) held (touches c b.poses)) (wheels_by m (length c) held (touch c b.poses)) k
      (any_below 4 (λ v. touch c b.poses v 0 && not false))) all
    where
      none : replicate m 0 ≡ credited_by m (length c) held (λ t. false)
      none = no_tile m ∙ set_of-cong m (λ t. false) (below (length c) (λ t. false)) (λ t _. sym (and-false (ltb t (length c))))

      nones : replicate (4 * m) 0 ≡ wheels_by m (length c) held (λ v t. false)
      nones = no-tiles m 4 ∙ sets-cong m (λ v t. false) (λ v. below (length c) (λ t. false)) 4 (λ v t _. sym (and-false (ltb t (length c))))

      nobody : any_below 4 (λ v. false) ≡ false
      nobody = any_none 4 (λ v. false) (λ v _. refl)

      all : how_many (length c) (λ t. any_below 4 (λ v. touch c b.poses v t) && not false) ≡ how_many (length c) (touches c b.poses)
      all = how_many-cong (length c) (λ t. any_below 4 (λ v. touch c b.poses v t) && not false) (touches c b.poses) (λ t _. and-true (touches c b.poses t))

  -- ---- start
  pub started : (l : Columns) (b : Opening) (label : CourseLabel) → HoldsCourse l
      → started_by (settings_for (length c) label b) (first_contact m l b.poses)
      ≡ record { answer = Result.Ok (record { count = touched_count c (begun b); lap = lap_done c (begun b) }); state = history_state label (begun b) }
  unfolding started_by first_progress lap_of lap_done meets_lap opening settles drives last_poses ended passed
  started l b label w = ap (started_by (settings_for (length c) label b)) (first-contact l b w)

  -- ---- drive
  roads-are : (h : History) → roads_of m (wheels_by m (length c) held (touch c (last_poses h))) ≡ grips c h
  unfolding roads_of grips grip
  roads-are h = λ i. at 0 (omega arith) i ∷ at 1 (omega arith) i ∷ at 2 (omega arith) i ∷ at 3 (omega arith) i ∷ []
    where
      at : (w : ℕ) → w < 4 → on_road m (wheels_by m (length c) held (touch c (last_poses h))) w ≡ any_below (length c) (touch c (last_poses h) w)
      at w l = on-road m (length c) held (touch c (last_poses h)) w l

  pub fits-state : (label : CourseLabel) (h : History) → unfit most (setup_of (settings_for (length c) label (opening h))) (progress_by c h) ≡ false
  unfolding unfit setup_of touched_count
  fits-state label h =
      rw (le-ltb (length c) 1 some, le-ltb most (length c) fits, le-ltb (length c) (how_many (length c) (touched c h)) (few (length c) (touched c h)))

  drive-number : (label : CourseLabel) (h : History) (a : ℕ) (ms : List Motion) → cause_number (drive_check most (setup_of (settings_for (length c) label (opening h))) (progress_by c h) a ms) ≡ drive_number c h a ms
  unfolding drive_number setup_of
  drive-number label h a ms =
      drive-cause-number m most (setup_of (settings_for (length c) label (opening h))) (progress_by c h) (passed c h).car [] a ms ∙ rw (fits-state label h)

  -- the answer and the state after, by what a drive leaves of its parts
  abbrev drove_by : CourseLabel → History → DroveParts → Replied
  drove_by label h d =
      record {
        answer = drive_said d.answer;
        state = record {
          setup = setup_of (settings_for (length c) label (opening h));
          progress = d.progress;
          car = d.car;
          credited = credited_by m (length c) held (touched c h);
          wheels = wheels_by m (length c) held (touch c (last_poses h));
          poses = pose_numbers (last_poses h);
          seed = label.seed;
        };
      }

  drive-refused : (k : ℕ) (h : History) (a : ℕ) (ms : List Motion) → (k ≡ 0 → ⊥) → record { answer = refused k; kept = h } ≡ drive_score c k h a ms
  unfolding drive_score
  drive-refused zero h a ms n = absurd (n refl)
  drive-refused (suc k) h a ms n = refl

  drive-at : (label : CourseLabel) (h : History) → InTurn h → (a : ℕ) (ms : List Motion) (roads : List Bool) (r : Result Unit Cause) → roads ≡ grips c h
      → drove_by label h (drive_at r (progress_by c h) (passed c h).car (pass_of (passed c h).car a ms roads)) ≡ with_state label (drive_score c (cause_number r) h a ms)
  unfolding cause_number drive_at drive_score awaiting touched last_poses touched_count lap_done ended over off opening settles drives passed
  drive-at label h v a ms roads (Ok none) e = λ i.
      drove_by label h (record {
        answer = Ok (pass_of (passed c h).car a ms (e i)).forces;
        progress = record { visited_count = touched_count c h; tick = settles h; lap = lap_done c h; ended = ended c h; driven = sym (lt-ltb (settles h) (drives h + 1) (next v.ahead)) i };
        car = (pass_of (passed c h).car a ms (e i)).car;
      })
    where
      next : {a b : ℕ} → a ≤ b → a < b + 1
      next l = omega arith
  drive-at label h v a ms roads (Err b) e = ap (with_state label) (drive-refused (number_of b) h a ms (number-not-0 b))

  -- ---- settle
  settle-number : (label : CourseLabel) (h : History) → InTurn h → (l : Columns) (x y : Float) (ps : List Pose) → (short_of (length c) l ≡ false → HoldsCourse l)
      → cause_number (settle_check most (setup_of (settings_for (length c) label (opening h))) (progress_by c h) l x y ps) ≡ settle_number c h (lengths_of l) x y ps
  unfolding settle_number short_of lengths_of setup_of
  settle-number label h v l x y ps w =
      settle-cause-number most (setup_of (settings_for (length c) label (opening h))) (progress_by c h) l x y ps
      ∙ rw (fits-state label h)
      (cond-else (ended c h) 4 _ _ (λ e₁.
      cond-else (not (ltb (settles h) (drives h))) 5 _ _ (λ e₂.
      cond-skip (leb (opening h).limit (settles h)) 6 _ (lt-leb (opening h).limit (settles h) (v.time (ltb-true _ _ (not-false _ e₂))))
      ∙ cond-else (short_of (length c) l) 2 _ _ (λ e₃.
      cond-else (not (places_ok x y ps)) 8 _ _ (λ e₄. cond-skip (not (sound_poses l.offsets l.list (length c) ps)) 10 0 (ap not ((w e₃).sound ps)))))))

  count-is : (h : History) (x y : Float) (ps : List Pose) → touched_count c h + new_tiles c h ps ≡ touched_count c (then_settle h x y ps)
  unfolding touched_count new_tiles touched
  count-is h x y ps = sym (how_many-or (length c) (touched c h) (touches c ps))

  end_is : (h : History) (x y : Float) (ps : List Pose)
      → end_of (touched_count c (then_settle h x y ps)) (length c) (lap_done c (then_settle h x y ps)) (off_field x y) ≡ ended c (then_settle h x y ps)
  unfolding end_of ended over off settles touched_count
  end_is h x y ps =
      rw (lt-ltb 0 (settles h + 1) (omega arith))
      (ap (λ (b : Bool). b || (lap_done c (then_settle h x y ps) || off_field x y)) (all_pass (length c) (touched c (then_settle h x y ps))))

  -- some wheel enters tile 0
  abbrev enters_zero : History → List Pose → Bool
  enters_zero h ps = any_below 4 (λ w. touch c ps w 0 && not (touch c (last_poses h) w 0))

  settled-progress : (label : CourseLabel) (h : History) → InTurn h → (x y : Float) (ps : List Pose)
      → settled_progress (setup_of (settings_for (length c) label (opening h))) (progress_by c h) (new_tiles c h ps) (enters_zero h ps) (off_field x y) ≡ progress_by c (then_settle h x y ps)
  unfolding settled_progress setup_of lap_of opening settles drives lap_done meets_lap
  settled-progress label h v x y ps =
      (λ i. at (count-is h x y ps i) (lap_at (count-is h x y ps i)) (end_of (count-is h x y ps i) (length c) (lap_at (count-is h x y ps i)) (off_field x y)) (sym (le-ltb (settles h + 1) (drives h) v.close) i))
      ∙ ap (λ (e : Bool). at (touched_count c (then_settle h x y ps)) (lap_done c (then_settle h x y ps)) e (ltb (settles h + 1) (drives h))) (end_is h x y ps)
    where
      -- the lap where so many tiles are credited
      lap_at : ℕ → Bool
      lap_at count = lap_done c h || (enters_zero h ps && above_share count (length c) (opening h).share)

      at : ℕ → Bool → Bool → Bool → Progress
      at count lap e driven = record { visited_count = count; tick = settles h + 1; lap = lap; ended = e; driven = driven }

  -- the answer and the state after, by what a settle leaves of its parts
  abbrev settled_from : CourseLabel → History → List Pose → SettledParts → Replied
  settled_from label h ps d =
      record {
        answer = settle_said d.answer;
        state = record {
          setup = setup_of (settings_for (length c) label (opening h));
          progress = d.progress;
          car = (passed c h).car;
          credited = d.credited;
          wheels = d.wheels;
          poses = poses_after d.answer ps (pose_numbers (last_poses h));
          seed = label.seed;
        };
      }

  settle-refused : (k : ℕ) (h : History) (x y : Float) (ps : List Pose) → (k ≡ 0 → ⊥) → record { answer = refused k; kept = h } ≡ settle_score c k h x y ps
  unfolding settle_score
  settle-refused zero h x y ps n = absurd (n refl)
  settle-refused (suc k) h x y ps n = refl

  settle-at : (label : CourseLabel) (h : History) → InTurn h → (l : Columns) (x y : Float) (ps : List Pose) (r : Result Unit Cause) → (r ≡ Ok tt → HoldsCourse l)
      → settled_from label h ps (settle_at m r (setup_of (settings_for (length c) label (opening h))) (progress_by c h) (credited_by m (length c) held (touched c h)) (wheels_by m (length c) held (touch c (last_poses h))) l x y ps)
      ≡ with_state label (settle_score c (cause_number r) h x y ps)
  unfolding cause_number settle_at settle_score settled_by poses_after setup_of off last_poses opening passed
  settle-at label h v l x y ps (Ok none) w =
      ap (λ (g : Contacted). settled_from label h ps (settled_by (setup_of (settings_for (length c) label (opening h))) (progress_by c h) (off_field x y) g)) (settle-contact h l x y ps (w refl))
      ∙ ap (λ (p : Progress). settled_from label h ps (settled_parts (Ok (values p)) p (credited_by m (length c) held (touched c (then_settle h x y ps))) (wheels_by m (length c) held (touch c ps)))) (settled-progress label h v x y ps)
    where
      values : Progress → SettleValues
      values p = record { new_tiles = new_tiles c h ps; n = length c; off = off_field x y; lap = p.lap; ended = p.ended }
  settle-at label h v l x y ps (Err b) w = ap (with_state label) (settle-refused (number_of b) h x y ps (number-not-0 b))

  -- an accepted settle was lent columns that are long enough
  long-enough : (h : History) (l : Columns) (x y : Float) (ps : List Pose) → settle_number c h (lengths_of l) x y ps ≡ 0 → short_of (length c) l ≡ false
  unfolding settle_number lengths_of short_of
  long-enough h l x y ps e = (cleared (short_of (length c) l) 1 _ (cleared (not (ltb (settles h) (drives h))) 4 _ (cleared (ended c h) 3 _ e).1).1).0

  -- ---- one call
  -- the call as the plain scorer is told of it
  abbrev pub told_by : Call → Told
  told_by (Call.drive a ms) = Told.drive a ms
  told_by (Call.settle l x y ps) = Told.settle (lengths_of l) x y ps

  -- a settle is lent the course, or too short a column
  abbrev pub WellLent : Call → Type 0
  WellLent (Call.drive a ms) = Unit
  WellLent (Call.settle l x y ps) = short_of (length c) l ≡ false → HoldsCourse l

  pub reply-is : (label : CourseLabel) (h : History) → InTurn h → (g : Call) → WellLent g → reply_of m most (history_state label h) g ≡ with_state label (score c h (told_by g))
  unfolding reply_of score drive_of drive_parts_of settle_of settle_poses_of settle_parts_of
  reply-is label h v (Call.drive a ms) w =
      drive-at label h v a ms (roads_of m (wheels_by m (length c) held (touch c (last_poses h)))) (drive_check most (setup_of (settings_for (length c) label (opening h))) (progress_by c h) a ms) (roads-are h)
      ∙ ap (λ (k : ℕ). with_state label (drive_score c k h a ms)) (drive-number label h a ms)
  reply-is label h v (Call.settle l x y ps) w =
      let r = settle_check most (setup_of (settings_for (length c) label (opening h))) (progress_by c h) l x y ps in
      settle-at label h v l x y ps r (λ e. w (long-enough h l x y ps (sym (settle-number label h v l x y ps w) ∙ ap cause_number e ∙ none-number tt)))
      ∙ ap (λ (k : ℕ). with_state label (settle_score c k h x y ps)) (settle-number label h v l x y ps w)
