-- Demand 3: the certificate's proof, over the whole list of calls. Assumes nothing.
use mathlib.Core.Bool.{Bool, true, false, cond, not, ◌&&◌, ◌||◌, true≢false}
use mathlib.Core.List.{List, [], ◌∷◌, ◌++◌, map}
use mathlib.Core.Path.{◌≡◌, refl, sym, ap, ◌∙◌, subst}
use Prim.Native.Nat.{ℕ, zero, suc, ◌*◌, ◌^◌, ◌≤◌, ◌<◌}
use native.Mathlib.Nat.{le_trans}
use native.Mathlib.Omega.{arith}
use lib.Dec.{ltb}
use lib.ListN.{length, replicate}
use lib.Ieee.{Float, binary64, fits as fitsIn}
use borrow.Author.Tests.{ltb-true, not-false}
use Rattle.course.specs.Grader.Cause.{number_of}
use Rattle.course.specs.Rules.Constants.{max_attempts}
use Rattle.course.specs.Rules.Lengths.{most_points, laid_length}
use Rattle.course.specs.Grader.Course.{cells_of}
use Rattle.course.specs.Grader.Outcome as course
use Rattle.course.specs.Grader.Outcome.{Outcome, lay_into, laid_values_of}
use Rattle.course.specs.Rules.Lay.{course_of}
use Rattle.std.specs.Prelude.{Result}
use Rattle.course.specs.Grader.Cause.{number_of, cause_number}
use Rattle.course.specs.declared.cause.Cause.{Cause}
use Rattle.course.specs.declared.tiles.TrackPoint.{TrackPoint}
use Rattle.course.proofs.CourseSizes.{course-sized}
use Rattle.course.proofs.LayLaws.{roomy, lay-cause, lay-course, lay-columns}
use Rattle.run.specs.Grader.Widths.{full_words, most_tiles}
use Rattle.run.specs.Rules.Arguments.{settings_ok, short_columns, in_range, poses_ok, places_ok}
use Rattle.run.specs.Grader.State.{State, Columns, short_of, unfit}
use Rattle.run.specs.Grader.Words.{member}
use Rattle.run.specs.Grader.Contact.{wheel_part}
use Rattle.run.specs.Grader.Touch.{sound_poses}
use Rattle.run.specs.declared.start.Settings.{Settings}
use Rattle.run.specs.Grader.Start.{start_short, start_check, setup_of, first_progress, zero_state, Begun, started_by, start_at, start_of}
use Rattle.run.specs.Grader.Numbers.{pose_numbers}
use Rattle.run.specs.Grader.Saved.{fields_of, saved_form}
use Rattle.run.specs.Grader.Save.{save_check, save_at, save_of}
use Rattle.run.specs.Grader.Restore.{AfterRestore, after_restore, restore_of}
use Rattle.run.specs.Grader.Drive.{drive_check, drive_at, drive_parts_of, drive_of}
use Rattle.run.specs.Grader.Settle.{settle_check, settle_at, settle_parts_of, poses_after, settle_poses_of, settle_of}
use Rattle.certificate.specs.Rules.Answers.{Answer, Reply}
use Rattle.certificate.specs.Rules.Answers.Answer.{refused}
use Rattle.certificate.specs.Rules.Answers.Reply.{answered, decided}
use Rattle.certificate.specs.Grader.Calls.{Call, Replied, reply_of, replies_of, state_after, Going, going, Went, went, state_next, request_of, requests_said}
use Rattle.certificate.specs.Claim.Scorer.{LentLengths, Opening, Told, History, kept_calls, opening, drives, settles, last_poses, touch, touched, touched_count, lap_done, ended, start_number, drive_number, settle_number, drive_score, settle_score, score, scores, kept_of, save_number}
use Rattle.certificate.specs.Claim.Scorer.History.{begun}
use Rattle.certificate.specs.Claim.Items.{Lending, lent_by, lengths_of, CourseCall, call_of, told_of, calls_of, tolds_of, CourseItem, request_by, requests_of, sums, KeptSums, kept_sums, sums_over, all_occur, turned_down, all_fit, is_restore, some_restore, typed_item, typed_items, typed}
use Rattle.certificate.specs.Claim.Items.Lending.{laid, short}
use Rattle.certificate.specs.Claim.Certificate.{CourseLabel, settings_for, settings_on, kept_by, Graded, start_on, Demand3, lay_number, seed_tiles, Certificate}
use Rattle.course.proofs.BoolLaws.{and_left, and_right, or_no, cond-else, cond-skip, cleared}
use Rattle.certificate.proofs.ScoreLaws.{InTurn, kept-turn, one-opening, ended-over, all-occur}
use Rattle.certificate.proofs.ItemLaws.{none-restored, OkAll, replies-same, going-same, kept_fine, sums_same}
use Rattle.run.proofs.CheckLaws.{cause-by, number-some}
use Rattle.certificate.specs.Grader.Replay.{cause_of, answer_by}
use Rattle.certificate.proofs.RoundTrip.{Whole, round_trip, save-number}
use Rattle.certificate.proofs.Simulation.{held, HoldsCourse, history_state, with_state, started, told_by, WellLent, reply-is}
use Rattle.run.proofs.SetMembers.{in-set, in-wheel}
use Rattle.certificate.proofs.LaidTouch.{touched-laid, sound-laid}
use Rattle.certificate.proofs.LentColumns.{laid-whole, own_length, zeros_past, lent_laid, count}
use Rattle.run.specs.declared.state.Pose.{Pose}
use Rattle.run.specs.declared.dynamics.Motion.{Motion}

-- fits 64 bits
abbrev fits64 : Float → Bool
fits64 x = fitsIn binary64 x

-- ---- causes by their numbers
named : (k : Cause) → cause_of (number_of k) ≡ k
unfolding cause_of number_of
named Cause.Settings = refl
named Cause.Length = refl
named Cause.State = refl
named Cause.Turn = refl
named Cause.Limit = refl
named Cause.Action = refl
named Cause.Range = refl
named Cause.Count = refl
named Cause.Index = refl
named Cause.Form = refl
named Cause.Course = refl

check-named : (r : Result Unit Cause) → answer_by (cause_number r) tt ≡ r
unfolding cause_number answer_by
check-named (Result.Ok none) = refl
check-named (Result.Err k) =
    let p = number-some k in
    ap (λ (j : ℕ). answer_by j tt) p.1 ∙ ap Result.Err (ap cause_of (sym p.1) ∙ named k)

-- ---- after a refused start: the state of zeros refuses every call by 4 and stays
zeros-refuse : (m most : ℕ) (g : Call) → reply_of m most (zero_state m) g ≡ record { answer = refused 4; state = zero_state m }
unfolding reply_of zero_state first_progress drive_of drive_parts_of drive_check drive_at number_of settle_of settle_poses_of settle_parts_of settle_check settle_at poses_after unfit
zeros-refuse m most (Call.drive a ms) = refl
zeros-refuse m most (Call.settle l x y ps) = refl

pub zeros-stay : (m most : ℕ) (gs : List Call) → replies_of m most (zero_state m) gs ≡ replicate (length gs) (refused 4)
unfolding replies_of
zeros-stay m most [] = refl
zeros-stay m most (g ∷ gs) =
    ap (λ (r : Replied). r.answer ∷ replies_of m most r.state gs) (zeros-refuse m most g)
    ∙ ap (λ (r : List Answer). refused 4 ∷ r) (zeros-stay m most gs)

pub zeros-after : (m most : ℕ) (gs : List Call) → state_after m most (zero_state m) gs ≡ zero_state m
unfolding state_after
zeros-after m most [] = refl
zeros-after m most (g ∷ gs) = ap (λ (r : Replied). state_after m most r.state gs) (zeros-refuse m most g) ∙ zeros-after m most gs

-- and every save by 4, every restore by 11, since there is no save
zeros-item : (m most : ℕ) {n : ℕ} (o : Outcome) (i : CourseItem n) → request_of m most (going (zero_state m) []) (request_by o i) ≡ went (turned_down i) (going (zero_state m) [])
unfolding request_of request_by turned_down save_of save_check save_at cause_number number_of zero_state first_progress unfit
zeros-item m most o (CourseItem.call g) = ap (λ (r : Replied). went (answered r.answer) (going r.state [])) (zeros-refuse m most (call_of o g))
zeros-item m most o (CourseItem.save out) = refl
zeros-item m most o (CourseItem.restore by i) =
    ap (λ (d : AfterRestore). went (decided (cause_number d.answer)) (going (state_next d.answer d.state (zero_state m)) [])) (none-restored m most (lent_by o by) (laid_values_of o.answer).n)

zeros-down : (m most : ℕ) {n : ℕ} (o : Outcome) (is : List (CourseItem n)) → requests_said m most (going (zero_state m) []) (requests_of o is) ≡ map turned_down is
unfolding requests_said
zeros-down m most o [] = refl
zeros-down m most o (i ∷ is) =
    ap (λ (r : Went). r.reply ∷ requests_said m most r.going (requests_of o is)) (zeros-item m most o i)
    ∙ ap (λ (r : List Reply). turned_down i ∷ r) (zeros-down m most o is)

-- ---- a course c that laying left in o: its n is answered, and what is lent of it, where no column is short, holds it
module _ (m most : ℕ) (c : List TrackPoint) (room : most ≤ 64 * m) (some : 0 < length c) (fits : length c ≤ most) (o : Outcome)
    (counted : (laid_values_of o.answer).n ≡ length c) (holds : (by : Lending (length c)) → short_of (length c) (lent_by o by) ≡ false → HoldsCourse m most c room some fits (lent_by o by)) where
  -- ---- each call of the list
  told_same : (g : CourseCall (length c)) → told_by m most c room some fits (call_of o g) ≡ told_of o g
  unfolding call_of told_of
  told_same (CourseCall.drive a ms) = refl
  told_same (CourseCall.settle by x y ps) = refl

  lent-right : (g : CourseCall (length c)) → WellLent m most c room some fits (call_of o g)
  unfolding call_of
  lent-right (CourseCall.drive a ms) = tt
  lent-right (CourseCall.settle by x y ps) = holds by

  one-reply : (label : CourseLabel) (h : History) → InTurn h → (g : CourseCall (length c)) → reply_of m most (history_state m most c room some fits label h) (call_of o g) ≡ with_state m most c room some fits label (score c h (told_of o g))
  one-reply label h v g =
      reply-is m most c room some fits label h v (call_of o g) (lent-right g)
      ∙ ap (λ (t : Told). with_state m most c room some fits label (score c h t)) (told_same g)

  pub replies-are : (label : CourseLabel) (cs : List (CourseCall (length c))) (h : History) → InTurn h → replies_of m most (history_state m most c room some fits label h) (calls_of o cs) ≡ scores c h (tolds_of o cs)
  unfolding replies_of scores
  replies-are label [] h v = refl
  replies-are label (g ∷ cs) h v =
      ap (λ (r : Replied). r.answer ∷ replies_of m most r.state (calls_of o cs)) (one-reply label h v g)
      ∙ ap (λ (r : List Answer). (score c h (told_of o g)).answer ∷ r) (replies-are label cs (score c h (told_of o g)).kept (kept-turn c h v (told_of o g)))

  pub after_is : (label : CourseLabel) (cs : List (CourseCall (length c))) (h : History) → InTurn h → state_after m most (history_state m most c room some fits label h) (calls_of o cs) ≡ history_state m most c room some fits label (kept_of c h (tolds_of o cs))
  unfolding state_after kept_of
  after_is label [] h v = refl
  after_is label (g ∷ cs) h v =
      ap (λ (r : Replied). state_after m most r.state (calls_of o cs)) (one-reply label h v g)
      ∙ after_is label cs (score c h (told_of o g)).kept (kept-turn c h v (told_of o g))

  -- ---- the start
  pub begins : (b : Opening) → InTurn (begun b)
  unfolding settles drives opening
  begins b = record { ahead = omega arith; close = omega arith; time = λ l. absurd (omega arith) }

  module _ (by : Lending (length c)) (label : CourseLabel) (b : Opening) where
    start-number : cause_number (start_check most (lent_by o by) (settings_for (length c) label b)) ≡ start_number c most (lengths_of (lent_by o by)) b
    unfolding start_check start_number start_short short_of lengths_of cause_number number_of
    start-number =
        cause-by (not (settings_ok b.share b.limit)) Cause.Settings _ ∙ cond-else (not (settings_ok b.share b.limit)) 1 _ _ (λ e₁.
        cause-by (short_of (length c) (lent_by o by) || (ltb (length c) 1 || ltb most (length c))) Cause.Length _
        ∙ cond-else (short_of (length c) (lent_by o by) || (ltb (length c) 1 || ltb most (length c))) 2 _ _ (λ e₂.
        cause-by (not (poses_ok b.poses)) Cause.Range _ ∙ cond-else (not (poses_ok b.poses)) 8 _ _ (λ e₃.
        cause-by (not (sound_poses (lent_by o by).offsets (lent_by o by).list (length c) b.poses)) Cause.Index _
        ∙ cond-skip (not (sound_poses (lent_by o by).offsets (lent_by o by).list (length c) b.poses)) 10 0
        (ap not ((holds by (or_no (short_of (length c) (lent_by o by)) (ltb (length c) 1 || ltb most (length c)) e₂).0).sound b.poses)))))

    cause-at : (k : Result Unit Cause) (l : Columns) (a : Settings) → cause_number (start_at m k l a).answer ≡ cause_number k
    unfolding start_at started_by cause_number
    cause-at (Result.Ok none) l a = refl
    cause-at (Result.Err k) l a = refl

    start-counted : start_on m most o by label b ≡ start_at m (start_check most (lent_by o by) (settings_for (length c) label b)) (lent_by o by) (settings_for (length c) label b)
    unfolding start_of
    start-counted = ap (λ (n : ℕ). start_at m (start_check most (lent_by o by) (settings_for n label b)) (lent_by o by) (settings_for n label b)) counted

    pub start-same : start_on m most o by label b ≡ start_at m (answer_by (start_number c most (lengths_of (lent_by o by)) b) tt) (lent_by o by) (settings_for (length c) label b)
    start-same =
        start-counted
        ∙ ap (λ (k : Result Unit Cause). start_at m k (lent_by o by) (settings_for (length c) label b))
        (sym (check-named (start_check most (lent_by o by) (settings_for (length c) label b))) ∙ ap (λ (k : ℕ). answer_by k tt) start-number)

    lent-long : start_number c most (lengths_of (lent_by o by)) b ≡ 0 → short_of (length c) (lent_by o by) ≡ false
    unfolding start_number lengths_of short_of
    lent-long e =
        (or_no (short_of (length c) (lent_by o by)) (ltb (length c) 1 || ltb most (length c))
        (cleared (short_of (length c) (lent_by o by) || (ltb (length c) 1 || ltb most (length c))) 1 _ (cleared (not (settings_ok b.share b.limit)) 0 _ e).1).0).0

    abbrev first : Begun
    first = record { answer = Result.Ok (record { count = touched_count c (begun b); lap = lap_done c (begun b) }); state = history_state m most c room some fits label (begun b) }

    pub start-accepted : start_number c most (lengths_of (lent_by o by)) b ≡ 0 → start_on m most o by label b ≡ first
    unfolding start_at answer_by
    start-accepted e =
        start-same ∙ ap (λ (k : ℕ). start_at m (answer_by k tt) (lent_by o by) (settings_for (length c) label b)) e
        ∙ started m most c room some fits (lent_by o by) b label (holds by (lent-long e))

    -- what start was told, by the calls kept after it
    same-setup : (h : History) → opening h ≡ b → setup_of (settings_for (length c) label (opening h)) ≡ setup_of (settings_on o label b)
    same-setup h e = λ i. setup_of (settings_for (sym counted i) label (e i))

    zeros-at : (k : ℕ) (l : Columns) (a : Settings) → (k ≡ 0 → ⊥) → (start_at m (answer_by k tt) l a).state ≡ zero_state m
    unfolding start_at answer_by
    zeros-at zero l a n = absurd (n refl)
    zeros-at (suc k) l a n = refl

    -- an accepted start was told settings and poses in range
    start-told : start_number c most (lengths_of (lent_by o by)) b ≡ 0 → (settings_ok b.share b.limit ≡ true) × (poses_ok b.poses ≡ true)
    unfolding start_number
    start-told e =
        let q = cleared (not (settings_ok b.share b.limit)) 0 _ e in
        let r = cleared (short_columns (length c) (lengths_of (lent_by o by)).tiles (lengths_of (lent_by o by)).offsets || (ltb (length c) 1 || ltb most (length c))) 1 _ q.1 in
        (not-false _ q.0, not-false _ (cleared (not (poses_ok b.poses)) 7 0 r.1).0)

    -- ---- the list after it. R: something is restored, so that values are ones that bytes can carry
    module _ (small : most < 65536) (R : Type 0) where
      abbrev Fine : History → Type 0
      Fine h = InTurn h × ((opening h ≡ b) × (R → Whole m most c room some fits small label h))

      abbrev Ok : CourseCall (length c) → Type 0
      Ok (CourseCall.drive a ms) = Unit
      Ok (CourseCall.settle _ x y ps) = R → all_fit (pose_numbers ps) ≡ true

      drive-whole : (k : ℕ) (h : History) (a : ℕ) (ms : List Motion) → Whole m most c room some fits small label h → Whole m most c room some fits small label (drive_score c k h a ms).kept
      unfolding drive_score opening settles last_poses
      drive-whole zero h a ms v = record { within = v.within; settings = v.settings; placed = v.placed; seed = v.seed; share = v.share; poses = v.poses }
      drive-whole (suc k) h a ms v = v

      settle-whole : (k : ℕ) (h : History) (l : LentLengths) (x y : Float) (ps : List Pose) → settle_number c h l x y ps ≡ k → InTurn h → all_fit (pose_numbers ps) ≡ true
          → Whole m most c room some fits small label h → Whole m most c room some fits small label (settle_score c k h x y ps).kept
      unfolding settle_score settle_number opening settles last_poses places_ok
      settle-whole zero h l x y ps e t p v =
          let p₁ = cleared (not (ltb (settles h) (drives h))) 4 _ (cleared (ended c h) 3 _ e).1 in
          let p₂ = cleared (short_columns (length c) l.tiles l.offsets) 1 _ p₁.1 in
          let p₃ = cleared (not (places_ok x y ps)) 7 0 p₂.1 in
          let owed : settles h < drives h = ltb-true _ _ (not-false _ p₁.0) in
          let left : settles h < (opening h).limit = t.time owed in
          record {
            within = omega (arith, left);
            settings = v.settings;
            placed = and_right (in_range x && in_range y) (poses_ok ps) (not-false (places_ok x y ps) p₃.0);
            seed = v.seed;
            share = v.share;
            poses = p;
          }
      settle-whole (suc k) h l x y ps e t p v = v

      whole-kept : (h : History) → Fine h → (g : CourseCall (length c)) → Ok g → R → Whole m most c room some fits small label (score c h (told_of o g)).kept
      unfolding score told_of
      whole-kept h f (CourseCall.drive a ms) w r = drive-whole (drive_number c h a ms) h a ms (f.1.1 r)
      whole-kept h f (CourseCall.settle lent x y ps) w r =
          let l : LentLengths = lengths_of (lent_by o lent) in
          settle-whole (settle_number c h l x y ps) h l x y ps refl f.0 (w r) (f.1.1 r)

      keeps : (h : History) → Fine h → (g : CourseCall (length c)) → Ok g → Fine (score c h (told_of o g)).kept
      keeps h f g w = (kept-turn c h f.0 (told_of o g), (one-opening c h (told_of o g) ∙ f.1.0, λ r. whole-kept h f g w r))

      step : (h : History) → Fine h → (g : CourseCall (length c)) → reply_of m most (history_state m most c room some fits label h) (call_of o g) ≡ with_state m most c room some fits label (score c h (told_of o g))
      step h f g = one-reply label h f.0 g

      number : (h : History) → Fine h → (n : ℕ) → cause_number (save_check most (history_state m most c room some fits label h).setup (history_state m most c room some fits label h).progress n) ≡ save_number c h n
      number h f n = save-number m most c room some fits small label h n

      trip : R → (h : History) → Fine h → ltb (settles h) (drives h) ≡ false → (lent : Lending (length c))
          → restore_of m most (saved_form (fields_of (history_state m most c room some fits label h))) (lent_by o lent) (length c)
          ≡ cond (short_of (length c) (lent_by o lent)) (after_restore (Result.Err Cause.Length) (zero_state m)) (after_restore (Result.Ok tt) (history_state m most c room some fits label h))
      trip r h f e lent = round_trip m most c room some fits small label h (f.1.1 r) e (lent_by o lent) (holds lent)

      -- each item is one that the laws of a list ask for
      items-ok : (is : List (CourseItem (length c))) → (some_restore is ≡ true → R) → (R → typed_items is ≡ true) → OkAll m most c o counted (history_state m most c room some fits label) Fine Ok R step keeps number trip is
      unfolding some_restore is_restore typed_items typed_item
      items-ok [] f g = tt
      items-ok (CourseItem.call (CourseCall.drive a ms) ∷ is) f g = (tt, items-ok is f g)
      items-ok (CourseItem.call (CourseCall.settle lent x y ps) ∷ is) f g =
          (λ r. and_left (all_fit (pose_numbers ps)) (typed_items is) (g r), items-ok is f (λ r. and_right (all_fit (pose_numbers ps)) (typed_items is) (g r)))
      items-ok (CourseItem.save out ∷ is) f g = (tt, items-ok is f g)
      items-ok (CourseItem.restore lent i ∷ is) f g = (f refl, items-ok is (λ e. f refl) g)

      no_end : ended c (begun b) ≡ false
      unfolding ended settles
      no_end = refl

      graded : (is : List (CourseItem (length c))) → Fine (begun b) → OkAll m most c o counted (history_state m most c room some fits label) Fine Ok R step keeps number trip is → Graded m most c o first label b is
      graded is f w =
          let at = history_state m most c room some fits label in
          let k = kept_calls (begun b) [] in
          let same = replies-same m most c o counted at Fine Ok R step keeps number trip is k (f, tt) w in
          let last = going-same m most c o counted at Fine Ok R step keeps number trip is k (f, tt) w in
          let fine = kept_fine m most c o counted at Fine Ok R step keeps number trip is k (f, tt) w in
          let from = ap (λ (e : Bool). sums_over (kept_sums (sums (touched_count c (begun b)) e) []) is (requests_said m most (going (at (begun b)) []) (requests_of o is))) (sym no_end) in
          let summed = from ∙ ap (sums_over (kept_sums (sums (touched_count c (begun b)) (ended c (begun b))) []) is) same ∙ sums_same c o is k in
          record {
            start = refl;
            answers = same;
            counts = ap (λ (t : KeptSums). t.now.total) summed;
            ends = λ l. ap (λ (t : KeptSums). t.now.ended) summed ∙ ended-over c (kept_by c o b is) l;
            occur = ap (all_occur is) same ∙ all-occur c o is k;
            state-setup = ap (λ (g : Going). g.state.setup) last ∙ same-setup (kept_by c o b is) fine.0.1.0;
            state-seed = ap (λ (g : Going). g.state.seed) last;
            state-progress = ap (λ (g : Going). g.state.progress) last;
            state-car = ap (λ (g : Going). g.state.car) last;
            state-credited = λ t. ap (λ (g : Going). member g.state.credited t) last ∙ in-set m (length c) (held m most c room some fits) (touched c (kept_by c o b is)) t;
            state-wheels = λ v t l. ap (λ (g : Going). member (wheel_part m g.state.wheels v) t) last ∙ in-wheel m (length c) (held m most c room some fits) (touch c (last_poses (kept_by c o b is))) v t l;
            state-poses = ap (λ (g : Going). g.state.poses) last;
          }

    -- where something is restored, the seed, the lap share, start's poses and those of all settles are values that bytes can carry
    typed-each : (is : List (CourseItem (length c))) → typed label.seed b is ≡ true → some_restore is ≡ true
        → (ltb label.seed (2 ^ 64) ≡ true) × ((fits64 b.share ≡ true) × ((all_fit (pose_numbers b.poses) ≡ true) × (typed_items is ≡ true)))
    unfolding typed
    typed-each is t r =
        let poses = all_fit (pose_numbers b.poses) in
        let p = subst (λ (a : Bool). (not a || (ltb label.seed (2 ^ 64) && (fits64 b.share && (poses && typed_items is)))) ≡ true) r t in
        let q = and_right (ltb label.seed (2 ^ 64)) (fits64 b.share && (poses && typed_items is)) p in
        let s = and_right (fits64 b.share) (poses && typed_items is) q in (
          and_left (ltb label.seed (2 ^ 64)) (fits64 b.share && (poses && typed_items is)) p,
          (and_left (fits64 b.share) (poses && typed_items is) q, (and_left poses (typed_items is) s, and_right poses (typed_items is) s)),
        )

    -- the start is a run's, and of values that bytes can carry where something is restored
    first_fine : (small : most < 65536) (is : List (CourseItem (length c))) → start_number c most (lengths_of (lent_by o by)) b ≡ 0 → typed label.seed b is ≡ true → Fine small (some_restore is ≡ true) (begun b)
    unfolding opening settles last_poses
    first_fine small is e t = (
      begins b,
      (
        refl,
        λ r.
            let f = typed-each is t r in
            record {
              within = omega arith;
              settings = (start-told e).0;
              placed = (start-told e).1;
              seed = ltb-true _ _ f.0;
              share = f.1.0;
              poses = f.1.1.0;
            },
      ),
    )

    pub demand3-on : most < 65536 → (is : List (CourseItem (length c))) → Demand3 m most c o by label b is
    demand3-on small is =
        record {
          starts = ap (λ (s : Begun). cause_number s.answer) start-counted ∙ cause-at (start_check most (lent_by o by) (settings_for (length c) label b)) (lent_by o by) (settings_for (length c) label b) ∙ start-number;
          runs = λ e t.
              subst (λ (s : Begun). Graded m most c o s label b is) (sym (start-accepted e))
              (graded small (some_restore is ≡ true) is (first_fine small is e t) (items-ok small (some_restore is ≡ true) is (λ r. r) (λ r. (typed-each is t r).1.1.1)));
          stays = λ n.
              ap (λ (s : Begun). requests_said m most (going s.state []) (requests_of o is)) start-same
              ∙ ap (λ (s : State). requests_said m most (going s []) (requests_of o is)) (zeros-at (start_number c most (lengths_of (lent_by o by)) b) (lent_by o by) (settings_for (length c) label b) n)
              ∙ zeros-down m most o is;
        }

-- ---- a list of points that was laid in full, into any columns of its length: by lay, by points
module _ (m most : ℕ) (c : List TrackPoint) (room : most ≤ 64 * m) (some : 0 < length c) (fits : length c ≤ most) (small : most ≤ most_points)
    (fallback : Bool) (l : course.CourseColumns) (whole : ltb (length l.list) (cells_of c) ≡ false) where
  pub few : length c ≤ most_points
  few = le_trans fits small

  pub lent-holds : (by : Lending (length c)) → short_of (length c) (lent_by (lay_into (own_length c) fallback c l) by) ≡ false → HoldsCourse m most c room some fits (lent_by (lay_into (own_length c) fallback c l) by)
  unfolding lent_by
  lent-holds (laid ts offs l') e =
      subst (λ (k : Columns). HoldsCourse m most c room some fits k) (sym (lent_laid fallback c l whole few ts offs l'))
      (record {
        same = touched-laid c (zeros_past c ++ ts) offs l';
        sound = sound-laid c (zeros_past c ++ ts) offs l';
      })
  lent-holds (short k is) e = absurd (true≢false (sym is ∙ e))

  pub laid-demand3 : (by : Lending (length c)) (label : CourseLabel) (b : Opening) (is : List (CourseItem (length c))) → Demand3 m most c (lay_into (own_length c) fallback c l) by label b is
  laid-demand3 by label b is = demand3-on m most c room some fits (lay_into (own_length c) fallback c l) (count (own_length c) fallback c l whole) lent-holds by label b (omega (arith, small)) is

-- ---- a seed's course
pub no-cause : (r s : Bool) → ◌≡◌ {A = ℕ} (cond r (cond s 3 0) 2) 0 → (r ≡ true) × (s ≡ false)
no-cause true true e = absurd (omega (arith, e))
no-cause true false e = (refl, refl)
no-cause false s e = absurd (omega (arith, e))

-- a seed's course has at most as many tiles as a run takes
pub few-tiles : (seed : ℕ) → seed_tiles seed ≤ most_tiles
few-tiles seed = omega (arith, (course-sized seed).few)

pub certificate : (seed : ℕ) (l : course.CourseColumns) (by : Lending (seed_tiles seed)) (label : CourseLabel) (b : Opening) (is : List (CourseItem (seed_tiles seed))) → Certificate seed l by label b is
unfolding lay_number course_of
certificate seed l by label b is =
    record {
      lays = lay-cause max_attempts seed l;
      course = λ e.
          let q = no-cause (roomy l) (ltb (length l.list) (cells_of (course_of seed).points)) e in
          lay-course seed l q.0 ∙ laid-whole laid_length (course_of seed).fallback (course_of seed).points l q.1;
      run = λ e.
          let q = no-cause (roomy l) (ltb (length l.list) (cells_of (course_of seed).points)) e in
          subst (λ (o : Outcome). Demand3 full_words most_tiles (course_of seed).points o by label b is) (sym (lay-columns seed l q.0))
          (laid-demand3 full_words most_tiles (course_of seed).points (omega arith) (course-sized seed).some (few-tiles seed) (omega arith) (course_of seed).fallback l q.1 by label b is);
    }
