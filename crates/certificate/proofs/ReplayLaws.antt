-- What a replay leaves, from what its calls leave: the plain scorer's answers. Assumes nothing.
use mathlib.Core.Bool.{Bool, true, false, cond, not, or-true}
use mathlib.Core.List.{List, [], ◌∷◌, ◌++◌, map-append}
use mathlib.Core.Path.{◌≡◌, refl, sym, ap, ap₂, ◌∙◌, subst}
use Rattle.std.specs.Result.{ResultUnwrapsOrElse}
use Prim.Native.Nat.{ℕ, zero, suc, ◌*◌, ◌≤◌, ◌<◌, min}
use native.Mathlib.Numerals.{add-one}
use native.Mathlib.Omega.{arith}
use lib.Dec.{ltb, eqb}
use lib.ListN.{length, get_or, take, drop, replicate, length-append, length-take, take-append-drop}
use lib.Seq.{take-take, take-length}
use lib.Ieee.{Float}
use borrow.Author.Tests.{ltb-false}
use Rattle.std.specs.Prelude.{Result, Ok, Err}
use Rattle.course.specs.Rules.Constants.{max_attempts}
use Rattle.course.specs.Rules.Lengths.{most_points, column_length, quad_numbers, offset_count}
use Rattle.course.specs.Grader.Course.{cells_of}
use Rattle.course.specs.Grader.Outcome as course
use Rattle.course.specs.Grader.Outcome.{Outcome, lay_into, laid_figures, error_number, laid_cause_of, laid_values_of}
use Rattle.course.specs.Rules.Lay.{CoursePoints, course_of}
use Rattle.course.specs.Grader.LayCall.{lay_call}
use Rattle.course.specs.declared.cause.Cause.{Cause}
use Rattle.course.specs.declared.tiles.TrackPoint.{TrackPoint}
use Rattle.course.specs.declared.points.LayError.{LayError}
use Rattle.course.specs.declared.points.LaidCourse.{LaidCourse}
use Rattle.course.proofs.BoolLaws.{or_no}
use Rattle.course.proofs.CourseSizes.{course-sized}
use Rattle.course.proofs.LayLaws.{roomy, lay-cause, lay-columns}
use Rattle.run.specs.Rules.Arguments.{settings_ok, short_columns}
use Rattle.run.specs.Grader.Widths.{full_words, most_tiles}
use Rattle.run.specs.Grader.State.{State, Columns, columns, short_of, unfit}
use Rattle.run.specs.declared.start.Settings.{Settings}
use Rattle.run.specs.Grader.Start.{start_short, start_check, setup_of, first_progress, zero_state, Begun, begun, start_at, start_of}
use Rattle.run.specs.Grader.Sheet.{figures_of, sheet_of}
use Rattle.certificate.specs.Grader.Calls.{Call, replies_of, state_after}
use Rattle.certificate.specs.Rules.Answers.{Answer}
use Rattle.certificate.specs.Rules.Answers.Answer.{refused}
use Rattle.certificate.specs.Claim.Scorer.{LentLengths, Opening, Told, History, touched_count, lap_done, start_number, scores, kept_of}
use Rattle.certificate.specs.Claim.Items.{Lending, lent_by, lengths_of, CourseCall, call_of, told_of, calls_of, tolds_of}
use Rattle.certificate.specs.Claim.Items.Lending.{laid, short}
use Rattle.certificate.specs.Claim.Certificate.{CourseLabel, settings_for, settings_on, start_on, lay_number}
use Rattle.course.specs.Rules.Tiles.{number_at}
use Rattle.run.specs.Grader.Numbers.{motions_from, poses_from}
use Rattle.certificate.specs.Grader.CallColumns.{call_words, call_numbers, answer_words, answer_numbers, all_words, all_numbers, part_at}
use Rattle.certificate.specs.Steps.Replay.{first_lent, call_from, calls_to, StartsAndReplies}
use Rattle.certificate.specs.Grader.Replay.{told_from, tolds_to, cause_of, answer_by, plain_start, plain_answers, sheet_on, plain_sheet, laid_course, replay_on, room_for, replay_of}
use Rattle.run.specs.declared.start.StartValues.{StartValues}
use Rattle.run.specs.declared.sheet.RunSheet.{RunSheet}
use Rattle.certificate.proofs.LentColumns.{laid-whole, count, own_length}
use Rattle.certificate.proofs.Simulation.{HoldsCourse, history_state, fits-state}
use Rattle.certificate.proofs.Certificate.{zeros-stay, zeros-after, replies-are, after_is, begins, start-same, start-accepted, lent-holds, no-cause, few-tiles}
use Rattle.certificate.proofs.CallColumnLaws.{calls-long}

-- ---- the calls of the columns are calls of the certificate's list

-- a front of a column of which k entries are lent, and the rest of what is lent
front-of : {A : Type 0} (m k : ℕ) (l : List A) → m ≤ length (take k l) → take m l ++ drop m (take k l) ≡ take k l
front-of m k l h =
    ap (λ (x : List _). x ++ drop m (take k l)) (sym (take-take m k l (within m k (length l) (subst (λ (n : ℕ). m ≤ n) (length-take k l) h))))
    ∙ take-append-drop m (take k l)
  where
    within : (m k n : ℕ) → m ≤ min k n → m ≤ k
    within m k n h = omega arith

module _ (o : Outcome) where
  abbrev pub columns_of : Columns
  columns_of = columns o.lent.tiles o.lent.offsets o.lent.list

  short-is : (t : ℕ) (l : Columns) (e : short_of t l ≡ true) → lent_by {n = t} o (short l e) ≡ l
  unfolding lent_by
  short-is t l e = refl

  laid-is : (t kt ko : ℕ) → short_of t (first_lent columns_of kt ko) ≡ false
      → lent_by {n = t} o (laid (drop (quad_numbers (column_length t)) (take kt o.lent.tiles)) (drop offset_count (take ko o.lent.offsets)) (drop (laid_values_of o.answer).entries o.lent.list)) ≡ first_lent columns_of kt ko
  unfolding lent_by short_of short_columns
  laid-is t kt ko e =
      let p = or_no (ltb (length (take kt o.lent.tiles)) (quad_numbers (column_length t))) (ltb (length (take ko o.lent.offsets)) offset_count) e in
      λ i. columns (front-of (quad_numbers (column_length t)) kt o.lent.tiles (ltb-false _ _ p.0) i) (front-of offset_count ko o.lent.offsets (ltb-false _ _ p.1) i)
      (take-append-drop (laid_values_of o.answer).entries o.lent.list i)

  -- parts of the laid columns, lent with a course of t points, are the course's with what stands beyond, or too short
  parts : (t kt ko : ℕ) → (by : Lending t) × (lent_by o by ≡ first_lent columns_of kt ko)
  parts t kt ko = go (short_of t (first_lent columns_of kt ko)) refl
    where
      go : (b : Bool) → short_of t (first_lent columns_of kt ko) ≡ b → (by : Lending t) × (lent_by o by ≡ first_lent columns_of kt ko)
      go true e = (short (first_lent columns_of kt ko) e, short-is t (first_lent columns_of kt ko) e)
      go false e = (
        laid (drop (quad_numbers (column_length t)) (take kt o.lent.tiles)) (drop offset_count (take ko o.lent.offsets)) (drop (laid_values_of o.answer).entries o.lent.list),
        laid-is t kt ko e,
      )

  -- the lengths that the plain scorer is told
  module _ (t : ℕ) (k : LentLengths) (same-tiles : length o.lent.tiles ≡ k.tiles) (same-offsets : length o.lent.offsets ≡ k.offsets) where
    lengths-are : (kt ko : ℕ) → lengths_of (first_lent columns_of kt ko) ≡ record { tiles = min kt k.tiles; offsets = min ko k.offsets }
    unfolding lengths_of
    lengths-are kt ko = λ i.
        record {
          tiles = (length-take kt o.lent.tiles ∙ ap (min kt) same-tiles) i;
          offsets = (length-take ko o.lent.offsets ∙ ap (min ko) same-offsets) i;
        }

    -- a call of the list, as grader and scorer meet it
    abbrev Meant : List ℕ → List Float → Type 0
    Meant ws ns = (g : CourseCall t) × (call_of o g ≡ call_from columns_of ws ns) × (told_of o g ≡ told_from k ws ns)

    meant : (ws : List ℕ) (ns : List Float) → Meant ws ns
    unfolding call_of told_of told_from
    meant ws ns = go (eqb (get_or ws 0 0) 0) refl
      where
        by_parts : (by : Lending t) × (lent_by o by ≡ first_lent columns_of (get_or ws 2 0) (get_or ws 3 0))
        by_parts = parts t (get_or ws 2 0) (get_or ws 3 0)

        go : (b : Bool) → eqb (get_or ws 0 0) 0 ≡ b → Meant ws ns
        go true e = (CourseCall.drive (get_or ws 1 0) (motions_from ns), sym (simp e), sym (simp e))
        go false e = (
          CourseCall.settle by_parts.0 (number_at ns 0) (number_at ns 1) (poses_from ns),
          ap (λ (l : Columns). Call.settle l (number_at ns 0) (number_at ns 1) (poses_from ns)) by_parts.1 ∙ sym (simp e),
          ap (λ (l : LentLengths). Told.settle l (number_at ns 0) (number_at ns 1) (poses_from ns)) (ap lengths_of by_parts.1 ∙ lengths-are (get_or ws 2 0) (get_or ws 3 0)) ∙ sym (simp e),
        )

    pub all-meant : (ws : List ℕ) (ns : List Float) (n : ℕ) → (cs : List (CourseCall t)) × (calls_of o cs ≡ calls_to columns_of ws ns n) × (tolds_of o cs ≡ tolds_to k ws ns n)
    unfolding calls_to tolds_to
    all-meant ws ns zero = ([], refl, refl)
    all-meant ws ns (suc n) =
        let r = all-meant ws ns n in
        let g = meant (part_at call_words ws n) (part_at call_numbers ns n) in (
          r.0 ++ (g.0 ∷ []),
          map-append (call_of o) r.0 (g.0 ∷ []) ∙ ap₂ (λ (x : List Call) (y : Call). x ++ (y ∷ [])) r.1 g.1,
          map-append (told_of o) r.0 (g.0 ∷ []) ∙ ap₂ (λ (x : List Told) (y : Told). x ++ (y ∷ [])) r.2 g.2,
        )

-- ---- lengths
pub tolds-many : (k : LentLengths) (ws : List ℕ) (ns : List Float) (n : ℕ) → length (tolds_to k ws ns n) ≡ n
unfolding tolds_to
tolds-many k ws ns zero = refl
tolds-many k ws ns (suc n) = length-append (tolds_to k ws ns n) _ ∙ add-one (length (tolds_to k ws ns n)) ∙ ap suc (tolds-many k ws ns n)

-- ---- a start and the calls after it, by the number of start's cause

-- the sheet of a state
abbrev pub sheet_in : State → Result RunSheet Cause
sheet_in s = sheet_of most_tiles s.setup s.progress

-- start is told the fallback that laying answered, and the seed
abbrev laid_label : Outcome → ℕ → CourseLabel
laid_label o seed = record { fallback = (laid_values_of o.answer).fallback; seed = seed }

module _ (b : Opening) (k : LentLengths) (n : ℕ) (calls : List ℕ) (given : List Float) where
  abbrev ts : List Told
  ts = tolds_to k calls given n

  -- what they leave on the course c, lent the columns l: the plain scorer's answers
  pub record Plain (j : ℕ) (c : CoursePoints) (l : Columns) (sa : Result StartValues Cause) (s : State) : Type 0 where
    pub start : sa ≡ plain_start j c.points b
    pub answers : replies_of full_words most_tiles s (calls_to l calls given n) ≡ plain_answers j c.points b ts
    pub sheet : sheet_in (state_after full_words most_tiles s (calls_to l calls given n)) ≡ plain_sheet j c b ts

  -- a refused start
  no-sheet : sheet_in (zero_state full_words) ≡ Err Cause.State
  unfolding sheet_of unfit zero_state first_progress
  no-sheet = refl

  refused-plain : (j : ℕ) (c : CoursePoints) (l l' : Columns) (a : Settings) (sa : Result StartValues Cause) (s : State) → begun sa s ≡ start_at full_words (answer_by (suc j) tt) l' a → Plain (suc j) c l sa s
  unfolding start_at answer_by plain_start plain_answers plain_sheet
  refused-plain j c l l' a sa s e =
      let es : s ≡ zero_state full_words = ap (λ (x : Begun). x.state) e in
      record {
        start = ap (λ (x : Begun). x.answer) e;
        answers =
            ap (λ (x : State). replies_of full_words most_tiles x (calls_to l calls given n)) es ∙ zeros-stay full_words most_tiles (calls_to l calls given n)
            ∙ ap (λ (x : ℕ). replicate x (refused 4)) (calls-long l calls given n ∙ sym (tolds-many k calls given n));
        sheet =
            ap (λ (x : State). sheet_in (state_after full_words most_tiles x (calls_to l calls given n))) es
            ∙ ap sheet_in (zeros-after full_words most_tiles (calls_to l calls given n)) ∙ no-sheet;
      }

  -- ---- no course: every start is refused
  abbrev nothing : CoursePoints
  nothing = record { points = []; fallback = false }

  none_number : start_number [] most_tiles k b ≡ cond (not (settings_ok b.share b.limit)) 1 2
  unfolding start_number
  none_number = rw (or-true (short_columns 0 k.tiles k.offsets))

  none-named : (p : Bool) → ◌≡◌ {A = Result Unit Cause} (cond p (Err Cause.Settings) (Err Cause.Length)) (answer_by (cond p 1 2) tt)
  unfolding answer_by cause_of
  none-named true = refl
  none-named false = refl

  none-cause : (l : Columns) (label : CourseLabel) → start_check most_tiles l (settings_for 0 label b) ≡ answer_by (cond (not (settings_ok b.share b.limit)) 1 2) tt
  unfolding start_check start_short
  none-cause l label = rw (or-true (short_of 0 l)) (none-named (not (settings_ok b.share b.limit)))

  never-none : (p : Bool) → ◌≡◌ {A = ℕ} (cond p 1 2) 0 → ⊥
  never-none true e = omega (arith, e)
  never-none false e = omega (arith, e)

  no-course : (l : Columns) (label : CourseLabel) (sa : Result StartValues Cause) (s : State)
      → begun sa s ≡ start_of full_words most_tiles l (settings_for 0 label b)
      → Plain (start_number [] most_tiles k b) nothing l sa s
  unfolding start_of
  no-course l label sa s e = go (start_number [] most_tiles k b) refl
    where
      a : Settings
      a = settings_for 0 label b

      go : (j : ℕ) → start_number [] most_tiles k b ≡ j → Plain j nothing l sa s
      go zero q = absurd (never-none (not (settings_ok b.share b.limit)) (sym none_number ∙ q))
      go (suc j) q = refused-plain j nothing l l a sa s (e ∙ ap (λ (x : Result Unit Cause). start_at full_words x l a) (none-cause l label ∙ ap (λ (x : ℕ). answer_by x tt) (sym none_number ∙ q)))

  -- ---- a course of the points c that was laid in full
  module _ (c : List TrackPoint) (some : 0 < length c) (fits : length c ≤ most_tiles) (fallback : Bool) (seed : ℕ) (l : course.CourseColumns)
      (whole : ltb (length l.list) (cells_of c) ≡ false) where
    abbrev o : Outcome
    o = lay_into (own_length c) fallback c l

    abbrev label : CourseLabel
    label = record { fallback = fallback; seed = seed }

    abbrev room : most_tiles ≤ 64 * full_words
    room = omega arith

    abbrev small : most_tiles ≤ most_points
    small = omega arith

    holds : (by : Lending (length c)) → short_of (length c) (lent_by o by) ≡ false → HoldsCourse full_words most_tiles c room some fits (lent_by o by)
    holds = lent-holds full_words most_tiles c room some fits small fallback l whole

    counted : (laid_values_of o.answer).n ≡ length c
    counted = count (own_length c) fallback c l whole

    same-fallback : (laid_values_of o.answer).fallback ≡ fallback
    unfolding laid_values_of laid_figures
    same-fallback = ap (λ (x : Outcome). (laid_values_of x.answer).fallback) (laid-whole (own_length c) fallback c l whole)

    -- the whole columns, as they are lent to start
    whole-lent : (by : Lending (length c)) × (lent_by o by ≡ columns_of o)
    whole-lent =
        let p = parts o (length c) (length o.lent.tiles) (length o.lent.offsets) in
        (p.0, p.1 ∙ (λ i. columns (take-length o.lent.tiles i) (take-length o.lent.offsets i) o.lent.list))

    figures : (h : History) → sheet_in (history_state full_words most_tiles c room some fits label h) ≡ sheet_on c fallback h
    unfolding sheet_of figures_of setup_of sheet_on
    figures h = rw (fits-state full_words most_tiles c room some fits label h)

    module _ (same-tiles : length o.lent.tiles ≡ k.tiles) (same-offsets : length o.lent.offsets ≡ k.offsets) where
      abbrev by : Lending (length c)
      by = whole-lent.0

      told-lengths : lengths_of (lent_by o by) ≡ k
      unfolding lengths_of
      told-lengths = ap lengths_of whole-lent.1 ∙ (λ i. record { tiles = same-tiles i; offsets = same-offsets i })

      accepted-plain : (sa : Result StartValues Cause) (s : State)
          → begun sa s ≡ record { answer = Result.Ok (record { count = touched_count c (History.begun b); lap = lap_done c (History.begun b) }); state = history_state full_words most_tiles c room some fits label (History.begun b) }
          → Plain 0 (record { points = c; fallback = fallback }) (columns_of o) sa s
      unfolding answer_by plain_start plain_answers plain_sheet
      accepted-plain sa s e =
          let es = ap (λ (x : Begun). x.state) e in
          let m = all-meant o (length c) k same-tiles same-offsets calls given n in
          let first = begins full_words most_tiles c room some fits o counted holds b in
          record {
            start = ap (λ (x : Begun). x.answer) e;
            answers =
                ap₂ (λ (x : State) (y : List Call). replies_of full_words most_tiles x y) es (sym m.1)
                ∙ replies-are full_words most_tiles c room some fits o counted holds label m.0 (History.begun b) first
                ∙ ap (scores c (History.begun b)) m.2;
            sheet =
                ap₂ (λ (x : State) (y : List Call). sheet_in (state_after full_words most_tiles x y)) es (sym m.1)
                ∙ ap sheet_in (after_is full_words most_tiles c room some fits o counted holds label m.0 (History.begun b) first)
                ∙ figures (kept_of c (History.begun b) (tolds_of o m.0))
                ∙ ap (λ (x : List Told). sheet_on c fallback (kept_of c (History.begun b) x)) m.2;
          }

      pub course-plain : (sa : Result StartValues Cause) (s : State)
          → begun sa s ≡ start_of full_words most_tiles (columns_of o) (settings_on o (laid_label o seed) b)
          → Plain (start_number c most_tiles k b) (record { points = c; fallback = fallback }) (columns_of o) sa s
      course-plain sa s e = go (start_number c most_tiles k b) refl
        where
          on : begun sa s ≡ start_on full_words most_tiles o by label b
          on =
              e ∙ ap₂ (λ (x : Columns) (f : Bool). start_of full_words most_tiles x (settings_on o (record { fallback = f; seed = seed }) b))
              (sym whole-lent.1) same-fallback

          number : start_number c most_tiles (lengths_of (lent_by o by)) b ≡ start_number c most_tiles k b
          number = ap (λ (x : LentLengths). start_number c most_tiles x b) told-lengths

          a : Settings
          a = settings_for (length c) label b

          go : (j : ℕ) → start_number c most_tiles k b ≡ j → Plain j (record { points = c; fallback = fallback }) (columns_of o) sa s
          go zero q = accepted-plain sa s (on ∙ start-accepted full_words most_tiles c room some fits o counted holds by label b (number ∙ q))
          go (suc j) q =
              refused-plain j (record { points = c; fallback = fallback }) (columns_of o) (lent_by o by) a sa s
              (on ∙ start-same full_words most_tiles c room some fits o counted holds by label b ∙ ap (λ (x : ℕ). start_at full_words (answer_by x tt) (lent_by o by) a) (number ∙ q))

-- ---- the whole replay
lays : (seed : ℕ) (l : course.CourseColumns) → laid_cause_of (lay_call max_attempts seed l).answer ≡ lay_number seed l
unfolding lay_number course_of
lays seed l = lay-cause max_attempts seed l

no-count : (r : Result LaidCourse LayError) (q : ℕ) → laid_cause_of r ≡ suc q → (laid_values_of r).n ≡ 0
unfolding laid_cause_of laid_values_of
no-count (Ok v) q e = absurd (omega (arith, e))
no-count (Err x) q e = refl

module _ (seed : ℕ) (l : course.CourseColumns) (b : Opening) (n : ℕ) (calls : List ℕ) (given : List Float) where
  abbrev lengths : LentLengths
  lengths = record { tiles = length l.tiles; offsets = length l.offsets }

  -- lay, then a start with what it answered, then the calls
  replay-plain : (j : ℕ) → lay_number seed l ≡ j → (o : Outcome) → o ≡ lay_call max_attempts seed l → length o.lent.tiles ≡ length l.tiles → length o.lent.offsets ≡ length l.offsets
      → (sa : Result StartValues Cause) (s : State)
      → begun sa s ≡ start_of full_words most_tiles (columns_of o) (settings_on o (laid_label o seed) b)
      → Plain b lengths n calls given (start_number (laid_course j seed).points most_tiles lengths b) (laid_course j seed) (columns_of o) sa s
  unfolding laid_course lay_number
  replay-plain zero q o eo et ef sa s es =
      let p = no-cause (roomy l) (ltb (length l.list) (cells_of (course_of seed).points)) q in
      subst (λ (x : Outcome). length x.lent.tiles ≡ length l.tiles → length x.lent.offsets ≡ length l.offsets
      → begun sa s ≡ start_of full_words most_tiles (columns_of x) (settings_on x (laid_label x seed) b)
      → Plain b lengths n calls given (start_number (course_of seed).points most_tiles lengths b) (course_of seed) (columns_of x) sa s)
      (sym (eo ∙ lay-columns seed l p.0))
      (λ t f e. course-plain b lengths n calls given (course_of seed).points (course-sized seed).some (few-tiles seed) (course_of seed).fallback seed l p.1 t f sa s e) et ef es
  replay-plain (suc j) q o eo et ef sa s es =
      no-course b lengths n calls given (columns_of o) (laid_label o seed) sa s
      (es ∙ ap (λ (x : ℕ). start_of full_words most_tiles (columns_of o) (settings_for x (laid_label o seed) b))
      (no-count o.answer j (ap (λ (x : Outcome). laid_cause_of x.answer) eo ∙ lays seed l ∙ q)))

-- what a start takes of a course's values
pub record SameFigures (v w : LaidCourse) : Type 0 where
  pub count : v.n ≡ w.n
  pub ring : v.fallback ≡ w.fallback

-- those of an answer, and none of a course that was not laid
pub same-figures : (r : Result LaidCourse LayError) (P : LaidCourse → Type 0) → ((x : LaidCourse) → P x → (x.n ≡ 0) × (x.fallback ≡ false)) → (v : LaidCourse) → ResultUnwrapsOrElse r P v → SameFigures v (laid_values_of r)
unfolding laid_values_of
same-figures (Ok x) P none v h = record { count = ap (λ (y : LaidCourse). y.n) h; ring = ap (λ (y : LaidCourse). y.fallback) h }
same-figures (Err e) P none v h = record { count = (none v h).0; ring = (none v h).1 }

-- what a start and the calls after it leave, from what each leaves
pub starts_and_replies : {b : Begun} {cs : List Call} {n : ℕ} {words : List ℕ} {numbers : List Float} {sa : Result StartValues Cause} {s last : State} {sh : Result RunSheet Cause} {words' : List ℕ} {numbers' : List Float}
    → begun sa s ≡ b → last ≡ state_after full_words most_tiles s cs
    → words' ≡ all_words (replies_of full_words most_tiles s cs) ++ drop (answer_words * n) words
    → numbers' ≡ all_numbers (replies_of full_words most_tiles s cs) ++ drop (answer_numbers * n) numbers
    → sh ≡ sheet_in last → StartsAndReplies b cs n words numbers sa sh words' numbers'
starts_and_replies {cs = cs} {n = n} {words = words} {numbers = numbers} e last answered numbered sheet =
    let es = ap (λ (x : Begun). x.state) e in
    record {
      started = ap (λ (x : Begun). x.answer) e;
      ended = sheet ∙ ap sheet_in (last ∙ ap (λ (x : State). state_after full_words most_tiles x cs) es);
      answered = answered ∙ ap (λ (x : State). all_words (replies_of full_words most_tiles x cs) ++ drop (answer_words * n) words) es;
      numbered = numbered ∙ ap (λ (x : State). all_numbers (replies_of full_words most_tiles x cs) ++ drop (answer_numbers * n) numbers) es;
    }

-- what each call of a replay leaves, where there is room for the calls told and their answers
pub record ReplayCalls (seed : ℕ) (l : course.CourseColumns) (b : Opening) (n : ℕ) (calls : List ℕ) (given : List Float) (words : List ℕ) (numbers : List Float)
    (o : Outcome) (v : LaidCourse) (a : Settings) (sa : Result StartValues Cause) (sh : Result RunSheet Cause) (words' : List ℕ) (numbers' : List Float) : Type 0 where
  pub room : room_for n (length calls) (length given) (length words) (length numbers) ≡ true
  pub laid : o ≡ lay_call max_attempts seed l
  pub tiles : length o.lent.tiles ≡ length l.tiles
  pub offsets : length o.lent.offsets ≡ length l.offsets
  pub values : SameFigures v (laid_values_of o.answer)
  pub settings : a ≡ settings_for v.n (record { fallback = v.fallback; seed = seed }) b
  pub run : StartsAndReplies (start_of full_words most_tiles (columns_of o) a) (calls_to (columns_of o) calls given n) n words numbers sa sh words' numbers'

-- all that the replay leaves
pub replayed : {seed : ℕ} {l : course.CourseColumns} {b : Opening} {n : ℕ} {calls : List ℕ} {given : List Float} {words : List ℕ} {numbers : List Float}
    {o : Outcome} {v : LaidCourse} {a : Settings} {sa : Result StartValues Cause} {sh : Result RunSheet Cause} {words' : List ℕ} {numbers' : List Float}
    → ReplayCalls seed l b n calls given words numbers o v a sa sh words' numbers'
    → record { laid = o.answer; start = sa; sheet = sh; lent = o.lent; words = words'; numbers = numbers' } ≡ replay_of seed l b n calls given words numbers
unfolding replay_of replay_on
replayed {seed} {l} {b} {n} {calls} {given} {words} {numbers} {o} {v} {a} {sa} h =
    let s = (start_of full_words most_tiles (columns_of o) a).state in
    let started : begun sa s ≡ start_of full_words most_tiles (columns_of o) a = ap (λ (x : Result StartValues Cause). begun x s) h.run.started in
    let p = replay-plain seed l b n calls given (lay_number seed l) refl o h.laid h.tiles h.offsets sa s
    (started ∙ ap (start_of full_words most_tiles (columns_of o)) h.settings ∙ (λ i. start_of full_words most_tiles (columns_of o) (settings_for (h.values.count i) (record { fallback = h.values.ring i; seed = seed }) b))) in
    rw h.room (λ i.
    record {
      laid = (h.laid i).answer;
      start = p.start i;
      sheet = (h.run.ended ∙ p.sheet) i;
      lent = (h.laid i).lent;
      words = (h.run.answered ∙ ap (λ (x : List Answer). all_words x ++ drop (answer_words * n) words) p.answers) i;
      numbers = (h.run.numbered ∙ ap (λ (x : List Answer). all_numbers x ++ drop (answer_numbers * n) numbers) p.answers) i;
    })
