-- Laws of the plain scorer over a list of calls: turns, sums, the end, and the numbers that cannot occur. Assumes nothing.
use mathlib.Core.Bool.{Bool, true, false, cond, not, ◌&&◌}
use mathlib.Core.List.{List, [], ◌∷◌}
use mathlib.Core.Path.{◌≡◌, refl, sym, ap}
use Prim.Native.Nat.{ℕ, zero, suc, ◌+◌, ◌≤◌, ◌<◌}
use native.Mathlib.Omega.{arith}
use lib.Dec.{ltb, leb, eqb}
use lib.ListN.{length}
use lib.Ieee.{Float}
use borrow.Author.Tests.{ltb-true, ltb-false, lt-ltb, leb-false, not-false}
use Rattle.course.specs.declared.tiles.TrackPoint.{TrackPoint}
use Rattle.run.specs.Rules.Arguments.{short_columns, save_room, places_ok, motions_ok}
use Rattle.certificate.specs.Rules.Answers.Reply.{answered}
use Rattle.certificate.specs.Claim.Scorer.{LentLengths, Told, History, opening, drives, settles, off, touched, touches, touched_count, new_tiles, lap_done, over, ended, drive_number, settle_number, drive_score, settle_score, score, KeptCalls, save_number, restore_number, after_item}
use Rattle.certificate.specs.Claim.Scorer.History.{then_settle}
use Rattle.course.specs.Grader.Outcome.{Outcome}
use Rattle.certificate.specs.Claim.Items.{Lending, CourseCall, lent_by, lengths_of, told_of, CourseItem, item_by, items_of, reply_to, replies_to, Sums, sums, sums_by, occurs, all_occur}
use Rattle.run.specs.declared.state.Pose.{Pose}
use Rattle.run.specs.declared.dynamics.Motion.{Motion}
use Rattle.run.proofs.WordLaws.{how_many-or}
use Rattle.course.proofs.BoolLaws.{both, cleared}

-- ---- numbers that cannot occur
-- where neither the first cause nor what follows it has the number j
never : (j k : ℕ) (a : Bool) (rest : ℕ) → not (eqb k j) ≡ true → not (eqb rest j) ≡ true → not (eqb (cond a k rest) j) ≡ true
never j k true rest e f = e
never j k false rest e f = f

no-ten : (a b c d e : Bool) → not (eqb (cond a 4 (cond b 5 (cond c 6 (cond d 7 (cond e 8 0))))) 10) ≡ true
no-ten a b c d e = never 10 4 a _ refl (never 10 5 b _ refl (never 10 6 c _ refl (never 10 7 d _ refl (never 10 8 e _ refl refl))))

no-ten-six : (a b c d : Bool) → (not (eqb (cond a 4 (cond b 5 (cond c 2 (cond d 8 0)))) 10) && not (eqb (cond a 4 (cond b 5 (cond c 2 (cond d 8 0)))) 6)) ≡ true
no-ten-six a b c d =
    both _ _ (never 10 4 a _ refl (never 10 5 b _ refl (never 10 2 c _ refl (never 10 8 d _ refl refl)))) (never 6 4 a _ refl (never 6 5 b _ refl (never 6 2 c _ refl (never 6 8 d _ refl refl))))

no-four : (a b : Bool) → not (eqb (cond a 5 (cond b 2 0)) 4) ≡ true
no-four a b = never 4 5 a _ refl (never 4 2 b _ refl refl)

no-ten-twelve : (a b : Bool) → (not (eqb (cond a 11 (cond b 2 0)) 10) && not (eqb (cond a 11 (cond b 2 0)) 12)) ≡ true
no-ten-twelve a b = both _ _ (never 10 11 a _ refl (never 10 2 b _ refl refl)) (never 12 11 a _ refl (never 12 2 b _ refl refl))

-- drives and settles alternate, drive first, and a settle that is owed is within the tick limit
pub record InTurn (h : History) : Type 0 where
  pub ahead : settles h ≤ drives h
  pub close : drives h ≤ settles h + 1
  pub time : settles h < drives h → settles h < (opening h).limit

module _ (c : List TrackPoint) where
  -- ---- turns
  drive-turn : (h : History) → InTurn h → (a : ℕ) (ms : List Motion) (k : ℕ) → drive_number c h a ms ≡ k → InTurn (drive_score c k h a ms).kept
  unfolding drive_score drive_number opening drives settles
  drive-turn h v a ms zero e =
      let p = cleared (ltb (settles h) (drives h)) 4 _ (cleared (ended c h) 3 _ e).1 in
      let q = cleared (leb (opening h).limit (settles h)) 5 _ p.1 in
      let even : drives h ≤ settles h = ltb-false _ _ p.0 in
      let left : settles h < (opening h).limit = leb-false _ _ q.0 in
      let l : settles h ≤ drives h = v.ahead in
      record { ahead = omega arith; close = omega arith; time = λ _. left }
  drive-turn h v a ms (suc k) e = v

  settle-turn : (h : History) → InTurn h → (l : LentLengths) (x y : Float) (ps : List Pose) (k : ℕ) → settle_number c h l x y ps ≡ k → InTurn (settle_score c k h x y ps).kept
  unfolding settle_score settle_number opening drives settles
  settle-turn h v l x y ps zero e =
      let p = cleared (not (ltb (settles h) (drives h))) 4 _ (cleared (ended c h) 3 _ e).1 in
      let owed : settles h < drives h = ltb-true _ _ (not-false _ p.0) in
      let near : drives h ≤ settles h + 1 = v.close in
      record { ahead = omega arith; close = omega arith; time = λ m. absurd (omega arith) }
  settle-turn h v l x y ps (suc k) e = v

  pub kept-turn : (h : History) → InTurn h → (t : Told) → InTurn (score c h t).kept
  unfolding score
  kept-turn h v (Told.drive a ms) = drive-turn h v a ms (drive_number c h a ms) refl
  kept-turn h v (Told.settle l x y ps) = settle-turn h v l x y ps (settle_number c h l x y ps) refl

  -- ---- what the start was told stays
  drive-opening : (k : ℕ) (h : History) (a : ℕ) (ms : List Motion) → opening (drive_score c k h a ms).kept ≡ opening h
  unfolding drive_score opening
  drive-opening zero h a ms = refl
  drive-opening (suc k) h a ms = refl

  settle-opening : (k : ℕ) (h : History) (x y : Float) (ps : List Pose) → opening (settle_score c k h x y ps).kept ≡ opening h
  unfolding settle_score opening
  settle-opening zero h x y ps = refl
  settle-opening (suc k) h x y ps = refl

  pub one-opening : (h : History) (t : Told) → opening (score c h t).kept ≡ opening h
  unfolding score
  one-opening h (Told.drive a ms) = drive-opening (drive_number c h a ms) h a ms
  one-opening h (Told.settle l x y ps) = settle-opening (settle_number c h l x y ps) h x y ps

  -- ---- what one answer adds to the sums
  abbrev pub sums_of : History → Sums
  sums_of h = sums (touched_count c h) (ended c h)

  drive-sums : (k : ℕ) (h : History) (a : ℕ) (ms : List Motion) → sums_by (sums_of h) (answered (drive_score c k h a ms).answer) ≡ sums_of (drive_score c k h a ms).kept
  unfolding drive_score sums_by touched_count touched ended over off settles lap_done
  drive-sums zero h a ms = refl
  drive-sums (suc k) h a ms = refl

  settle-sums : (k : ℕ) (h : History) (x y : Float) (ps : List Pose) → sums_by (sums_of h) (answered (settle_score c k h x y ps).answer) ≡ sums_of (settle_score c k h x y ps).kept
  unfolding settle_score sums_by touched_count new_tiles touched
  settle-sums zero h x y ps = ap (λ (n : ℕ). sums n (ended c (then_settle h x y ps))) (sym (how_many-or (length c) (touched c h) (touches c ps)))
  settle-sums (suc k) h x y ps = refl

  pub one-sums : (h : History) (t : Told) → sums_by (sums_of h) (answered (score c h t).answer) ≡ sums_of (score c h t).kept
  unfolding score
  one-sums h (Told.drive a ms) = drive-sums (drive_number c h a ms) h a ms
  one-sums h (Told.settle l x y ps) = settle-sums (settle_number c h l x y ps) h x y ps

  pub ended-over : (h : History) → 0 < settles h → ended c h ≡ over c h
  unfolding ended
  ended-over h l = rw (lt-ltb 0 (settles h) l)

  -- ---- no call is refused by 10, and no settle by 6; no save by 4, and no restore by 12
  drive-occurs : (n k : ℕ) (h : History) (a : ℕ) (ms : List Motion) → not (eqb k 10) ≡ true → occurs {n = n} (CourseItem.call (CourseCall.drive a ms)) (answered (drive_score c k h a ms).answer) ≡ true
  unfolding drive_score occurs
  drive-occurs n zero h a ms e = refl
  drive-occurs n (suc k) h a ms e = e

  settle-occurs : {n : ℕ} (k : ℕ) (h : History) (by : Lending n) (x y : Float) (ps : List Pose) → (not (eqb k 10) && not (eqb k 6)) ≡ true
      → occurs (CourseItem.call (CourseCall.settle by x y ps)) (answered (settle_score c k h x y ps).answer) ≡ true
  unfolding settle_score occurs
  settle-occurs zero h by x y ps e = refl
  settle-occurs (suc k) h by x y ps e = e

  pub one-occurs : {n : ℕ} (o : Outcome) (i : CourseItem n) (k : KeptCalls) → occurs i (reply_to c k (item_by o i)) ≡ true
  unfolding score told_of item_by reply_to drive_number settle_number save_number restore_number occurs
  one-occurs {n} o (CourseItem.call (CourseCall.drive a ms)) k =
      let h : History = k.calls in
      drive-occurs n (drive_number c h a ms) h a ms
      (no-ten (ended c h) (ltb (settles h) (drives h)) (leb (opening h).limit (settles h)) (ltb 4 a) (not (motions_ok ms)))
  one-occurs {n} o (CourseItem.call (CourseCall.settle by x y ps)) k =
      let h : History = k.calls in
      let l : LentLengths = lengths_of (lent_by o by) in
      settle-occurs (settle_number c h l x y ps) h by x y ps
      (no-ten-six (ended c h) (not (ltb (settles h) (drives h))) (short_columns (length c) l.tiles l.offsets) (not (places_ok x y ps)))
  one-occurs {n} o (CourseItem.save out) k = no-four (ltb (settles k.calls) (drives k.calls)) (ltb (length out) save_room)
  one-occurs {n} o (CourseItem.restore by i) k =
      let l : LentLengths = lengths_of (lent_by o by) in
      no-ten-twelve (leb (length k.saves) i) (short_columns (length c) l.tiles l.offsets)

  pub all-occur : {n : ℕ} (o : Outcome) (is : List (CourseItem n)) (k : KeptCalls) → all_occur is (replies_to c k (items_of o is)) ≡ true
  unfolding all_occur replies_to
  all-occur o [] k = refl
  all-occur o (i ∷ is) k = both _ _ (one-occurs o i k) (all-occur o is (after_item c k (item_by o i)))
