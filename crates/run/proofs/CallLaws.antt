-- What start and settle answer, by their causes and by the contact. Assumes nothing.
use mathlib.Core.Bool.{Bool, true, false, cond, not, ◌&&◌, ◌||◌}
use mathlib.Core.List.{List}
use mathlib.Core.Path.{◌≡◌, sym, ap, ap₂, ◌∙◌, subst}
use Prim.Native.Nat.{ℕ, ◌*◌, ◌≤◌, ◌<◌}
use native.Mathlib.Omega.{arith}
use Rattle.std.specs.Prelude.{Result, Ok, Err}
use lib.Dec.{ltb, leb}
use lib.ListN.{length}
use lib.Ieee.{Float}
use borrow.Author.Tests.{ltb-false, leb-false, not-false}
use Rattle.course.specs.Grader.Cause.{number_of, cause_number}
use Rattle.course.specs.declared.cause.Cause.{Cause}
use Rattle.course.specs.Rules.Lengths.{most_points, column_length, quad_numbers, offset_count}
use Rattle.course.proofs.LengthLaws.{points-fit}
use Rattle.run.specs.Grader.State.{state_of, Columns, short_of, unfit}
use Rattle.run.specs.Rules.Arguments.{poses_ok, short_columns, settings_ok, places_ok}
use Rattle.run.specs.Grader.Touch.{sound_poses, touched_by}
use Rattle.run.specs.Rules.Wheel.{quad_of}
use Rattle.run.specs.Grader.Words.{member}
use Rattle.run.specs.Grader.Contact.{entered, Contacted, contacted, contact_of}
use Rattle.course.proofs.BoolLaws.{or_no}
use Rattle.run.proofs.CheckLaws.{passed, cause-by, none-number}
use Rattle.run.proofs.CreditLaws.{few}
use Rattle.run.proofs.SheetLaws.{fit-some, fit-credited}
use Rattle.run.specs.Grader.Numbers.{pose_numbers}
use Rattle.run.specs.Rules.Lap.{lap_of, off_field}
use Rattle.run.specs.declared.start.Settings.{Settings}
use Rattle.run.specs.Grader.Start.{start_short, start_check, setup_of, first_progress, zero_state, begun, first_contact, started_by, start_at, start_of}
use Rattle.run.specs.Rules.Pass.{still_car}
use Rattle.run.specs.Grader.Settle.{settle_check, settled_progress, SettledParts, settled_parts, settled_by, settle_at, settle_parts_of, poses_after, settled_poses, settle_poses_of}
use Rattle.run.specs.declared.state.Setup.{Setup}
use Rattle.run.specs.declared.state.Progress.{Progress}
use Rattle.run.specs.declared.state.Car.{Car}
use Rattle.run.specs.declared.state.Pose.{Pose}

-- the lent tiles are long enough for n of them
pub long : (tiles offsets n most : ℕ) → short_columns n tiles offsets ≡ false → ltb most n ≡ false → most ≤ most_points → n * 8 ≤ tiles
unfolding short_columns
long tiles offsets n most h b m =
    let t = ltb-false tiles (quad_numbers (column_length n)) (or_no (ltb tiles (quad_numbers (column_length n))) (ltb offsets offset_count) h).0 in
    let k = points-fit n (omega (arith, ltb-false most n b, m)) in
    omega (arith, t, k)

-- ---- what a contact wants to know of a course of n tiles and of the wheels' poses
pub record ContactFacts (most : ℕ) (l : Columns) (n : ℕ) (ps : List Pose) : Type 0 where
  pub some : 0 < n
  pub few : n ≤ most
  pub lent : n * 8 ≤ length l.tiles
  pub sound : sound_poses l.offsets l.list n ps ≡ true

-- ---- start
pub start-facts : (most : ℕ) (l : Columns) (a : Settings) → most ≤ most_points → Ok tt ≡ start_check most l a → ContactFacts most l a.n a.poses
unfolding start_check start_short short_of
start-facts most l a m h =
    let p = passed (not (settings_ok a.share a.limit)) _ _ (sym h) in
    let q = passed (start_short most l a.n) _ _ p.1 in
    let r = passed (not (poses_ok a.poses)) _ _ q.1 in
    let s = passed (not (sound_poses l.offsets l.list a.n a.poses)) _ _ r.1 in
    let u = or_no (short_columns a.n (length l.tiles) (length l.offsets)) (ltb a.n 1 || ltb most a.n) q.0 in
    let v = or_no (ltb a.n 1) (ltb most a.n) u.1 in
    record {
      some = ltb-false a.n 1 v.0;
      few = ltb-false most a.n v.1;
      lent = long (length l.tiles) (length l.offsets) a.n most u.0 v.1 m;
      sound = not-false (sound_poses l.offsets l.list a.n a.poses) s.0;
    }

pub start-refused : (m most : ℕ) (l : Columns) (a : Settings) (k : Cause) → Err k ≡ start_check most l a → begun (Err k) (zero_state m) ≡ start_of m most l a
unfolding start_of start_at
start-refused m most l a k e = ap (λ (j : Result Unit Cause). start_at m j l a) e

pub start-accepted : (m most : ℕ) (l : Columns) (a : Settings) (c w : List ℕ) (f : ℕ) (z lap : Bool) (p : Progress) (car : Car) (last : List Float) → Ok tt ≡ start_check most l a
    → contacted c w f z ≡ first_contact m l a.poses
    → lap ≡ lap_of false z f a.n a.share → p ≡ first_progress f lap → car ≡ still_car → last ≡ pose_numbers a.poses
    → begun (Ok (record { count = f; lap = lap })) (state_of (setup_of a) p car c w last a.seed) ≡ start_of m most l a
unfolding start_of start_at started_by
start-accepted m most l a c w f z lap p car last e h el ep er es =
    (λ i. begun (Ok (record { count = f; lap = el i })) (state_of (setup_of a) ((ep ∙ ap (first_progress f) el) i) (er i) c w (es i) a.seed))
    ∙ ap (started_by a) h ∙ ap (λ (j : Result Unit Cause). start_at m j l a) e

-- ---- settle
pub record SettleFacts (most : ℕ) (u : Setup) (p : Progress) (l : Columns) (ps : List Pose) : Type 0 where
  pub contact : ContactFacts most l u.n ps
  pub count : p.visited_count ≤ u.n
  pub time : p.tick < u.tick_limit

pub settle-facts : (most : ℕ) (u : Setup) (p : Progress) (l : Columns) (x y : Float) (ps : List Pose) → most ≤ most_points → Ok tt ≡ settle_check most u p l x y ps → SettleFacts most u p l ps
unfolding settle_check unfit short_of
settle-facts most u p l x y ps m h =
    let a = passed (unfit most u p || p.ended) _ _ (sym h) in
    let b = passed (not p.driven) _ _ a.1 in
    let c = passed (leb u.tick_limit p.tick) _ _ b.1 in
    let d = passed (short_of u.n l) _ _ c.1 in
    let e = passed (not (places_ok x y ps)) _ _ d.1 in
    let v = passed (not (sound_poses l.offsets l.list u.n ps)) _ _ e.1 in
    let f = or_no (unfit most u p) p.ended a.0 in
    let g = or_no (ltb u.n 1 || ltb most u.n) (ltb u.n p.visited_count) f.0 in
    let k = or_no (ltb u.n 1) (ltb most u.n) g.0 in
    record {
      contact = record {
        some = fit-some most u p f.0;
        few = ltb-false most u.n k.1;
        lent = long (length l.tiles) (length l.offsets) u.n most d.0 k.1 m;
        sound = not-false (sound_poses l.offsets l.list u.n ps) v.0;
      };
      count = fit-credited most u p f.0;
      time = leb-false u.tick_limit p.tick c.0;
    }

-- the number of its cause
pub settle-cause-number : (most : ℕ) (u : Setup) (p : Progress) (l : Columns) (x y : Float) (ps : List Pose)
    → cause_number (settle_check most u p l x y ps)
    ≡ cond (unfit most u p || p.ended) 4
    (cond (not p.driven) 5
    (cond (leb u.tick_limit p.tick) 6
    (cond (short_of u.n l) 2 (cond (not (places_ok x y ps)) 8 (cond (not (sound_poses l.offsets l.list u.n ps)) 10 0)))))
unfolding settle_check number_of
settle-cause-number most u p l x y ps = simp (cause-by, none-number)

pub settle-refused : (m most : ℕ) (u : Setup) {p : Progress} {c w : List ℕ} {last : List Float} (l : Columns) (x y : Float) (ps : List Pose) {e : Cause}
    → Err e ≡ settle_check most u p l x y ps → settled_poses (settled_parts (Err e) p c w) last ≡ settle_poses_of m most u p c w last l x y ps
unfolding settle_poses_of settle_parts_of settle_at poses_after
settle-refused m most u {p} {c} {w} {last} l x y ps h =
    ap (λ (d : SettledParts). settled_poses d (poses_after d.answer ps last)) (ap (λ (r : Result Unit Cause). settle_at m r u p c w l x y ps) h)

-- what each call of an accepted settle leaves
pub record SettleCalls (m most : ℕ) (u : Setup) (p : Progress) (c w : List ℕ) (l : Columns) (x y : Float) (ps : List Pose) (c' w' : List ℕ) (f : ℕ) (z o : Bool) (next : Progress) (last' : List Float) : Type 0 where
  pub none : Ok tt ≡ settle_check most u p l x y ps
  pub contact : contacted c' w' f z ≡ contact_of m c w (λ v. touched_by l.tiles l.offsets l.list (quad_of ps v))
  pub off : o ≡ off_field x y
  pub progress : next ≡ settled_progress u p f z o
  pub poses : last' ≡ pose_numbers ps

pub settle-accepted : {m most : ℕ} {u : Setup} {p : Progress} {c w : List ℕ} {l : Columns} {x y : Float} {ps : List Pose} {c' w' : List ℕ} {f : ℕ} {z o : Bool} {next : Progress} {last' : List Float} (last : List Float)
    → SettleCalls m most u p c w l x y ps c' w' f z o next last'
    → settled_poses (settled_parts (Ok (record { new_tiles = f; n = u.n; off = o; lap = next.lap; ended = next.ended })) next c' w') last' ≡ settle_poses_of m most u p c w last l x y ps
unfolding settle_poses_of settle_parts_of settle_at settled_by poses_after
settle-accepted {m} {u = u} {p = p} {c = c} {w = w} {l = l} {x = x} {y = y} {ps = ps} {c' = c'} {w' = w'} {f = f} {o = o} last h =
    (λ i. settled_poses (settled_parts (Ok (record { new_tiles = f; n = u.n; off = o; lap = (h.progress i).lap; ended = (h.progress i).ended })) (h.progress i) c' w') (h.poses i))
    ∙ ap (λ (d : SettledParts). settled_poses d (poses_after d.answer ps last))
    (ap₂ (settled_by u p) h.off h.contact ∙ ap (λ (r : Result Unit Cause). settle_at m r u p c w l x y ps) h.none)

-- a contact has no more new tiles than its words have bits
pub contact-few : (m : ℕ) (c w : List ℕ) (P : ℕ → ℕ → Bool) {c' w' : List ℕ} {f : ℕ} {z : Bool} → contacted c' w' f z ≡ contact_of m c w P → f ≤ 64 * m
unfolding contact_of
contact-few m c w P e = subst (λ (x : ℕ). x ≤ 64 * m) (sym (ap (λ (x : Contacted). x.fresh) e)) (few (64 * m) (λ t. entered m w P t && not (member c t)))
