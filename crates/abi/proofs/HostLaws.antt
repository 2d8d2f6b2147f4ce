-- A list of calls through the boundary, each fed what the last one left, gives the answers and the state of the list by value; so what demand 3 says of
-- that list holds for what a host reads and keeps. For any number of words. Assumes nothing.
use mathlib.Core.List.{List, [], ◌∷◌, map}
use mathlib.Core.Path.{◌≡◌, refl, ap, ◌∙◌}
use Prim.Native.Nat.{ℕ}
use native.Mathlib.Omega.{arith}
use mathlib.Core.Bool.{false}
use lib.Dec.{eqb}
use Rattle.std.specs.Prelude.{Option, Some, None, Result, Ok, Err}
use lib.ListN.{length, get_or}
use lib.Ieee.{Float}
use borrow.Author.Tests.{ne_eqb}
use Rattle.course.specs.Grader.Cause.{number_of, cause_number}
use Rattle.course.specs.declared.cause.Cause.{Cause}
use Rattle.run.proofs.CheckLaws.{number-some, number-not-0}
use Rattle.run.specs.Grader.State.{State, state_of, view, Columns}
use Rattle.run.specs.Rules.Pass.{gathered_of, pass_of, still_car}
use Rattle.run.specs.Grader.Drive.{drive_check, drive_at, drive_parts_of, drive_of}
use Rattle.run.specs.Grader.Settle.{settle_check, settled_by, settle_at, settle_parts_of, poses_after, settle_poses_of, settle_of}
use Rattle.run.specs.Grader.Start.{zero_state, started_by, start_at, start_of}
use Rattle.run.specs.Grader.Saved.{Fields, loaded}
use Rattle.run.specs.Grader.Save.{save_check, save_at, save_of}
use Rattle.run.specs.Grader.Restore.{restore_check, restored_state, restore_at, restore_of}
use Rattle.certificate.specs.Rules.Answers.{Answer, Reply}
use Rattle.certificate.specs.Rules.Answers.Reply.{answered, decided}
use Rattle.certificate.specs.Grader.Calls.{Call, Replied, reply_of, replies_of, state_after, going, Went, went, saves_after, state_next, request_of, requests_said, going_after}
use Rattle.run.specs.Grader.Numbers.{motions_from, force_from, forces_from, force_numbers, wheel_from, car_from, car_numbers}
use Rattle.run.specs.declared.state.Setup.{Setup}
use Rattle.run.specs.declared.state.Progress.{Progress}
use Rattle.run.specs.declared.state.Pose.{Pose}
use Rattle.run.specs.declared.start.Settings.{Settings}
use Rattle.run.specs.Grader.Start.{start_check}
use Rattle.abi.specs.Grader.Flat.{flat_driven, flat_settled, run_of, flat_saved, flat_save, flat_restored}
use Rattle.abi.specs.Grader.InPlace.{forces_after, drive_in_place, settle_in_place}
use Rattle.abi.specs.Laws.Host.{Kept, kept_run, kept_state, kept_from, HostCall, value_call, drive_read, settle_read, HostReplied, host_reply, host_replies, host_kept, HostRequest, value_request, HostGoing, host_going, value_going, saves_kept, run_kept, HostWent, host_request, host_said, host_after}

-- what is read, and the state that is kept
abbrev read_as : HostReplied → Replied
read_as r = record { answer = r.answer; state = kept_state r.kept }

-- ---- one call, by its cause's number
module _ (m most : ℕ) (u : Setup) (p : Progress) (car : List Float) (credited wheels : List ℕ) (last : List Float) (seed : ℕ) where
  drive-at : (r : Result Unit Cause) (action : ℕ) (ms fs : List Float) → drive_check most u p action (motions_from ms) ≡ r
      → read_as (host_reply m most (kept_run u p car credited wheels last seed) (HostCall.drive action ms fs))
      ≡ reply_of m most (state_of u p (car_from car) credited wheels last seed) (Call.drive action (motions_from ms))
  unfolding host_reply drive_in_place flat_driven forces_after drive_read reply_of drive_of drive_parts_of drive_at cause_number kept_state pass_of gathered_of forces_from force_from force_numbers car_from car_numbers wheel_from
  drive-at (Ok none) action ms fs e = rw e
  drive-at (Err c) action ms fs e = rw (e, ne_eqb (number_of c) 0 (number-not-0 c))

  settle-at : (r : Result Unit Cause) (l : Columns) (x y : Float) (ps : List Pose) → settle_check most u p l x y ps ≡ r
      → read_as (host_reply m most (kept_run u p car credited wheels last seed) (HostCall.settle l x y ps))
      ≡ reply_of m most (state_of u p (car_from car) credited wheels last seed) (Call.settle l x y ps)
  unfolding host_reply settle_in_place flat_settled settle_read reply_of settle_of settle_poses_of poses_after settle_parts_of settle_at cause_number settled_by kept_state
  settle-at (Ok none) l x y ps e = rw e
  settle-at (Err c) l x y ps e = rw (e, ne_eqb (number_of c) 0 (number-not-0 c))

one-call : (m most : ℕ) (k : Kept) (c : HostCall) → read_as (host_reply m most k c) ≡ reply_of m most (kept_state k) (value_call c)
unfolding value_call kept_state
one-call m most k (HostCall.drive a ms fs) = drive-at m most k.setup k.progress k.car k.credited k.wheels k.poses k.seed _ a ms fs refl
one-call m most k (HostCall.settle l x y ps) = settle-at m most k.setup k.progress k.car k.credited k.wheels k.poses k.seed _ l x y ps refl

-- ---- the list
pub host-replies : (m most : ℕ) (cs : List HostCall) (k : Kept) → host_replies m most k cs ≡ replies_of m most (kept_state k) (map value_call cs)
unfolding host_replies replies_of
host-replies m most [] k = refl
host-replies m most (c ∷ cs) k =
    ap (λ (r : List Answer). (host_reply m most k c).answer ∷ r) (host-replies m most cs (host_reply m most k c).kept)
    ∙ ap (λ (r : Replied). r.answer ∷ replies_of m most r.state (map value_call cs)) (one-call m most k c)

pub host-state : (m most : ℕ) (cs : List HostCall) (k : Kept) → kept_state (host_kept m most k cs) ≡ state_after m most (kept_state k) (map value_call cs)
unfolding host_kept state_after
host-state m most [] k = refl
host-state m most (c ∷ cs) k =
    host-state m most cs (host_reply m most k c).kept
    ∙ ap (λ (r : Replied). state_after m most r.state (map value_call cs)) (one-call m most k c)

-- ---- what start returns is kept as it is, refused or not
start-at : (m : ℕ) (k : Result Unit Cause) (l : Columns) (a : Settings) → kept_state (kept_from (start_at m k l a).state) ≡ (start_at m k l a).state
unfolding start_at started_by zero_state kept_state kept_from still_car car_from car_numbers wheel_from
start-at m (Ok none) l a = refl
start-at m (Err k) l a = refl

pub start-kept : (m most : ℕ) (l : Columns) (a : Settings) → kept_state (kept_from (start_of m most l a).state) ≡ (start_of m most l a).state
unfolding start_of
start-kept m most l a = start-at m (start_check most l a) l a

-- the whole: a start, and a list of calls through the boundary from the run that it returned
pub host-list : (m most : ℕ) (l : Columns) (a : Settings) (cs : List HostCall)
    → (host_replies m most (kept_from (start_of m most l a).state) cs ≡ replies_of m most (start_of m most l a).state (map value_call cs))
    × (kept_state (host_kept m most (kept_from (start_of m most l a).state) cs) ≡ state_after m most (start_of m most l a).state (map value_call cs))
host-list m most l a cs = (
  host-replies m most cs (kept_from (start_of m most l a).state) ∙ ap (λ (s : State). replies_of m most s (map value_call cs)) (start-kept m most l a),
  host-state m most cs (kept_from (start_of m most l a).state) ∙ ap (λ (s : State). state_after m most s (map value_call cs)) (start-kept m most l a),
)

-- ---- saves and restores among them, by the cause's number
abbrev went_as : HostWent → Went
went_as r = went r.reply (value_going r.going)

refused-read : (e : Cause) → eqb (number_of e) 0 ≡ false
refused-read e =
    let p = number-some e in
    ne_eqb (number_of e) 0 (λ z. omega (arith, p.1, z))

save-at : (k : Result Unit Cause) (s : State) (out : List ℕ) (bs : List (List ℕ)) → saves_kept (flat_save (save_at k s out)) bs ≡ saves_after (save_at k s out).answer (save_at k s out).out bs
unfolding saves_kept flat_save flat_saved save_at cause_number
save-at (Ok none) s out bs = refl
save-at (Err e) s out bs =
    rw (refused-read e)

restore-at : (m : ℕ) (k : Result Unit Cause) (l : Columns) (r : Option Fields) (h : Kept) → kept_state (run_kept (flat_restored (restore_at m k l r)) h) ≡ state_next (restore_at m k l r).answer (restore_at m k l r).state (kept_state h)
unfolding run_kept flat_restored run_of view restore_at cause_number number_of restored_state kept_state kept_from car_from car_numbers wheel_from
restore-at m (Ok none) l (Some f) h = refl
restore-at m (Ok none) l None h = refl
restore-at m (Err e) l r h = rw (refused-read e)

one-request : (m most : ℕ) (g : HostGoing) (r : HostRequest) → went_as (host_request m most g r) ≡ request_of m most (value_going g) (value_request r)
unfolding host_request request_of value_request value_going flat_save flat_saved flat_restored save_of restore_of
one-request m most g (HostRequest.call c) = ap (λ (r : Replied). went (answered r.answer) (going r.state g.saves)) (one-call m most g.kept c)
one-request m most g (HostRequest.save out) =
    let s = kept_state g.kept in
    let k = save_check most s.setup s.progress (length out) in
    ap (λ (bs : List (List ℕ)). went (decided (cause_number (save_at k s out).answer)) (going s bs)) (save-at k s out g.saves)
one-request m most g (HostRequest.restore l n i) =
    let r = loaded m most (get_or g.saves i []) in
    let k = restore_check l n r in
    ap (λ (s : State). went (decided (cause_number (restore_at m k l r).answer)) (going s g.saves)) (restore-at m k l r g.kept)

host-said : (m most : ℕ) (rs : List HostRequest) (g : HostGoing) → host_said m most g rs ≡ requests_said m most (value_going g) (map value_request rs)
unfolding host_said requests_said
host-said m most [] g = refl
host-said m most (r ∷ rs) g =
    ap (λ (a : List Reply). (host_request m most g r).reply ∷ a) (host-said m most rs (host_request m most g r).going)
    ∙ ap (λ (w : Went). w.reply ∷ requests_said m most w.going (map value_request rs)) (one-request m most g r)

host-after : (m most : ℕ) (rs : List HostRequest) (g : HostGoing) → value_going (host_after m most g rs) ≡ going_after m most (value_going g) (map value_request rs)
unfolding host_after going_after
host-after m most [] g = refl
host-after m most (r ∷ rs) g =
    host-after m most rs (host_request m most g r).going
    ∙ ap (λ (w : Went). going_after m most w.going (map value_request rs)) (one-request m most g r)

-- the whole: a start, and a list of calls, saves and restores through the boundary from the run that it returned
pub host-requests : (m most : ℕ) (l : Columns) (a : Settings) (rs : List HostRequest)
    → (host_said m most (host_going (kept_from (start_of m most l a).state) []) rs ≡ requests_said m most (going (start_of m most l a).state []) (map value_request rs))
    × (value_going (host_after m most (host_going (kept_from (start_of m most l a).state) []) rs) ≡ going_after m most (going (start_of m most l a).state []) (map value_request rs))
unfolding value_going
host-requests m most l a rs = (
  host-said m most rs g ∙ ap (λ (s : State). requests_said m most (going s []) (map value_request rs)) (start-kept m most l a),
  host-after m most rs g ∙ ap (λ (s : State). going_after m most (going s []) (map value_request rs)) (start-kept m most l a),
)
  where
    g : HostGoing
    g = host_going (kept_from (start_of m most l a).state) []
