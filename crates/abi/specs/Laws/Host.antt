-- Demand 3 (document 01, "The plain scorer", and document 02, order 1) speaks of a list of calls by value. A host makes them through the boundary, on a run that
-- it keeps in place: each call is fed what the last one left, and what is written back beside the lent numbers and words is the progress; a save is handed the
-- run, and a restore returns one. Such a list, and what is read of its answers. For sets of m words that hold `most` tiles. Assumes nothing.
use Rattle.std.specs.Prelude.{cond, List, [], ◌∷◌, ℕ, eqb, get_or, take, Float}
use Rattle.run.specs.Grader.State.{State, state_of, view, Columns}
use Rattle.run.specs.Grader.Save.{save_of}
use Rattle.run.specs.Grader.Restore.{restore_of}
use Rattle.certificate.specs.Rules.Answers.{Answer, Reply}
use Rattle.certificate.specs.Rules.Answers.Answer.{drove, settled, refused}
use Rattle.certificate.specs.Rules.Answers.Reply.{answered, decided}
use Rattle.certificate.specs.Grader.Calls.{Call, Request, Going, going}
use Rattle.run.specs.Grader.Numbers.{motions_from, forces_from, car_from, car_numbers}
use Rattle.run.specs.declared.state.Setup.{Setup}
use Rattle.run.specs.declared.state.Progress.{Progress}
use Rattle.run.specs.declared.state.Pose.{Pose}
use Rattle.abi.specs.Grader.Flat.{SavedOut, flat_save, flat_restored}
use Rattle.abi.specs.Grader.InPlace.{drive_in_place, settle_in_place}
use Rattle.abi.specs.declared.flat.FlatDriven.{FlatDriven}
use Rattle.abi.specs.declared.flat.FlatSettled.{FlatSettled}
use Rattle.abi.specs.declared.flat.FlatRestored.{FlatRestored}

-- a run as a host keeps it, its car as numbers
pub record Kept : Type 0 where
  pub setup : Setup
  pub progress : Progress
  pub car : List Float
  pub credited : List ℕ
  pub wheels : List ℕ
  pub poses : List Float
  pub seed : ℕ

abbrev pub kept_run : Setup → Progress → List Float → List ℕ → List ℕ → List Float → ℕ → Kept
kept_run u p car credited wheels last seed =
    record { setup = u; progress = p; car = car; credited = credited; wheels = wheels; poses = last; seed = seed }

-- the state that it is, and a state as it is kept
unfoldable pub kept_state : Kept → State
kept_state k = state_of k.setup k.progress (car_from k.car) k.credited k.wheels k.poses k.seed

unfoldable pub kept_from : State → Kept
kept_from s = kept_run s.setup s.progress (car_numbers s.car) s.credited s.wheels s.poses s.seed

-- a host's call: action, motions and what stands where the forces are to be written; or the lent columns, hull and poses
pub data HostCall : Type 0 where
  drive : ℕ → List Float → List Float → HostCall
  settle : Columns → Float → Float → List Pose → HostCall

-- the same as a call by value
unfoldable pub value_call : HostCall → Call
value_call (drive a ms fs) = Call.drive a (motions_from ms)
value_call (settle l x y ps) = Call.settle l x y ps

-- ---- what a host reads: by the cause's number, the forces written, or the values answered

unfoldable pub drive_read : FlatDriven → List Float → Answer
drive_read r forces = cond (eqb r.cause 0) (drove (forces_from forces)) (refused r.cause)

unfoldable pub settle_read : FlatSettled → Answer
settle_read r = cond (eqb r.cause 0) (settled (record { new_tiles = r.new_tiles; n = r.n; off = r.off; lap = r.lap; ended = r.ended })) (refused r.cause)

-- ---- a call, and a list of them

pub record HostReplied : Type 0 where
  pub answer : Answer
  pub kept : Kept

unfoldable pub host_reply : ℕ → ℕ → Kept → HostCall → HostReplied
host_reply m most k (drive a ms fs) =
    let d = drive_in_place m most k.setup k.progress k.car k.wheels a ms fs in
    record {
      answer = drive_read d.answer d.forces;
      kept = kept_run k.setup d.answer.progress d.car k.credited k.wheels k.poses k.seed;
    }
host_reply m most k (settle l x y ps) =
    let d = settle_in_place m most k.setup k.progress k.credited k.wheels k.poses l x y ps in
    record {
      answer = settle_read d.answer;
      kept = kept_run k.setup d.answer.progress k.car d.credited d.wheels d.poses k.seed;
    }

unfoldable pub host_replies : ℕ → ℕ → Kept → List HostCall → List Answer
host_replies m most k [] = []
host_replies m most k (c ∷ cs) = (host_reply m most k c).answer ∷ host_replies m most (host_reply m most k c).kept cs

unfoldable pub host_kept : ℕ → ℕ → Kept → List HostCall → Kept
host_kept m most k [] = k
host_kept m most k (c ∷ cs) = host_kept m most (host_reply m most k c).kept cs

-- ---- saves and restores among them

-- a call; a save, with the output that it is lent; a restore, with the columns that it is lent, n, and how many saves were accepted after the one whose
-- bytes it gets
pub data HostRequest : Type 0 where
  call : HostCall → HostRequest
  save : List ℕ → HostRequest
  restore : Columns → ℕ → ℕ → HostRequest

-- the same as a request by value
unfoldable pub value_request : HostRequest → Request
value_request (call c) = Request.call (value_call c)
value_request (save out) = Request.save out
value_request (restore l n i) = Request.restore l n i

-- what a host goes on with: its run, and the bytes of each accepted save, the last one first
pub record HostGoing : Type 0 where
  pub kept : Kept
  pub saves : List (List ℕ)

abbrev pub host_going : Kept → List (List ℕ) → HostGoing
host_going k bs = record { kept = k; saves = bs }

unfoldable pub value_going : HostGoing → Going
value_going g = going (kept_state g.kept) g.saves

-- what a host keeps, by the cause's number: of a save the output up to the length answered, of a restore the run returned
unfoldable pub saves_kept : SavedOut → List (List ℕ) → List (List ℕ)
saves_kept d bs = cond (eqb d.answer.cause 0) (take d.answer.length d.out ∷ bs) bs

unfoldable pub run_kept : FlatRestored → Kept → Kept
run_kept r k = cond (eqb r.cause 0) (kept_from (view r.run)) k

-- a request, and a list of them

pub record HostWent : Type 0 where
  pub reply : Reply
  pub going : HostGoing

unfoldable pub host_request : ℕ → ℕ → HostGoing → HostRequest → HostWent
host_request m most g (call c) =
    let r = host_reply m most g.kept c in
    record { reply = answered r.answer; going = host_going r.kept g.saves }
host_request m most g (save out) =
    let d = flat_save (save_of most (kept_state g.kept) out) in
    record { reply = decided d.answer.cause; going = host_going g.kept (saves_kept d g.saves) }
host_request m most g (restore l n i) =
    let r = flat_restored (restore_of m most (get_or g.saves i []) l n) in
    record { reply = decided r.cause; going = host_going (run_kept r g.kept) g.saves }

unfoldable pub host_said : ℕ → ℕ → HostGoing → List HostRequest → List Reply
host_said m most g [] = []
host_said m most g (r ∷ rs) = (host_request m most g r).reply ∷ host_said m most (host_request m most g r).going rs

unfoldable pub host_after : ℕ → ℕ → HostGoing → List HostRequest → HostGoing
host_after m most g [] = g
host_after m most g (r ∷ rs) = host_after m most (host_request m most g r).going rs
