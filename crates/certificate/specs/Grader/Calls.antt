-- Document 01, "The plain scorer" (demand 3), and document 02, order 1, the grader's side: a list of drives and settles, each handed the state that the one
-- before it returned, refused or not; and a list that holds saves and restores too. What a call answers and returns is what its contract says. For states whose sets have m words and take n up
-- to `most`. Assumes nothing.
use Rattle.std.specs.Prelude.{List, [], ◌∷◌, ℕ, get_or, take, Float, Result, Ok, Err}
use Rattle.course.specs.Grader.Cause.{cause_number, number_of}
use Rattle.course.specs.declared.cause.Cause.{Cause}
use Rattle.run.specs.Grader.State.{State, Columns}
use Rattle.run.specs.Grader.Drive.{drive_of}
use Rattle.run.specs.Grader.Settle.{settle_of}
use Rattle.run.specs.Grader.Save.{save_of}
use Rattle.run.specs.Grader.Restore.{restore_of}
use Rattle.certificate.specs.Rules.Answers.{Answer, Reply}
use Rattle.certificate.specs.Rules.Answers.Answer.{drove, settled, refused}
use Rattle.certificate.specs.Rules.Answers.Reply.{answered, decided}
use Rattle.run.specs.declared.state.Pose.{Pose}
use Rattle.run.specs.declared.dynamics.Motion.{Motion}
use Rattle.run.specs.declared.dynamics.Force.{Force}
use Rattle.run.specs.declared.settle.SettleValues.{SettleValues}

-- a call with all that it is handed but the state
pub data Call : Type 0 where
  drive : ℕ → List Motion → Call
  settle : Columns → Float → Float → List Pose → Call

-- an answer, and the state returned beside it
pub record Replied : Type 0 where
  pub answer : Answer
  pub state : State

abbrev pub drive_said : Result (List Force) Cause → Answer
drive_said (Ok fs) = drove fs
drive_said (Err c) = refused (number_of c)

abbrev pub settle_said : Result SettleValues Cause → Answer
settle_said (Ok v) = settled v
settle_said (Err c) = refused (number_of c)

unfoldable pub reply_of : ℕ → ℕ → State → Call → Replied
reply_of m most s (drive a ms) =
    let d = drive_of m most s a ms in
    record { answer = drive_said d.answer; state = d.state }
reply_of m most s (settle l x y ps) =
    let d = settle_of m most s l x y ps in
    record { answer = settle_said d.answer; state = d.state }

-- the answers to a list of calls, in order
unfoldable pub replies_of : ℕ → ℕ → State → List Call → List Answer
replies_of m most s [] = []
replies_of m most s (c ∷ cs) = (reply_of m most s c).answer ∷ replies_of m most (reply_of m most s c).state cs

-- the state after them
unfoldable pub state_after : ℕ → ℕ → State → List Call → State
state_after m most s [] = s
state_after m most s (c ∷ cs) = state_after m most (reply_of m most s c).state cs

-- ---- saves and restores among them

-- a drive or settle; a save, with the output that it is lent; a restore, with the columns that it is lent, n, and how many saves were accepted after the
-- one whose bytes it gets
pub data Request : Type 0 where
  call : Call → Request
  save : List ℕ → Request
  restore : Columns → ℕ → ℕ → Request

-- what the list goes on with: the state, and the bytes that each accepted save wrote, the last one first
pub record Going : Type 0 where
  pub state : State
  pub saves : List (List ℕ)

abbrev pub going : State → List (List ℕ) → Going
going s bs = record { state = s; saves = bs }

-- what is said, and what the list goes on with
pub record Went : Type 0 where
  pub reply : Reply
  pub going : Going

abbrev pub went : Reply → Going → Went
went r g = record { reply = r; going = g }

-- a save's bytes are those of its output up to the length that it answers
abbrev pub saves_after : Result ℕ Cause → List ℕ → List (List ℕ) → List (List ℕ)
saves_after (Ok length) out bs = take length out ∷ bs
saves_after (Err k) out bs = bs

-- a refused restore's zeros are not taken up: the list goes on with the state that it had
abbrev pub state_next : Result Unit Cause → State → State → State
state_next (Ok none) new old = new
state_next (Err k) new old = old

-- a restore that names no save gets no bytes
unfoldable pub request_of : ℕ → ℕ → Going → Request → Went
request_of m most g (call c) =
    let r = reply_of m most g.state c in
    went (answered r.answer) (going r.state g.saves)
request_of m most g (save out) =
    let d = save_of most g.state out in
    went (decided (cause_number d.answer)) (going g.state (saves_after d.answer d.out g.saves))
request_of m most g (restore l n i) =
    let d = restore_of m most (get_or g.saves i []) l n in
    went (decided (cause_number d.answer)) (going (state_next d.answer d.state g.state) g.saves)

-- what is said to a list of them, in order
unfoldable pub requests_said : ℕ → ℕ → Going → List Request → List Reply
requests_said m most g [] = []
requests_said m most g (r ∷ rs) = (request_of m most g r).reply ∷ requests_said m most (request_of m most g r).going rs

-- what the list leaves
unfoldable pub going_after : ℕ → ℕ → Going → List Request → Going
going_after m most g [] = g
going_after m most g (r ∷ rs) = going_after m most (request_of m most g r).going rs
