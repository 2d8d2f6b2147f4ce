-- Only private functions cite this: calls read from lent columns, as the calls of the grader, and answers as they are written. Assumes nothing.
use Rattle.std.specs.Prelude.{◌≡◌, cond, List, [], ◌∷◌, ◌++◌, ℕ, zero, suc, ◌*◌, eqb, get_or, take, drop, Float, Result}
use Rattle.course.specs.declared.cause.Cause.{Cause}
use Rattle.run.specs.declared.start.StartValues.{StartValues}
use Rattle.run.specs.declared.sheet.RunSheet.{RunSheet}
use Rattle.run.specs.Grader.Widths.{full_words, most_tiles}
use Rattle.run.specs.Grader.Start.{Begun}
use Rattle.run.specs.Grader.Sheet.{sheet_of}
use Rattle.run.specs.Grader.State.{State, Columns, columns}
use Rattle.certificate.specs.Rules.Answers.{Answer}
use Rattle.certificate.specs.Grader.Calls.{Call, reply_of, replies_of, state_after}
use Rattle.certificate.specs.Grader.Calls.Call.{drive, settle}
use Rattle.course.specs.Rules.Tiles.{number_at}
use Rattle.run.specs.Grader.Numbers.{motions_from, poses_from}
use Rattle.certificate.specs.Grader.CallColumns.{call_words, call_numbers, answer_words, answer_numbers, part_at, words_of, numbers_of, all_words, all_numbers}
use Rattle.certificate.specs.declared.answer.Encoded.{Encoded}

-- the first of the lent tiles and offsets, and the whole list
abbrev pub first_lent : Columns → ℕ → ℕ → Columns
first_lent l tiles offsets = columns (take tiles l.tiles) (take offsets l.offsets) l.list

-- the call that four words and twenty numbers hold
abbrev pub call_from : Columns → List ℕ → List Float → Call
call_from l ws ns =
    cond (eqb (get_or ws 0 0) 0) (drive (get_or ws 1 0) (motions_from ns))
    (settle (first_lent l (get_or ws 2 0) (get_or ws 3 0)) (number_at ns 0) (number_at ns 1) (poses_from ns))

-- the first k calls of the columns
unfoldable pub calls_to : Columns → List ℕ → List Float → ℕ → List Call
calls_to l ws ns zero = []
calls_to l ws ns (suc k) = calls_to l ws ns k ++ (call_from l (part_at call_words ws k) (part_at call_numbers ns k) ∷ [])

-- an answer as it stands in its columns
abbrev pub encoded : Answer → Encoded
encoded a = record { words = words_of a; numbers = numbers_of a }

-- what a call leaves: the state, and its answer as it is written
pub record Replies (m most : ℕ) (s : State) (c : Call) (after : State) (w : Encoded) : Type 0 where
  pub state : after ≡ (reply_of m most s c).state
  pub answer : w ≡ encoded (reply_of m most s c).answer

-- what a start and the n calls after it leave: the answer of start, the sheet after the last call, and every answer in words and numbers
pub record StartsAndReplies (b : Begun) (cs : List Call) (n : ℕ) (words : List ℕ) (numbers : List Float) (start : Result StartValues Cause) (sheet : Result RunSheet Cause) (words' : List ℕ) (numbers' : List Float) : Type 0 where
  pub started : start ≡ b.answer
  pub ended : sheet ≡ sheet_of most_tiles (state_after full_words most_tiles b.state cs).setup (state_after full_words most_tiles b.state cs).progress
  pub answered : words' ≡ all_words (replies_of full_words most_tiles b.state cs) ++ drop (answer_words * n) words
  pub numbered : numbers' ≡ all_numbers (replies_of full_words most_tiles b.state cs) ++ drop (answer_numbers * n) numbers
