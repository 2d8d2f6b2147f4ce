-- Document 01, "Drive", "Settle" and "Refusals by cause": the answer to a drive or a settle, which grader and plain scorer share; document 02, order 1:
-- what is said to an item of a list that holds saves and restores too. Assumes nothing.
use Rattle.std.specs.Prelude.{List, ℕ}
use Rattle.run.specs.declared.dynamics.Force.{Force}
use Rattle.run.specs.declared.settle.SettleValues.{SettleValues}

pub data Answer : Type 0 where
  -- per wheel: motor speed, fx, fy
  drove : List Force → Answer
  -- new tiles, n, off, lap, ended
  settled : SettleValues → Answer
  -- the number of the cause
  refused : ℕ → Answer

pub data Reply : Type 0 where
  -- to a drive or settle
  answered : Answer → Reply
  -- to a save or restore: the number of its cause, 0 where it is accepted
  decided : ℕ → Reply
