-- The grader's side, in the order in which to read it: a list of calls, and the replay whose contract is the plain scorer's.
-- a list of calls, each handed the state that the one before it returned
pub mod Calls
-- calls and answers in columns of words and numbers
pub mod CallColumns
-- what a replay writes and answers
pub mod Replay
