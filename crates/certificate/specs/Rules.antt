-- What grader and plain scorer share.
-- the answer to a drive or a settle
pub mod Answers
