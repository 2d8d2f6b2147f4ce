-- The definitions of the certificate, room by room. Each room's own file lists what is in it, a line for each file, in the order in which to read them.
-- what the documents say, without a word of the grader's: for every reader
pub mod Rules
-- the plain scorer, and what is claimed of the grader: for every reader
pub mod Claim
-- the grader's own: a list of calls, and the replay
pub mod Grader
-- for private functions alone: no public contract reaches these
pub mod Steps
