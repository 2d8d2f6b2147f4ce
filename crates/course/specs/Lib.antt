-- The definitions of a course, room by room. Each room's own file lists what is in it, a line for each file, in the order in which to read them.
-- what the documents say, without a word of the grader's: for every reader
pub mod Rules
-- the grader's own: look-up, lent columns and calls
pub mod Grader
-- the words of laws beside the contracts
pub mod Laws
-- for private functions alone: no public contract reaches these
pub mod Steps
