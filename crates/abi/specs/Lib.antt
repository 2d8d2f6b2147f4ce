-- The definitions of the C boundary, room by room. Each room's own file lists what is in it, a line for each file, in the order in which to read them.
-- the grader's own: the calls as they cross the boundary
pub mod Grader
-- the words of laws beside the contracts
pub mod Laws
