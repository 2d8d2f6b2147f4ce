-- The calls as they cross the C boundary, in the order in which to read them.
-- each answer as the numbers that cross the boundary
pub mod Flat
-- drive and settle on a run that the host keeps in place
pub mod InPlace
