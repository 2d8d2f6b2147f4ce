-- The grader's own, in the order in which to read it: state, words, look-up, contact and calls.
-- the widths of a state's bit sets
pub mod Widths
-- sets of numbers as lists of 64-bit words
pub mod Words
-- the state of a run, and the columns that a call is lent
pub mod State
-- which tiles a wheel touches, by the lent index
pub mod Touch
-- one contact: touching, then crediting
pub mod Contact
-- which wheels touched any tile at the last contact
pub mod Grip
-- motions, poses, forces and a car as numbers of a column
pub mod Numbers
-- the first contact
pub mod Start
-- forces for the host
pub mod Drive
-- contact after physics
pub mod Settle
-- the run sheet
pub mod Sheet
-- what a save keeps of a run, as bytes
pub mod Saved
-- a run as bytes
pub mod Save
-- a run from bytes, on its course
pub mod Restore
