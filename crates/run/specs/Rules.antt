-- The rules of document 01, which grader and plain scorer share, in the order in which to read them.
-- some, every and how many of the numbers below a bound
pub mod Below
-- the tests of a call's arguments
pub mod Arguments
-- a wheel's quad, and the cells of its box
pub mod Wheel
-- when two quads overlap
pub mod Overlap
-- the lap flag, off, and the end of a run
pub mod Lap
-- the tyre rule of one wheel
pub mod Dynamics
-- the action rule, and the tyre pass over four wheels
pub mod Pass
-- what a step is worth
pub mod Reward
