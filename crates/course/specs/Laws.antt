-- The words of laws beside the contracts.
-- the random numbers of the crate below, for the marked examples
pub mod Draws
-- what makes a root the nearest, over whole numbers
pub mod Nearest
-- what a refused walk came to
pub mod Refusals
