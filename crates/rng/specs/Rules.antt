-- The generator after document 01, in the order in which to read it.
-- the generator, its seed and its draws
pub mod SplitMix
-- a draw as a number from 0 to 1, and from lo to hi
pub mod Unit
