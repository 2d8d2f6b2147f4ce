-- The rules of document 01, which grader and plain scorer share: numbers, tiles, and how a seed becomes a course. In the order in which to read them.
-- ---- numbers
-- operations on f64, each rounded once
pub mod Arithmetic
-- the constants of the reference
pub mod Constants
-- Rust's methods on f64, and the range test of cause 8
pub mod Numeric
-- sine, cosine and atan2
pub mod Trig
-- the square root
pub mod Root
-- the cells of the grid
pub mod Cell
-- a truth as 1 or 0, and how many numbers pass a test
pub mod Counting
-- ---- tiles
-- the lengths of lent columns, and the most points of a course
pub mod Lengths
-- the tiles of a list of points
pub mod Tiles
-- a tile's rectangle of cells
pub mod Rect
-- ---- a seed becomes a course
-- the twelve checkpoints of an attempt
pub mod Checkpoints
-- the search for the next checkpoint
pub mod Finder
-- one step of the walk
pub mod Step
-- the walk round the checkpoints
pub mod Walk
-- from the steps of a walk to its track
pub mod Track
-- attempts, the ring, and a seed's course
pub mod Lay
