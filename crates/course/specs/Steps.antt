-- For private functions alone: no public contract reaches these.
-- of the numbers
pub mod Numbers
-- of the square root
pub mod Root
-- of the index
pub mod Index
-- of tiles, points and curbs
pub mod Tiles
-- of given points
pub mod Points
-- of checkpoints, walk, track and lay
pub mod Lay
