-- The grader's own, in the order in which to read it: the look-up, what the calls answer and what they leave in the lent columns.
-- the number of each cause of a refusal
pub mod Cause
-- what the calls of sine, cosine and atan2 answer
pub mod Angle
-- the code's rectangle of cells, by its sides
pub mod Rect
-- which ids each cell lists, and the look-up
pub mod Index
-- all that a list of points becomes
pub mod Course
-- what a course leaves in the lent columns, and what is answered
pub mod Outcome
-- the calls of lay
pub mod LayCall
-- a course from given points
pub mod Points
-- the curbs of given points
pub mod Curbs
