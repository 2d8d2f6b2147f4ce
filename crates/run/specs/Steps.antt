-- For private functions alone: no public contract reaches these.
-- of quad, touch, contact and words
pub mod Touch
-- of start, settle and restore
pub mod Stand
-- of drive
pub mod Drive
-- of save
pub mod Save
-- of load and restore
pub mod Load
