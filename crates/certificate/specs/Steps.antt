-- For private functions alone: no public contract reaches these.
-- of replay
pub mod Replay
