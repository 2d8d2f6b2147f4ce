-- For private functions alone: no public contract reaches these.
-- of reading
pub mod Form
