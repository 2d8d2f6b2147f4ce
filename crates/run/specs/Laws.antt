-- The words of laws beside the contracts.
-- the ten marked examples as one statement
pub mod Examples
-- what a reader of the first saved form makes of saves
pub mod FirstReader
