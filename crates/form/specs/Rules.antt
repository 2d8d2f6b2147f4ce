-- The saved form after document 02, order 1, for any table of fields, in the order in which to read it.
-- numbers, words and floats as bytes, and back
pub mod Bytes
-- the map, the table of rows, what is written and what is read
pub mod Form
