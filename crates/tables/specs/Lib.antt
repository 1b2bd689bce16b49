-- Tables and marks, as 01's "Papers on the wire" (tables) and "Station ends" (marks) have them, with refusals 10, 11 and 14.
-- Offsets: where a relation lies. Shape: whether tables fit. Rows: one row, the kept rows. Values: a column's. Rising: rising lists.
-- Below lies paths, where Meaning says what tables mean; semijoin, ends and answerer are defined with these.
pub mod Offsets
pub mod Shape
pub mod Rows
pub mod Rising
pub mod Values
