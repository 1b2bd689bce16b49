-- The fields of a paper, as 01's "Papers on the wire" has them.
-- Numbers has how numbers, mark and version are read; Puts what a call that writes answers and leaves.
-- Exact says what it means to read exactly what is written. Below lies ground; entries and papers are defined with these.
pub mod Numbers
pub mod Lists
pub mod Puts
pub mod Exact
