-- The answer, as 01's "Meaning" and "Numbers we refuse by" (answering) have it: on tables, and at an end from its store.
-- Sources, Stores: where rows lie. Beginnings, Combinations: what the recursion finds, and if it fits. Answer, Assembly: the calls.
-- Below lie tables, ends, station, and paths, whose Meaning this answer is proved to be; boundary, above, calls both.
pub mod Sources
pub mod Beginnings
pub mod Combinations
pub mod Answer
pub mod Stores
pub mod Assembly
