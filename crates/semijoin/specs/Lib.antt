-- The semi-join, of 01's "Meaning" and "Station ends". Marks: what a step leaves. Local: local operations, opening. Run: the run.
-- Promise and CallPromise have all that the floors above may use of it: of a step and the answer, and of the run and the calls.
-- Below lie tables and papers; station, answerer and boundary, above, unfold none of these definitions.
pub mod Marks
pub mod Local
pub mod Run
pub mod Promise
pub mod CallPromise
