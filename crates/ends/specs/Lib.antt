-- 01's "Station ends", below its calls: Ends has what an end is and what is asked of it first, Messages the words that are sent,
-- Reducing the order of a relation's steps, Searching how the next of them is found.
-- Below lie tables and papers; the calls that open, make and receive are defined in station, the answer at an end in answerer.
pub mod Reducing
pub mod Searching
pub mod Ends
pub mod Messages
