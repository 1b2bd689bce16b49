-- What an envelope says and means, of 01's "Meaning"; each file but Labels is headed by the sentences that it renders.
-- Paths, Steps and Implied: paths, legal steps, implied clauses. Meaning: the answer on tables. Labels: how the code finds paths.
-- Below lies envelopes; programs, estimates, tables, the semi-join and the answer are defined with these.
pub mod Paths
pub mod Steps
pub mod Labels
pub mod Implied
pub mod Meaning
