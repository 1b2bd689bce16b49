-- The entries of an envelope, of 01's "Papers on the wire" and "Sizes": each one's reading beside the bytes it is written as.
-- Relations has relations with their columns; Places a column named by its relation; Clauses selections and joins.
-- Below lies fields; the reading of the whole envelope, in envelopes, is made of these.
pub mod Relations
pub mod Places
pub mod Clauses
