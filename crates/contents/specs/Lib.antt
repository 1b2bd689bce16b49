-- What an envelope holds, of 01's "Papers on the wire" and "Meaning", for any struct that comes in.
-- Parts has what its arrays have in use, and an envelope with one part replaced; Sites where relations are; Kept the kept columns.
-- Below lies entries; reading, checking and writing the whole is defined in envelopes.
pub mod Parts
pub mod Sites
pub mod Kept
