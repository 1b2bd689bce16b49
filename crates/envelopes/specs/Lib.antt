-- The envelope, as 01's "Papers on the wire" and "Sizes" have it: its reading from bytes beside the bytes it is written as.
-- Envelope has reading, checking and writing; Rules what holds of every envelope that is taken; Fits what the types of fields say.
-- Below lie contents and entries; what an envelope says and means is defined in paths.
pub mod Envelope
pub mod Rules
pub mod Fits
