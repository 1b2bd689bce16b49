-- Step programs, as 01's "Papers on the wire" has them, and how 01's "Numbers we refuse by" checks papers not given as bytes.
-- Programs has reading, checking, writing and what is acceptable; Checks both papers at once; Fits what the types of fields say.
-- Below lies paths; the estimate, the one-place run and the calls on ends begin with Checks.
pub mod Programs
pub mod Checks
pub mod Fits
