-- The laws of what an envelope holds, most of them what a return of a function on its parts, sites or kept columns answers.
-- PartLaws is of specs/Parts.antt, SiteLaws of specs/Sites.antt, KeptLaws and KeptCodeLaws of specs/Kept.antt.
-- They stand on the laws of ground. That zeros in places not in use change nothing is proved in envelopes (TidyLaws).
pub mod PartLaws
pub mod SiteLaws
pub mod KeptLaws
pub mod KeptCodeLaws
