-- The laws of the semi-join: MarkLaws and ReducedLaws of a step, LocalLaws, RunLaws; by AnswerLaws the answer stays as it is.
-- PromiseLaws and CallPromiseLaws have the two values that the floors above go by. TidyLaws: zeros not in use change nothing.
-- Figures: 01's figures on tables. Code in a name: what functions go by, Among and Sieve in marks, Local, Run, Call in the calls.
pub mod MarkLaws
pub mod ReducedLaws
pub mod LocalLaws
pub mod PromiseLaws
pub mod AnswerLaws
pub mod TidyLaws
pub mod RunLaws
pub mod CallPromiseLaws
pub mod Figures
pub mod AmongCodeLaws
pub mod SieveCodeLaws
pub mod LocalCodeLaws
pub mod CallCodeLaws
pub mod RunCodeLaws
