-- The laws of the envelope as a paper: EnvelopeLaws of its lists, ReadingLaws of the whole, PutCodeLaws of writing it.
-- ExactPlaces to ExactChecks: entries, the envelope and the struct are taken exactly where they keep the sizes and rules.
-- TidyLaws: zeros in places not in use change nothing. WrittenBytes: what is written is bytes. papers proves the same of programs.
pub mod EnvelopeLaws
pub mod PutCodeLaws
pub mod ReadingLaws
pub mod WrittenBytes
pub mod ExactPlaces
pub mod ExactRelations
pub mod ExactClauses
pub mod TidyLaws
pub mod ExactEnvelope
pub mod ExactStructs
pub mod ExactChecks
