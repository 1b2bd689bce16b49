-- The laws of specs/, under its names; MessageCodeLaws and ReducingCodeLaws are those that only returns of functions cite.
-- SoundLaws: an end that is sound by its own papers.
-- They stand on the laws of tables and papers; those of station and answerer stand on them.
pub mod ReducingLaws
pub mod ReducingCodeLaws
pub mod SearchingLaws
pub mod MessageLaws
pub mod EndLaws
pub mod MessageCodeLaws
pub mod SoundLaws
