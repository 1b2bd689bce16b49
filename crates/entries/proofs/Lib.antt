-- The laws of entries: each return of the functions that read them.
-- PlaceCodeLaws is of specs/Places.antt, RelationCodeLaws of specs/Relations.antt, ClauseCodeLaws of specs/Clauses.antt.
-- They stand on the laws of fields. That entries are read exactly as they are written is proved in envelopes.
pub mod PlaceCodeLaws
pub mod RelationCodeLaws
pub mod ClauseCodeLaws
