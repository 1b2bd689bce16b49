-- DemandOneLaws, DemandOneCallsLaws: demand 1, by NumberLaws, PaperLaws, StructLaws, StructPapers, AnswerNumbers. DemandTwoLaws: demand 2.
-- DemandThreeLaws: demand 3, by what stays in every state (Sound, Lower, Upper, Room). OrderlyLaws: in order every call is taken.
-- The Unique files: each contract determines its result. Excluded: what 01 excludes by name. Figures, TwoStations: values computed.
pub mod NumberLaws
pub mod PaperLaws
pub mod StructLaws
pub mod StructPapers
pub mod AnswerNumbers
pub mod DemandOneLaws
pub mod DemandOneCallsLaws
pub mod DemandTwoLaws
pub mod CrewLaws
pub mod TakenLaws
pub mod RunLaws
pub mod AppendedLaws
pub mod SoundLaws
pub mod StartLaws
pub mod SaidLaws
pub mod LowerLaws
pub mod UpperLaws
pub mod ReadyLaws
pub mod OrderlyLaws
pub mod AssembledLaws
pub mod RoomLaws
pub mod DemandThreeLaws
pub mod Unique
pub mod UniquePapers
pub mod UniqueStations
pub mod UniqueClosures
pub mod Excluded
pub mod Figures
pub mod TwoStations
