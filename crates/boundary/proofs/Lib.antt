-- The laws of specs/, under its names; those that only returns of functions cite have Code in theirs (OpeningCodeLaws: of Stations).
-- CallLaws has what all calls share. RememberedLaws: a state and its end say the same. LeftLaws: what a call leaves, the next reads.
-- PlannedLaws: the plan's program is taken by every call that takes one. They stand on the laws of papers, planner and station.
pub mod AnswerLaws
pub mod StateLaws
pub mod RememberedLaws
pub mod GivenCodeLaws
pub mod CallLaws
pub mod PlanningCodeLaws
pub mod PlannedLaws
pub mod RunningCodeLaws
pub mod OpeningCodeLaws
pub mod StationCodeLaws
pub mod LeftLaws
