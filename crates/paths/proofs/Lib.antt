-- The laws of specs/, under its names; Code in a name: only returns of functions cite them (Equal, CheckedImplied: of Implied).
-- StepCountLaws: 156 steps hold every legal one.
-- By LabelLaws, labels are equal exactly where a path joins two nodes; programs and the planner go by labels.
pub mod PathLaws
pub mod MeaningLaws
pub mod LabelLaws
pub mod LabelCodeLaws
pub mod StepLaws
pub mod StepCodeLaws
pub mod StepCountLaws
pub mod ImpliedLaws
pub mod ImpliedCodeLaws
pub mod EqualCodeLaws
pub mod CheckedImpliedCodeLaws
