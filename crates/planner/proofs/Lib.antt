-- The laws of the planner: ChoiceLaws and DropLaws over any kind of estimate, PlanLaws and PromiseLaws with the estimate of 01.
-- Those with Code in their names are what functions go by, one file for each module of src/ but plans.
-- Figures has the figures of 01 that are estimates, computed; demands gathers them with those on tables.
pub mod Figures
pub mod ChoiceLaws
pub mod DropLaws
pub mod PlanLaws
pub mod PromiseLaws
pub mod FewLaws
pub mod SiteCodeLaws
pub mod CandidateCodeLaws
pub mod ChoiceCodeLaws
pub mod NumberCodeLaws
pub mod OrderCodeLaws
pub mod DropCodeLaws
pub mod PlannerCodeLaws
