-- The laws of specs/, under its names: by ProfileLaws and CostLaws every number has a bound, by EstimateLaws the lines add up.
-- Code in a name: what functions go by; Bound, Step and Local of profiles, Spending and Estimator of programs.
-- DivisionLaws and ShortLaws hold whether division rounds down or up: what is proved by them alone stays where the rounding changes.
pub mod DivisionLaws
pub mod ShortLaws
pub mod ProfileLaws
pub mod KindLaws
pub mod CostLaws
pub mod EstimateLaws
pub mod DivisionCodeLaws
pub mod ColumnCodeLaws
pub mod ProfileCodeLaws
pub mod StepCodeLaws
pub mod CostCodeLaws
pub mod BoundCodeLaws
pub mod LocalCodeLaws
pub mod SpendingCodeLaws
pub mod EstimatorCodeLaws
