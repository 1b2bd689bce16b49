-- The laws of specs/, under its names; Code in a name: what returns of functions cite. BeginningLaws: pruning changes nothing.
-- Fitting and Walking are of loops; HeldLaws and DeliveredLaws of what a store of row messages holds.
-- Promised gathers what is promised of the answer; Examples and StoreExamples compute the answers of the same day.
pub mod Examples
pub mod StoreExamples
pub mod BeginningLaws
pub mod SourceLaws
pub mod SourceCodeLaws
pub mod BeginningCodeLaws
pub mod FittingLaws
pub mod CombinationCodeLaws
pub mod AnswerLaws
pub mod AnswerCodeLaws
pub mod StoreLaws
pub mod HeldLaws
pub mod WalkingLaws
pub mod StoreCodeLaws
pub mod AssemblyLaws
pub mod AssemblyCodeLaws
pub mod DeliveredLaws
pub mod Promised
