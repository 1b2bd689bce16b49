-- The laws of specs/, under its names; those that only returns of functions cite have Code in theirs (GatherCodeLaws: of Values).
-- JudgedLaws: tests of tables and marks. TidyLaws: zeros not in use change nothing. CallLaws: what calls give, for the floors above.
-- Examples computes shapes of tables and their limits. semijoin, ends and answerer are proved with these laws.
pub mod OffsetLaws
pub mod ShapeLaws
pub mod JudgedLaws
pub mod RowLaws
pub mod RisingLaws
pub mod OffsetCodeLaws
pub mod RowCodeLaws
pub mod RisingCodeLaws
pub mod ValueCodeLaws
pub mod ValueLaws
pub mod TidyLaws
pub mod GatherCodeLaws
pub mod CallLaws
pub mod Examples
