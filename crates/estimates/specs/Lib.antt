-- 01's "Estimates": Division (rounding) and Short (Y), Columns (widths, domains), Profile (what operations leave and bring), Costs,
-- Kind (any kind of estimate, and its total), Estimate (the formulas of 01 put in, and what a given program is expected to cost).
-- Ready is what functions behind the checks go by, so that no number passes 64 bits. Below lies papers, above the planner.
pub mod Division
pub mod Short
pub mod Columns
pub mod Profile
pub mod Costs
pub mod Kind
pub mod Estimate
pub mod Ready
