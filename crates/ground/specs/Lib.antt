-- What every definition above is written with, no word of the field in it, but for Refusals (01's table of the numbers that we refuse by):
-- Tests, Lists, Bytes (numbers as bytes), Outcome (what a reading or a call gives), Refusing (of tests in order the first that fails
-- refuses), Searching (the first number at which a test holds), Rising, Least and Order of lists, Choice (the first of greatest gain),
-- Figures (what definitions give, and what a paper says).
pub mod Tests
pub mod Refusals
pub mod Lists
pub mod Outcome
pub mod Bytes
pub mod Refusing
pub mod Searching
pub mod Rising
pub mod Least
pub mod Order
pub mod Choice
pub mod Figures
