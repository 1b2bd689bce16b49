-- The boundary: the calls on plain slices and numbers, each composed of what the crates below define.
-- Answers: an outcome as one number. States: an end as 19 words. Given: papers and ends given as bytes and words.
-- Planning, Running and Stations: the calls. Below lie planner, answerer and station; calls and C programs lie above.
pub mod Answers
pub mod States
pub mod Given
pub mod Planning
pub mod Running
pub mod Stations
