-- The laws of programs: ProgramLaws, ProgramCodeLaws and, of writing them, PutCodeLaws; CheckLaws is of both papers at once.
-- ExactPrograms, ExactChecks: a program is taken exactly where it is acceptable. TidyLaws: zeros not in use change nothing.
-- Examples computes from the definitions: papers at their limits (ExamplePapers), implied clauses, the answers of the same day.
pub mod ProgramLaws
pub mod PutCodeLaws
pub mod ProgramCodeLaws
pub mod TidyLaws
pub mod ExactPrograms
pub mod ExactChecks
pub mod CheckLaws
pub mod ExamplePapers
pub mod Examples
