-- "The one-place run does so for all relations, then every step. Bytes past the last row stay." "One-place run: 10, 11."
use Rattle.std.specs.Prelude.{ℕ, true, List, [], ◌∷◌, length}
use Rattle.ground.specs.Outcome.{Outcome, next}
use Rattle.ground.specs.Outcome.Outcome.{good}
use Rattle.ground.specs.Refusing.{judged}
use Rattle.contents.specs.declared.envelope.Envelope.{Envelope}
use Rattle.papers.specs.Programs.{steps_of}
use Rattle.papers.specs.Checks.{papers_of}
use Rattle.paths.specs.declared.steps.Step.{Step}
use Rattle.papers.specs.declared.programs.Program.{Program}
use Rattle.tables.specs.Shape.{marks_tests}
use Rattle.semijoin.specs.Local.{opened_in}
use Rattle.semijoin.specs.Marks.{reduced_by}
use Rattle.tables.specs.Values.{values_of}

-- a step in one place, by the right column's values as they are before it; steps one after the other
unfoldable pub stepped : Envelope → List ℕ → Step → List ℕ → List ℕ
stepped e words s marks = reduced_by e words (values_of e words marks s.right) s.left marks

unfoldable pub stepped_all : Envelope → List ℕ → List Step → List ℕ → List ℕ
stepped_all e words [] marks = marks
stepped_all e words (s ∷ ss) marks = stepped_all e words ss (stepped e words s marks)

-- the marks after local operations on all relations, then every step
unfoldable pub run_marks : Envelope → Program → List ℕ → List ℕ → List ℕ
run_marks e p words marks = stepped_all e words (steps_of p) (opened_in e words (λ _. true) marks)

-- the run of a good program on a good envelope: 10, 11
unfoldable pub run_checked : Envelope → Program → List ℕ → List ℕ → Outcome (List ℕ)
run_checked e p words marks = judged (marks_tests e words (length marks)) (good (run_marks e p words marks) 0)

-- the run with its refusals: those of both papers, then those
unfoldable pub run_outcome : Envelope → Program → List ℕ → List ℕ → Outcome (List ℕ)
run_outcome e p words marks = next (papers_of e p) (λ q _. run_checked q.envelope q.program words marks)
