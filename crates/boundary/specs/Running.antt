-- The calls on tables of every relation: the one-place run of a program, and the answer.
use Rattle.std.specs.Prelude.{ℕ, List}
use Rattle.ground.specs.Outcome.{Outcome, next}
use Rattle.envelopes.specs.Envelope.{read_envelope}
use Rattle.semijoin.specs.Run.{run_outcome}
use Rattle.answerer.specs.Answer.{answer_outcome}
use Rattle.boundary.specs.Given.{papers_in}

unfoldable pub run_from : List ℕ → List ℕ → List ℕ → List ℕ → Outcome (List ℕ)
run_from e p words marks = next (papers_in e p) (λ q _. run_outcome q.envelope q.program words marks)

unfoldable pub answer_from : List ℕ → List ℕ → ℕ → Outcome (List ℕ)
answer_from e words room = next (read_envelope e) (λ f _. answer_outcome f words room)
