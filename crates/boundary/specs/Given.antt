-- "An envelope, then a program": both papers given as bytes; and an end given as both papers and 19 words. A state that is shorter
-- is 11 at 0, before the papers; an arrived word that is neither 0 nor 1 is 4 at 0, right after them.
use Rattle.std.specs.Prelude.{ℕ, List, [], ◌∷◌}
use Rattle.ground.specs.Outcome.{Outcome, next}
use Rattle.ground.specs.Outcome.Outcome.{good}
use Rattle.ground.specs.Refusing.{test, judged}
use Rattle.ground.specs.declared.refusals.Reason.TheVariants.{BeyondLimit}
use Rattle.envelopes.specs.Envelope.{read_envelope}
use Rattle.papers.specs.Programs.{read_program}
use Rattle.papers.specs.declared.checks.Papers.{Papers}
use Rattle.ends.specs.declared.ends.End.{End}
use Rattle.boundary.specs.States.{state_test, unclear, end_of}

unfoldable pub papers_in : List ℕ → List ℕ → Outcome Papers
papers_in e p =
    next (read_envelope e)
    (λ f _. next (read_program f p)
    (λ q at. good (record { envelope = f; program = q }) at))

unfoldable pub end_in : List ℕ → List ℕ → List ℕ → Outcome End
end_in e p s =
    judged (state_test s ∷ [])
    (next (papers_in e p)
    (λ q at. judged (test (unclear s) BeyondLimit 0 ∷ []) (good (end_of q s) at)))
