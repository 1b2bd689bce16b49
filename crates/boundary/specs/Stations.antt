-- The calls on an end that the caller keeps as 19 words. A refusal leaves these, too, as they were.
use Rattle.std.specs.Prelude.{ℕ, List, [], ◌∷◌, length, nat_lt}
use Rattle.ground.specs.Outcome.{Outcome, next, leaves}
use Rattle.ground.specs.Outcome.Outcome.{good}
use Rattle.ground.specs.Refusing.{test, judged}
use Rattle.ground.specs.declared.refusals.Reason.TheVariants.{BeyondLimit}
use Rattle.contents.specs.declared.envelope.Envelope.{Envelope}
use Rattle.papers.specs.declared.programs.Program.{Program}
use Rattle.ends.specs.Ends.{Marked}
use Rattle.station.specs.Opening.{open_of}
use Rattle.station.specs.Making.{make_values_of, make_rows_of}
use Rattle.station.specs.Receiving.{Held, receive_of}
use Rattle.ends.specs.declared.ends.End.{End}
use Rattle.answerer.specs.Assembly.{assembled_outcome}
use Rattle.boundary.specs.Answers.{greatest_word}
use Rattle.boundary.specs.States.{state_test, state_after}
use Rattle.boundary.specs.Given.{papers_in, end_in}

-- opening, with papers that were read: a state that is too short is the last refusal
unfoldable pub open_given : Envelope → Program → ℕ → ℕ → List ℕ → List ℕ → List ℕ → Outcome Marked
open_given e p site run words marks s =
    next (open_of e p site run words marks) (λ m at. judged (state_test s ∷ []) (good m at))

unfoldable pub open_from : List ℕ → List ℕ → ℕ → ℕ → List ℕ → List ℕ → List ℕ → Outcome Marked
open_from e p site run words marks s =
    next (papers_in e p) (λ q _. open_given q.envelope q.program site run words marks s)

abbrev pub opened_state : List ℕ → Outcome Marked → List ℕ
opened_state s o = leaves (λ (m : Marked). state_after m.end s) s o

unfoldable pub make_values_from : List ℕ → List ℕ → List ℕ → List ℕ → List ℕ → ℕ → ℕ → Outcome (List ℕ)
make_values_from e p s words marks n room = next (end_in e p s) (λ x _. make_values_of x words marks n room)

unfoldable pub make_rows_from : List ℕ → List ℕ → List ℕ → List ℕ → List ℕ → ℕ → ℕ → Outcome (List ℕ)
make_rows_from e p s words marks r room = next (end_in e p s) (λ x _. make_rows_of x words marks r room)

-- receiving, with an end that was read: a store of more words than a word can count is 4 at 0, like a count beyond its limit
unfoldable pub receive_given : End → List ℕ → List ℕ → List ℕ → List ℕ → Outcome Held
receive_given x words marks store m =
    judged (test (nat_lt greatest_word (length store)) BeyondLimit 0 ∷ []) (receive_of x words marks store m)

unfoldable pub receive_from : List ℕ → List ℕ → List ℕ → List ℕ → List ℕ → List ℕ → List ℕ → Outcome Held
receive_from e p s words marks store m = next (end_in e p s) (λ x _. receive_given x words marks store m)

abbrev pub received_state : List ℕ → Outcome Held → List ℕ
received_state s o = leaves (λ (h : Held). state_after h.end s) s o

-- the answer at the assembly site, from its store
unfoldable pub answer_end_from : List ℕ → List ℕ → List ℕ → List ℕ → ℕ → Outcome (List ℕ)
answer_end_from e p s store room = next (end_in e p s) (λ x _. assembled_outcome x store room)
