-- "Value message .. can be made when every earlier step reducing S has been applied." "Row message .. can be made when all
-- steps reducing that relation have been applied." "Making: 10, 11 (marks), 14, 12, 11 (message)." What a call
-- answers and leaves is said in fields, by Puts.
use Rattle.std.specs.Prelude.{ℕ, Bool, ◌&&◌, not, List, [], ◌∷◌, map, length, slice_index, nat_lt}
use Rattle.ground.specs.Outcome.{Outcome, next}
use Rattle.ground.specs.Refusing.{Test, test, judged}
use Rattle.ground.specs.declared.refusals.Reason.TheVariants.{Waiting, NotOurs}
use Rattle.fields.specs.Puts.{fitted}
use Rattle.contents.specs.Sites.{is_at}
use Rattle.contents.specs.Kept.{kept_columns}
use Rattle.contents.specs.declared.envelope.Envelope.{Envelope}
use Rattle.paths.specs.Meaning.{Row, Table, word_in}
use Rattle.papers.specs.declared.programs.Program.{Program}
use Rattle.papers.specs.declared.checks.Papers.{Papers}
use Rattle.tables.specs.Rows.{kept_rows}
use Rattle.tables.specs.Values.{rising_values}
use Rattle.ends.specs.Reducing.{step_count, step_of, is_missing, first_missing}
use Rattle.ends.specs.Ends.{usable}
use Rattle.ends.specs.Messages.{value_message, row_message}
use Rattle.ends.specs.declared.ends.End.{End}

-- 14, 12: a message is ours, and none of the steps of its relation below n is missing
abbrev pub send_tests : Program → List ℕ → Bool → ℕ → ℕ → List Test
send_tests p applied ours r n =
    test (not ours) NotOurs 0
    ∷ test (is_missing p r (slice_index applied r) n) Waiting (first_missing p r (slice_index applied r) n)
    ∷ []

-- the value message of a step: 14, 12, then 11 where it does not fit into so much room
unfoldable pub values_with : Papers → End → List ℕ → List ℕ → ℕ → ℕ → Outcome (List ℕ)
values_with q x words marks n room =
    let b = (step_of q.program n).right in
    judged
    (send_tests q.program x.applied (nat_lt n (step_count q.program) && is_at q.envelope x.site b.relation) b.relation n)
    (fitted room (value_message x.run n (rising_values q.envelope words marks b)))

unfoldable pub make_values_of : End → List ℕ → List ℕ → ℕ → ℕ → Outcome (List ℕ)
make_values_of x words marks n room = next (usable x words (length marks)) (λ q _. values_with q x words marks n room)

-- the kept columns of the kept rows of a relation
unfoldable pub sent_rows : Envelope → List ℕ → List ℕ → ℕ → Table
sent_rows e words marks r = map (λ (row : Row). map (word_in row) (kept_columns e r)) (kept_rows e words marks r)

-- the row message of a relation, likewise
unfoldable pub rows_with : Papers → End → List ℕ → List ℕ → ℕ → ℕ → Outcome (List ℕ)
rows_with q x words marks r room =
    judged
    (send_tests q.program x.applied (is_at q.envelope x.site r) r (step_count q.program))
    (fitted room (row_message x.run r (sent_rows q.envelope words marks r)))

unfoldable pub make_rows_of : End → List ℕ → List ℕ → ℕ → ℕ → Outcome (List ℕ)
make_rows_of x words marks r room = next (usable x words (length marks)) (λ q _. rows_with q x words marks r room)
