-- "Opening sets 1 where an own row passes the local operations and 0 elsewhere." "Bytes past the last row stay." "Opening: 10,
-- 4 (site above 7), 11."
use Rattle.std.specs.Prelude.{ℕ, Bool, Result, List, [], ◌∷◌, map, length, nat_lt}
use Rattle.ground.specs.Lists.{below}
use Rattle.ground.specs.Outcome.{Outcome, next, taken_of, leaves}
use Rattle.ground.specs.Outcome.Outcome.{good}
use Rattle.ground.specs.Refusing.{test, judged}
use Rattle.ground.specs.declared.refusals.Reason.TheVariants.{BeyondLimit}
use Rattle.ground.specs.declared.refusals.Refusal.{Refusal}
use Rattle.contents.specs.Sites.{is_at}
use Rattle.contents.specs.declared.envelope.Envelope.{Envelope}
use Rattle.papers.specs.Checks.{papers_of}
use Rattle.papers.specs.declared.programs.Program.{Program}
use Rattle.papers.specs.declared.checks.Papers.{Papers}
use Rattle.tables.specs.Shape.{shape_test, mark_count_test}
use Rattle.semijoin.specs.Local.{opened_in}
use Rattle.ends.specs.Ends.{Marked, start_of}
use Rattle.ends.specs.declared.ends.End.{End}

-- which of the eight places of relations are at a site
abbrev pub here_at : Envelope → ℕ → List Bool
here_at e site = map (is_at e site) (below 8)

-- with good papers
unfoldable pub open_with : Papers → ℕ → ℕ → List ℕ → List ℕ → Outcome Marked
open_with q site run words marks =
    let e = q.envelope in
    judged
    (shape_test e words ∷ test (nat_lt 7 site) BeyondLimit 0 ∷ mark_count_test e words (length marks) ∷ [])
    (good (record { end = start_of q site run; marks = opened_in e words (is_at e site) marks }) 0)

unfoldable pub open_of : Envelope → Program → ℕ → ℕ → List ℕ → List ℕ → Outcome Marked
open_of e p site run words marks = next (papers_of e p) (λ q _. open_with q site run words marks)

-- what the function answers, and the marks afterwards
abbrev pub opened_end : Outcome Marked → Result End Refusal
opened_end o = taken_of (next o (λ (s : Marked) p. good s.end p))

abbrev pub opened_marks : List ℕ → Outcome Marked → List ℕ
opened_marks marks o = leaves (λ (s : Marked). s.marks) marks o
