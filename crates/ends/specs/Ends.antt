-- "An envelope, then a program, not given as bytes, also inside an end, is checked first as its bytes would be ..; an end
-- with more applied steps of a relation than the program has gives 4 at 0 next." "Making: 10, 11 (marks) .. Receiving: 10, 11
-- (marks)": what is asked of an end, the tables and the marks before anything else.
use Rattle.std.specs.Prelude.{ℕ, ◌≤◌, ◌<◌, ◌≡◌, Bool, true, false, not, List, [], ◌∷◌, length, slice_index, slice_index_or, replicate, nat_eq, nat_lt}
use Rattle.ground.specs.Lists.{any, below}
use Rattle.ground.specs.Outcome.{Outcome, next}
use Rattle.ground.specs.Outcome.Outcome.{good}
use Rattle.ground.specs.Refusing.{Test, test, judged}
use Rattle.ground.specs.declared.refusals.Reason.TheVariants.{BeyondLimit, NotOurs}
use Rattle.contents.specs.Parts.{relation_count}
use Rattle.papers.specs.Checks.{no_papers, papers_of, GoodPapers}
use Rattle.papers.specs.declared.programs.Program.{Program}
use Rattle.papers.specs.declared.checks.Papers.{Papers}
use Rattle.tables.specs.Offsets.{row_count}
use Rattle.tables.specs.Shape.{shaped, marks_tests}
use Rattle.ends.specs.Reducing.{step_count, steps_before}
use Rattle.ends.specs.declared.ends.End.{End}

-- steps applied of a relation
abbrev pub applied_of : End → ℕ → ℕ
applied_of x r = slice_index x.applied r

-- the row message of a relation has arrived
abbrev pub has_arrived : End → ℕ → Bool
has_arrived x r = slice_index_or x.arrived r false

-- more applied steps of a relation than the program has of it
unfoldable pub over_at : Program → List ℕ → ℕ → Bool
over_at p applied r = nat_lt (steps_before p r (step_count p)) (slice_index applied r)

-- of one of so many relations
unfoldable pub over_applied : Program → ℕ → List ℕ → Bool
over_applied p relations applied = any (over_at p applied) (below relations)

-- the papers of an end, as read back
unfoldable pub sound_end : End → Outcome Papers
sound_end x =
    next (papers_of x.envelope x.program)
    (λ q p. judged
    (test (over_applied q.program (relation_count q.envelope) x.applied) BeyondLimit 0 ∷ [])
    (good q p))

-- then the tables, and so many marks: 10, 11
unfoldable pub usable : End → List ℕ → ℕ → Outcome Papers
usable x words n = next (sound_end x) (λ q p. judged (marks_tests q.envelope words n) (good q p))

-- what is known of the papers of such an end
pub record Usable (q : Papers) (words : List ℕ) (n : ℕ) : Type 0 where
  pub papers : GoodPapers q
  pub shape : shaped q.envelope words ≡ true
  pub room : row_count q.envelope words ≤ n

-- 14, for row messages and the answer: the end is not at the assembly site
abbrev pub assembly_test : Papers → End → Test
assembly_test q x = test (not (nat_eq x.site q.program.site)) NotOurs 0

-- the papers of an end, as they stand in it
abbrev pub papers_of_end : End → Papers
papers_of_end x = record { envelope = x.envelope; program = x.program }

-- an end as the calls hand it on, beside a store of so many words: its papers are good, no relation has more applied steps than
-- the program has of it, each of eight relations has its place, and no more words are used than there are
pub record Sound (x : End) (room : ℕ) : Type 0 where
  pub papers : GoodPapers (papers_of_end x)
  pub counts : (r : ℕ) → r < relation_count x.envelope → applied_of x r ≤ steps_before x.program r (step_count x.program)
  pub eight : (length x.applied ≡ 8) × (length x.arrived ≡ 8)
  pub held : x.used ≤ room

-- an end and its marks
pub record Marked : Type 0 where
  pub end : End
  pub marks : List ℕ

-- an end at its start, and what stands beside a refused opening
unfoldable pub start_of : Papers → ℕ → ℕ → End
start_of q site run =
    record {
      envelope = q.envelope;
      program = q.program;
      site = site;
      run = run;
      applied = replicate 8 0;
      arrived = replicate 8 false;
      used = 0;
    }

abbrev pub no_end : End
no_end = start_of no_papers 0 0
