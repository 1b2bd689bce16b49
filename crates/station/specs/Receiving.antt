-- "The receiver applies a relation's steps in program order and stores 0 at each row removed." "The assembly site appends the
-- first row message of each relation, whole, to a lent store, also for its own relations." "Receiving: 10, 11 (marks), 1, 13, 14,
-- 15, 16 or 17, 11 (store, exactly when the message doesn't fit behind those held)."
use Rattle.std.specs.Prelude.{ℕ, ◌+◌, Bool, true, not, Option, Some, None, List, [], ◌∷◌, length, set, nat_eq, nat_lt}
use Rattle.std.specs.Option.{option_eq}
use Rattle.std.proofs.lemmas.List.Edits.{sets}
use Rattle.ground.specs.Outcome.{Outcome, next, leaves}
use Rattle.ground.specs.Outcome.Outcome.{good, bad}
use Rattle.ground.specs.Refusing.{test, judged}
use Rattle.ground.specs.declared.refusals.Reason.TheVariants.{EndsInside, OtherRun, NotOurs, NotSound, AlreadyTaken, StepMissing}
use Rattle.ground.specs.declared.refusals.Reason.{Reason}
use Rattle.contents.specs.Parts.{relation_count}
use Rattle.contents.specs.Sites.{is_at}
use Rattle.contents.specs.Kept.{kept_columns}
use Rattle.papers.specs.declared.checks.Papers.{Papers}
use Rattle.tables.specs.Values.{room_test}
use Rattle.semijoin.specs.Marks.{reduced_by}
use Rattle.ends.specs.Reducing.{step_count, step_of, steps_before}
use Rattle.ends.specs.Ends.{Marked, applied_of, has_arrived, assembly_test, usable}
use Rattle.ends.specs.Messages.{front_length, run_of, second_of, body_of, about_of, counted, sound_values}
use Rattle.ends.specs.declared.messages.About.{About}
use Rattle.ends.specs.declared.messages.About.TheVariants as about
use Rattle.ends.specs.declared.ends.End.{End}

-- an end and its store; an end, its marks and its store
pub record Stored : Type 0 where
  pub end : End
  pub store : List ℕ

pub record Held : Type 0 where
  pub end : End
  pub marks : List ℕ
  pub store : List ℕ

-- so many steps of a relation applied; one more; the row message of a relation arrived, of so many words
unfoldable pub applied_to : End → ℕ → ℕ → End
applied_to x r n =
    record {
      envelope = x.envelope;
      program = x.program;
      site = x.site;
      run = x.run;
      applied = set x.applied r n;
      arrived = x.arrived;
      used = x.used;
    }

unfoldable pub with_applied : End → ℕ → End
with_applied x r = applied_to x r (applied_of x r + 1)

unfoldable pub with_arrived : End → ℕ → ℕ → End
with_arrived x r words =
    record {
      envelope = x.envelope;
      program = x.program;
      site = x.site;
      run = x.run;
      applied = x.applied;
      arrived = set x.arrived r true;
      used = x.used + words;
    }

-- by the first missing step of a relation up to step n: step n is the next one; if not, 16 where none is missing, 17 where an earlier one is
abbrev pub is_next : Option ℕ → ℕ → Bool
is_next missing n = option_eq nat_eq missing (Some n)

unfoldable pub not_next : Option ℕ → Reason
not_next (Some first) = StepMissing
not_next None = AlreadyTaken

-- the values of step n
unfoldable pub values_taken : Papers → End → List ℕ → List ℕ → List ℕ → ℕ → Outcome Marked
values_taken q x words marks m n =
    let a = (step_of q.program n).left in
    let before = steps_before q.program a.relation n in
    judged
    (test (not (is_at q.envelope x.site a.relation)) NotOurs 0
    ∷ test (not (sound_values m)) NotSound 0
    ∷ test (nat_lt before (applied_of x a.relation)) AlreadyTaken 0
    ∷ test (nat_lt (applied_of x a.relation) before) StepMissing 0
    ∷ [])
    (good (record { end = with_applied x a.relation; marks = reduced_by q.envelope words (body_of m) a marks }) 0)

-- the rows of relation r
unfoldable pub rows_taken : Papers → End → List ℕ → List ℕ → ℕ → Outcome Stored
rows_taken q x store m r =
    judged
    (assembly_test q x
    ∷ test (not (counted (length (kept_columns q.envelope r)) m)) NotSound 0
    ∷ test (has_arrived x r) AlreadyTaken 0
    ∷ room_test x.used (length store) m
    ∷ [])
    (good (record { end = with_arrived x r (length m); store = sets store x.used m }) 0)

-- by what the second word speaks of
unfoldable pub taken : Papers → End → List ℕ → List ℕ → List ℕ → List ℕ → About → Outcome Held
taken q x words marks store m (about.Step n) =
    next (values_taken q x words marks m n) (λ s p. good (record { end = s.end; marks = s.marks; store = store }) p)
taken q x words marks store m (about.Rows r) =
    next (rows_taken q x store m r) (λ s p. good (record { end = s.end; marks = marks; store = s.store }) p)
taken q x words marks store m about.Nothing = bad NotOurs 0

unfoldable pub receive_with : Papers → End → List ℕ → List ℕ → List ℕ → List ℕ → Outcome Held
receive_with q x words marks store m =
    judged
    (test (nat_lt (length m) front_length) EndsInside 0 ∷ test (not (nat_eq (run_of m) x.run)) OtherRun 0 ∷ [])
    (taken q x words marks store m (about_of (step_count q.program) (relation_count q.envelope) (second_of m)))

unfoldable pub receive_of : End → List ℕ → List ℕ → List ℕ → List ℕ → Outcome Held
receive_of x words marks store m = next (usable x words (length marks)) (λ q _. receive_with q x words marks store m)

-- what was lent, afterwards
abbrev pub received_marks : List ℕ → Outcome Held → List ℕ
received_marks marks o = leaves (λ (h : Held). h.marks) marks o

abbrev pub received_store : List ℕ → Outcome Held → List ℕ
received_store store o = leaves (λ (h : Held). h.store) store o
