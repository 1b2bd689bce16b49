-- What a check takes is the envelope with zeros where its arrays are not in use. It has the same local operations, steps and
-- runs as the struct that was checked.
use mathlib.Core.Path.{◌≡◌, refl, ap}
use mathlib.Core.Bool.{Bool, true}
use mathlib.Core.List.{List, [], ◌∷◌}
use Prim.Native.Nat.{ℕ}
use lib.Seq.{sets}
use Rattle.ground.specs.Lists.{below}
use Rattle.ground.proofs.ListLaws.{each_alike}
use Rattle.ground.proofs.CollectingLaws.{padded_take}
use Rattle.contents.specs.Parts.{relation_count}
use Rattle.envelopes.specs.Rules.{Within, tidy}
use Rattle.entries.specs.declared.places.Place.{Place}
use Rattle.contents.specs.declared.envelope.Envelope.{Envelope}
use Rattle.envelopes.proofs.TidyLaws.{tidy_relation_count}
use Rattle.papers.specs.Programs.{no_step, steps_of, tidy_program}
use Rattle.paths.specs.declared.steps.Step.{Step}
use Rattle.papers.specs.declared.programs.Program.{Program}
use Rattle.papers.proofs.TidyLaws.{tidy_selections, tidy_equalities}
use Rattle.semijoin.specs.Local.{opened_at, opened, opened_in}
use Rattle.semijoin.specs.Marks.{reduced_by, sieved_over}
use Rattle.tables.specs.Values.{values_of}
use Rattle.semijoin.specs.Run.{stepped, stepped_all, run_marks}
use Rattle.tables.specs.declared.offsets.Extent.{Extent}
use Rattle.tables.proofs.TidyLaws.{tidy_extent, tidy_rows_at, tidy_values}

module _ (e : Envelope) (within : Within e) where
  tidy_marks : (words : List ℕ) (here : ℕ → Bool) → opened (tidy e) words here ≡ opened e words here
  unfolding opened opened_at
  tidy_marks words here =
      rw (tidy_relation_count e within)
      (each_alike (λ r. opened_at (tidy e) words (here r) r) (λ r. opened_at e words (here r) r) (below (relation_count e)) λ r m.
      rw (tidy_rows_at e within words r, tidy_selections e within r, tidy_equalities e within r))

  pub tidy_opened : (words : List ℕ) (here : ℕ → Bool) (marks : List ℕ) → opened_in (tidy e) words here marks ≡ opened_in e words here marks
  unfolding opened_in
  tidy_opened words here marks = ap (sets marks 0) (tidy_marks words here)

  tidy_reduced : (words values : List ℕ) (a : Place) (marks : List ℕ) → reduced_by (tidy e) words values a marks ≡ reduced_by e words values a marks
  unfolding reduced_by
  tidy_reduced words values a marks = ap (λ (x : Extent). sieved_over x a.column words values marks) (tidy_extent e within words a.relation)

  tidy_stepped : (words : List ℕ) (s : Step) (marks : List ℕ) → stepped (tidy e) words s marks ≡ stepped e words s marks
  unfolding stepped
  tidy_stepped words s marks =
      rw (tidy_values e within words marks s.right) (tidy_reduced words (values_of e words marks s.right) s.left marks)

  tidy_steps : (words : List ℕ) (ss : List Step) (marks : List ℕ) → stepped_all (tidy e) words ss marks ≡ stepped_all e words ss marks
  unfolding stepped_all
  tidy_steps words [] marks = refl
  tidy_steps words (s ∷ ss) marks = rw (tidy_stepped words s marks) (tidy_steps words ss (stepped e words s marks))

  pub tidy_run : (p : Program) (words marks : List ℕ) → run_marks (tidy e) p words marks ≡ run_marks e p words marks
  unfolding run_marks
  tidy_run p words marks =
      rw (tidy_opened words (λ _. true) marks) (tidy_steps words (steps_of p) (opened_in e words (λ _. true) marks))

-- of a program, too, only the steps in use play a part
pub tidy_program_run : (e : Envelope) (p : Program) (words marks : List ℕ) → run_marks e (tidy_program p) words marks ≡ run_marks e p words marks
unfolding run_marks steps_of tidy_program
tidy_program_run e p words marks =
    ap (λ (ss : List Step). stepped_all e words ss (opened_in e words (λ _. true) marks)) (padded_take 156 no_step (steps_of p))
