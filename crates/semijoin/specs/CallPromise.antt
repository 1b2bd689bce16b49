-- "The station end knows the semi-join only by what the semi-join promises": what it promises of the one-place run, of the answer on
-- the rows that this keeps, and of the calls: each refusal where it is due, and the effect where none is.
use Rattle.std.specs.Prelude.{ℕ, ◌≤◌, ◌<◌, ◌≡◌, Bool, true, false, ◌↔◌, ◌⊎◌, length, drop}
use mathlib.Core.List.{List, [], ◌∷◌, Memᴰ}
use Rattle.ground.specs.Lists.{Every}
use Rattle.ground.specs.Outcome.Outcome.{good, bad}
use Rattle.ground.specs.declared.refusals.Reason.TheVariants.{WrongShape, TooShort, NotOurs, NotSound}
use Rattle.entries.specs.declared.places.Place.{Place}
use Rattle.contents.specs.declared.envelope.Envelope.{Envelope}
use Rattle.envelopes.specs.Envelope.{check_envelope}
use Rattle.envelopes.specs.Fits.{Fits}
use Rattle.envelopes.specs.Rules.{Within}
use Rattle.paths.specs.Meaning.{answer_rows}
use Rattle.paths.specs.Steps.{is_place, legal}
use Rattle.paths.specs.declared.steps.Step.{Step}
use Rattle.papers.specs.Programs.{steps_of, Acceptable}
use Rattle.papers.specs.Checks.{papers_of}
use Rattle.papers.specs.Fits.{ProgramFits}
use Rattle.papers.specs.declared.programs.Program.{Program}
use Rattle.tables.specs.Offsets.{row_count}
use Rattle.tables.specs.Shape.{shaped}
use Rattle.tables.specs.Rising.{is_rising}
use Rattle.tables.specs.Rows.{answer_kept}
use Rattle.tables.specs.Values.{values_of}
use Rattle.semijoin.specs.Local.{opened_in, open_outcome}
use Rattle.semijoin.specs.Marks.{reduced_by, reduce_outcome, reduced_of}
use Rattle.semijoin.specs.Run.{stepped, stepped_all, run_marks, run_outcome}
use Rattle.ground.specs.declared.refusals.Reason.{Reason}
use Rattle.ground.specs.Refusals.{refusal}
use Rattle.std.specs.Prelude.{Ok, Err}

pub record CallPromise : Type 0 where
  -- ---- the one-place run: local operations on all relations, then every step in order, by the column as it is before the step

  pub step_is : (e : Envelope) (words : List ℕ) (s : Step) (marks : List ℕ)
      → stepped e words s marks ≡ reduced_by e words (values_of e words marks s.right) s.left marks
  pub steps_none : (e : Envelope) (words marks : List ℕ) → stepped_all e words [] marks ≡ marks
  pub steps_first : (e : Envelope) (words : List ℕ) (s : Step) (ss : List Step) (marks : List ℕ)
      → stepped_all e words (s ∷ ss) marks ≡ stepped_all e words ss (stepped e words s marks)
  pub run_is : (e : Envelope) (p : Program) (words marks : List ℕ)
      → run_marks e p words marks ≡ stepped_all e words (steps_of p) (opened_in e words (λ _. true) marks)
  -- bytes past the last row stay, and there are as many
  pub run_past : (e : Envelope) (p : Program) (words marks : List ℕ) → row_count e words ≤ length marks
      → drop (row_count e words) (run_marks e p words marks) ≡ drop (row_count e words) marks
  pub run_as_many : (e : Envelope) (p : Program) (words marks : List ℕ) → length (run_marks e p words marks) ≡ length marks
  -- ---- a legal step, and local operations and then legal steps, keep the answer with its order

  pub step_answer : (e : Envelope) (words : List ℕ) (s : Step) (marks : List ℕ) → legal e s ≡ true
      → answer_kept e words (stepped e words s marks) ≡ answer_kept e words marks
  pub run_answer : (e : Envelope) (p : Program) (words marks : List ℕ) → Every (λ (s : Step). legal e s ≡ true) (steps_of p) → row_count e words ≤ length marks
      → answer_kept e words (run_marks e p words marks) ≡ answer_rows e words
  -- ---- opening: the envelope's refusal, 10, 11

  pub open_number : (e : Envelope) (words : List ℕ) (here : ℕ → Bool) (marks : List ℕ) (n : Reason) (p : ℕ) → open_outcome e words here marks ≡ bad n p
      → (check_envelope e ≡ bad n p) ⊎ (Memᴰ n (WrongShape ∷ TooShort ∷ []) × (p ≡ 0))
  pub open_bad : (e : Envelope) (words : List ℕ) (here : ℕ → Bool) (marks : List ℕ) (n : Reason) (p : ℕ) → check_envelope e ≡ bad n p
      → open_outcome e words here marks ≡ bad n p
  pub open_shapeless : (e : Envelope) (words : List ℕ) (here : ℕ → Bool) (marks : List ℕ) → Within e → shaped e words ≡ false
      → open_outcome e words here marks ≡ bad WrongShape 0
  pub open_unmarked : (e : Envelope) (words : List ℕ) (here : ℕ → Bool) (marks : List ℕ) → Within e → shaped e words ≡ true
      → length marks < row_count e words → open_outcome e words here marks ≡ bad TooShort 0
  pub open_taken : (e : Envelope) (words : List ℕ) (here : ℕ → Bool) (marks : List ℕ) → Within e → shaped e words ≡ true
      → row_count e words ≤ length marks → open_outcome e words here marks ≡ good (opened_in e words here marks) 0
  -- ---- reducing by values: 10, 11, 14, 15

  pub reduce_number : (e : Envelope) (words values : List ℕ) (a : Place) (marks : List ℕ) (n : Reason) (p : ℕ) → reduce_outcome e words values a marks ≡ bad n p
      → Memᴰ n (WrongShape ∷ TooShort ∷ NotOurs ∷ NotSound ∷ []) × (p ≡ 0)
  pub reduce_shapeless : (e : Envelope) (words values : List ℕ) (a : Place) (marks : List ℕ) → shaped e words ≡ false
      → reduce_outcome e words values a marks ≡ bad WrongShape 0
  pub reduce_unmarked : (e : Envelope) (words values : List ℕ) (a : Place) (marks : List ℕ) → shaped e words ≡ true → length marks < row_count e words
      → reduce_outcome e words values a marks ≡ bad TooShort 0
  pub reduce_nowhere : (e : Envelope) (words values : List ℕ) (a : Place) (marks : List ℕ) → shaped e words ≡ true → row_count e words ≤ length marks
      → is_place e a ≡ false → reduce_outcome e words values a marks ≡ bad NotOurs 0
  pub reduce_falling : (e : Envelope) (words values : List ℕ) (a : Place) (marks : List ℕ) → shaped e words ≡ true → row_count e words ≤ length marks
      → is_place e a ≡ true → is_rising values ≡ false → reduce_outcome e words values a marks ≡ bad NotSound 0
  pub reduce_taken : (e : Envelope) (words values : List ℕ) (a : Place) (marks : List ℕ) → shaped e words ≡ true → row_count e words ≤ length marks
      → is_place e a ≡ true → is_rising values ≡ true → reduce_outcome e words values a marks ≡ good (reduced_by e words values a marks) 0
  -- ---- running in one place: the papers' refusal, 10, 11; and exactly when it is taken

  pub run_number : (e : Envelope) (p : Program) (words marks : List ℕ) (n : Reason) (q : ℕ) → run_outcome e p words marks ≡ bad n q
      → (papers_of e p ≡ bad n q) ⊎ (Memᴰ n (WrongShape ∷ TooShort ∷ []) × (q ≡ 0))
  pub run_bad : (e : Envelope) (p : Program) (words marks : List ℕ) (n : Reason) (q : ℕ) → papers_of e p ≡ bad n q → run_outcome e p words marks ≡ bad n q
  pub run_shapeless : (e : Envelope) (p : Program) (words marks : List ℕ) → Within e → Acceptable e p → shaped e words ≡ false
      → run_outcome e p words marks ≡ bad WrongShape 0
  pub run_unmarked : (e : Envelope) (p : Program) (words marks : List ℕ) → Within e → Acceptable e p → shaped e words ≡ true
      → length marks < row_count e words → run_outcome e p words marks ≡ bad TooShort 0
  pub run_exact : (e : Envelope) (p : Program) (words marks : List ℕ) → Fits e → ProgramFits p → (after : List ℕ) (q : ℕ)
      → (run_outcome e p words marks ≡ good after q)
      ↔ (Within e × Acceptable e p × (shaped e words ≡ true) × (row_count e words ≤ length marks) × (after ≡ run_marks e p words marks) × (q ≡ 0))
  -- ---- what reducing answers

  pub answers_removed : (n : ℕ) (after : List ℕ) (p : ℕ) → reduced_of n (good after p) ≡ Ok n
  pub answers_refused : (n : ℕ) (m : Reason) (p : ℕ) → reduced_of n (bad m p) ≡ Err (refusal m p)
