-- The calls and the one-place run keep their promise: each refusal where it is due, and the effect where none is.
use mathlib.Core.Path.{◌≡◌, refl, ◌∙◌}
use mathlib.Core.Bool.{Bool, true, false, not}
use mathlib.Core.Logic.{◌⊎◌, inl, inr}
use mathlib.Core.List.{List, [], ◌∷◌, ◌++◌, Memᴰ}
use Prim.Native.Nat.{ℕ, ◌≤◌, ◌<◌}
use lib.ListN.{length}
use Rattle.ground.specs.Outcome.{Outcome, next}
use Rattle.ground.specs.Outcome.Outcome.{good, bad}
use Rattle.ground.specs.Refusing.{Test, test, judged}
use Rattle.ground.proofs.OutcomeLaws.{next_bad}
use Rattle.ground.proofs.RefusingLaws.{refusal_listed}
use Rattle.ground.specs.declared.refusals.Reason.TheVariants.{WrongShape, TooShort, NotOurs, NotSound}
use Rattle.envelopes.specs.Envelope.{check_envelope}
use Rattle.envelopes.specs.Rules.{Within}
use Rattle.entries.specs.declared.places.Place.{Place}
use Rattle.contents.specs.declared.envelope.Envelope.{Envelope}
use Rattle.envelopes.proofs.ExactEnvelope.{check_complete}
use Rattle.paths.specs.Steps.{is_place}
use Rattle.paths.specs.declared.steps.Step.{Step}
use Rattle.papers.specs.Programs.{steps_of, Acceptable}
use Rattle.papers.specs.Checks.{papers_of}
use Rattle.papers.specs.declared.programs.Program.{Program}
use Rattle.papers.specs.declared.checks.Papers.{Papers}
use Rattle.tables.specs.Offsets.{row_count}
use Rattle.tables.specs.Shape.{shaped, marks_tests, column_tests}
use Rattle.tables.specs.Rising.{is_rising}
use Rattle.semijoin.specs.Marks.{reduced_by, reduce_outcome, reduced_of}
use Rattle.tables.specs.Values.{values_of}
use Rattle.semijoin.specs.Local.{opened_in, open_outcome}
use Rattle.semijoin.specs.Run.{stepped, stepped_all, run_marks, run_checked, run_outcome}
use Rattle.semijoin.specs.CallPromise.{CallPromise}
use Rattle.tables.proofs.CallLaws.{first_shape, then_marks, then_rest}
use Rattle.tables.proofs.TidyLaws.{tidy_shaped, tidy_row_count}
use Rattle.semijoin.proofs.RunLaws.{run_length, run_past, step_answer, run_answer, run_outcome_lem, run_exact}
use Rattle.semijoin.proofs.TidyLaws.{tidy_opened}
use Rattle.ground.specs.declared.refusals.Reason.{Reason}
use Rattle.ground.specs.Refusals.{refusal}
use Rattle.std.specs.Prelude.{Ok, Err}

-- ---- the answer of an outcome that is known

answers_removed : (n : ℕ) (after : List ℕ) (p : ℕ) → reduced_of n (good after p) ≡ Ok n
unfolding reduced_of
answers_removed n after p = refl

answers_refused : (n : ℕ) (m : Reason) (p : ℕ) → reduced_of n (bad m p) ≡ Err (refusal m p)
unfolding reduced_of
answers_refused n m p = refl

-- a call that checks its papers first refuses by their refusal, or by 10 or 11 at 0
papers_first : {A B : Type 0} (o : Outcome A) (f : A → Envelope) (effect : A → B) (words : List ℕ) (n : ℕ) (m : Reason) (q : ℕ)
    → next o (λ a _. judged (marks_tests (f a) words n) (good (effect a) 0)) ≡ bad m q
    → (o ≡ bad m q) ⊎ (Memᴰ m (WrongShape ∷ TooShort ∷ []) × (q ≡ 0))
papers_first {A} {B} o f effect words n m q h = go (next_bad o _ m q h)
  where
    go : (o ≡ bad m q) ⊎ ((a : A) × (p : ℕ) × (o ≡ good a p) × (judged (marks_tests (f a) words n) (good (effect a) 0) ≡ bad m q))
        → (o ≡ bad m q) ⊎ (Memᴰ m (WrongShape ∷ TooShort ∷ []) × (q ≡ 0))
    go (inl k) = inl k
    go (inr (a, p, _, k)) = inr (refusal_listed (marks_tests (f a) words n) (effect a) 0 m q (refl, (refl, tt)) k)

-- ---- opening

module _ (e : Envelope) (words : List ℕ) (here : ℕ → Bool) (marks : List ℕ) where
  -- it refuses as the envelope's check does, or by 10, 11, at 0
  pub open_number : (n : Reason) (p : ℕ) → open_outcome e words here marks ≡ bad n p
      → (check_envelope e ≡ bad n p) ⊎ (Memᴰ n (WrongShape ∷ TooShort ∷ []) × (p ≡ 0))
  unfolding open_outcome
  open_number n p h = papers_first (check_envelope e) (λ f. f) (λ f. opened_in f words here marks) words (length marks) n p h

  pub open_bad : (n : Reason) (p : ℕ) → check_envelope e ≡ bad n p → open_outcome e words here marks ≡ bad n p
  unfolding open_outcome
  open_bad n p h = rw h

  module _ (within : Within e) where
    -- an envelope that is taken may be looked at as it is
    pub open_judged : open_outcome e words here marks ≡ judged (marks_tests e words (length marks)) (good (opened_in e words here marks) 0)
    unfolding open_outcome
    open_judged =
        rw (check_complete e within, tidy_shaped e within words, tidy_row_count e within words, tidy_opened e within words here marks)

    pub open_shapeless : shaped e words ≡ false → open_outcome e words here marks ≡ bad WrongShape 0
    open_shapeless s = open_judged ∙ first_shape e words (length marks) [] (good (opened_in e words here marks) 0) s

    module _ (s : shaped e words ≡ true) where
      pub open_unmarked : length marks < row_count e words → open_outcome e words here marks ≡ bad TooShort 0
      open_unmarked h = open_judged ∙ then_marks e words (length marks) [] (good (opened_in e words here marks) 0) s h

      pub open_taken : row_count e words ≤ length marks → open_outcome e words here marks ≡ good (opened_in e words here marks) 0
      open_taken h = open_judged ∙ then_rest e words (length marks) [] (good (opened_in e words here marks) 0) s h

-- ---- reducing by values

module _ (e : Envelope) (words values : List ℕ) (a : Place) (marks : List ℕ) where
  abbrev reduced : List ℕ
  reduced = reduced_by e words values a marks

  abbrev reduce_tests : List Test
  reduce_tests = test (not (is_place e a)) NotOurs 0 ∷ test (not (is_rising values)) NotSound 0 ∷ []

  -- it refuses by 10, 11, 14, 15, at 0
  pub reduce_number : (n : Reason) (p : ℕ) → reduce_outcome e words values a marks ≡ bad n p
      → Memᴰ n (WrongShape ∷ TooShort ∷ NotOurs ∷ NotSound ∷ []) × (p ≡ 0)
  unfolding reduce_outcome
  reduce_number n p h =
      refusal_listed (column_tests e a words (length marks) ++ test (not (is_rising values)) NotSound 0 ∷ []) reduced 0 n p
      (refl, (refl, (refl, (refl, tt)))) h

  pub reduce_shapeless : shaped e words ≡ false → reduce_outcome e words values a marks ≡ bad WrongShape 0
  unfolding reduce_outcome
  reduce_shapeless s = first_shape e words (length marks) reduce_tests (good reduced 0) s

  module _ (s : shaped e words ≡ true) where
    pub reduce_unmarked : length marks < row_count e words → reduce_outcome e words values a marks ≡ bad TooShort 0
    unfolding reduce_outcome
    reduce_unmarked h = then_marks e words (length marks) reduce_tests (good reduced 0) s h

    module _ (h : row_count e words ≤ length marks) where
      pub reduce_nowhere : is_place e a ≡ false → reduce_outcome e words values a marks ≡ bad NotOurs 0
      unfolding reduce_outcome
      reduce_nowhere c = then_rest e words (length marks) reduce_tests (good reduced 0) s h ∙ rw c

      module _ (c : is_place e a ≡ true) where
        pub reduce_falling : is_rising values ≡ false → reduce_outcome e words values a marks ≡ bad NotSound 0
        unfolding reduce_outcome
        reduce_falling f = then_rest e words (length marks) reduce_tests (good reduced 0) s h ∙ rw (c, f)

        pub reduce_taken : is_rising values ≡ true → reduce_outcome e words values a marks ≡ good (reduced_by e words values a marks) 0
        unfolding reduce_outcome
        reduce_taken t = then_rest e words (length marks) reduce_tests (good reduced 0) s h ∙ rw (c, t)

-- ---- the one-place run

module _ (e : Envelope) (p : Program) (words marks : List ℕ) where
  -- it refuses as the papers' check does, or by 10, 11, at 0
  pub run_number : (n : Reason) (q : ℕ) → run_outcome e p words marks ≡ bad n q
      → (papers_of e p ≡ bad n q) ⊎ (Memᴰ n (WrongShape ∷ TooShort ∷ []) × (q ≡ 0))
  unfolding run_outcome run_checked
  run_number n q h =
      papers_first (papers_of e p) (λ (x : Papers). x.envelope) (λ (x : Papers). run_marks x.envelope x.program words marks)
      words (length marks) n q h

  pub run_bad : (n : Reason) (q : ℕ) → papers_of e p ≡ bad n q → run_outcome e p words marks ≡ bad n q
  unfolding run_outcome
  run_bad n q h = rw h

  module _ (within : Within e) (acceptable : Acceptable e p) where
    abbrev ran : List ℕ
    ran = run_marks e p words marks

    pub run_shapeless : shaped e words ≡ false → run_outcome e p words marks ≡ bad WrongShape 0
    run_shapeless s = run_outcome_lem e p words marks within acceptable ∙ first_shape e words (length marks) [] (good ran 0) s

    module _ (s : shaped e words ≡ true) where
      pub run_unmarked : length marks < row_count e words → run_outcome e p words marks ≡ bad TooShort 0
      run_unmarked h = run_outcome_lem e p words marks within acceptable ∙ then_marks e words (length marks) [] (good ran 0) s h

-- ---- the one-place run by its parts

module _ (e : Envelope) (words : List ℕ) where
  step_is : (s : Step) (marks : List ℕ) → stepped e words s marks ≡ reduced_by e words (values_of e words marks s.right) s.left marks
  unfolding stepped
  step_is s marks = refl

  steps_none : (marks : List ℕ) → stepped_all e words [] marks ≡ marks
  unfolding stepped_all
  steps_none marks = refl

  steps_first : (s : Step) (ss : List Step) (marks : List ℕ)
      → stepped_all e words (s ∷ ss) marks ≡ stepped_all e words ss (stepped e words s marks)
  unfolding stepped_all
  steps_first s ss marks = refl

  run_is : (p : Program) (marks : List ℕ) → run_marks e p words marks ≡ stepped_all e words (steps_of p) (opened_in e words (λ _. true) marks)
  unfolding run_marks
  run_is p marks = refl

-- ---- all of it

pub call_promise : CallPromise
call_promise =
    record {
      step_is = step_is;
      steps_none = steps_none;
      steps_first = steps_first;
      run_is = λ e p words marks. run_is e words p marks;
      run_past = λ e p words marks fits. run_past e words p marks fits;
      run_as_many = λ e p words marks. run_length e words p marks;
      step_answer = step_answer;
      run_answer = λ e p words marks legals fits. run_answer e words p marks legals fits;
      open_number = open_number;
      open_bad = open_bad;
      open_shapeless = open_shapeless;
      open_unmarked = open_unmarked;
      open_taken = open_taken;
      reduce_number = reduce_number;
      reduce_shapeless = reduce_shapeless;
      reduce_unmarked = reduce_unmarked;
      reduce_nowhere = reduce_nowhere;
      reduce_falling = reduce_falling;
      reduce_taken = reduce_taken;
      run_number = run_number;
      run_bad = run_bad;
      run_shapeless = run_shapeless;
      run_unmarked = run_unmarked;
      run_exact = run_exact;
      answers_removed = answers_removed;
      answers_refused = answers_refused;
    }
