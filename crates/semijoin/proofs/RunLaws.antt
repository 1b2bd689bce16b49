-- The one-place run: local operations keep every row that the answer needs, and a legal step removes only rows that stand in no
-- combination of kept rows which meets all clauses, so the answer on the kept rows is the answer, in its order.
use mathlib.Core.Path.{◌≡◌, refl, sym, ap, ◌∙◌}
use mathlib.Core.Bool.{Bool, true}
use mathlib.Core.Logic.{◌↔◌}
use mathlib.Core.List.{List, [], ◌∷◌, Memᴰ}
use Prim.Native.Nat.{ℕ, ◌≤◌, ◌<◌}
use native.Mathlib.Decide.{ℕ_discrete}
use native.Mathlib.Omega.{arith}
use lib.ListN.{length, get_or, drop}
use lib.Dec.{eqb}
use borrow.Author.Tests.{le-ltb, eq-eqb, ne_eqb}
use Rattle.ground.specs.Tests.{pick}
use Rattle.ground.specs.Lists.{Every, filter, below}
use Rattle.ground.specs.Outcome.Outcome.{good}
use Rattle.ground.specs.Refusing.{judged}
use Rattle.ground.proofs.CountLaws.{split}
use Rattle.ground.proofs.ListLaws.{any_of, map_mem, map_alike, filter_every}
use Rattle.ground.proofs.CombinationLaws.{combinations_from_lem}
use Rattle.ground.proofs.OutcomeLaws.{next_good}
use Rattle.ground.proofs.RefusingLaws.{judged_good}
use Rattle.envelopes.specs.Envelope.{check_envelope}
use Rattle.envelopes.specs.Fits.{Fits}
use Rattle.envelopes.specs.Rules.{Within, tidy}
use Rattle.envelopes.proofs.TidyLaws.{tidy_within}
use Rattle.envelopes.proofs.ExactEnvelope.{check_complete}
use Rattle.contents.specs.Parts.{relation_count, clauses_of, targets_of}
use Rattle.contents.specs.declared.envelope.Envelope.{Envelope}
use Rattle.paths.specs.Meaning.{Row, Table, word_in, value_in, answer_on, answer_rows}
use Rattle.paths.specs.Steps.{legal}
use Rattle.papers.specs.Programs.{steps_of, program_against, read_program, program_bytes, check_program, Acceptable, tidy_program}
use Rattle.papers.specs.Checks.{papers_of}
use Rattle.papers.specs.Fits.{ProgramFits}
use Rattle.paths.specs.declared.steps.Step.{Step}
use Rattle.papers.specs.declared.programs.Program.{Program}
use Rattle.paths.proofs.StepLaws.{legal_step}
use Rattle.paths.proofs.MeaningLaws.{columns_equal}
use Rattle.papers.proofs.TidyLaws.{tidy_acceptable}
use Rattle.papers.proofs.ExactPrograms.{program_complete}
use Rattle.papers.proofs.ExactChecks.{check_exact}
use Rattle.tables.specs.Offsets.{count_in, row_count, marks_at, rows_at}
use Rattle.semijoin.specs.Local.{opened_in}
use Rattle.tables.specs.Rows.{row_of, kept_rows, kept_tables}
use Rattle.semijoin.specs.Marks.{reduced_by}
use Rattle.tables.specs.Rising.{among}
use Rattle.tables.specs.Values.{values_of, values_over}
use Rattle.semijoin.specs.Run.{stepped, stepped_all, run_checked, run_marks, run_outcome}
use Rattle.tables.specs.Shape.{shaped, marks_tests}
use Rattle.semijoin.specs.Promise.{NeededIn, Covers}
use Rattle.tables.proofs.OffsetLaws.{count_outside}
use Rattle.tables.proofs.JudgedLaws.{marks_pass}
use Rattle.semijoin.proofs.PromiseLaws.{promise}
use Rattle.semijoin.proofs.LocalLaws.{needed_passes, opened_kept, opened_past, opened_as_many}
use Rattle.tables.proofs.TidyLaws.{tidy_shaped, tidy_row_count}
use Rattle.semijoin.proofs.TidyLaws.{tidy_run, tidy_program_run}
use Rattle.semijoin.proofs.AnswerLaws.{listed_length, listed_at, answer_filtered, delivered}
use Rattle.semijoin.proofs.ReducedLaws.{rows_reduced, rows_others}
use Rattle.tables.proofs.ShapeLaws.{place_relation}

module _ (e : Envelope) (words : List ℕ) where
  -- marks keep every row that the answer needs
  abbrev pub CoversAll : List ℕ → Type 0
  CoversAll marks = (r : ℕ) → Covers e words words marks r

  pub answer_kept_lem : (marks : List ℕ) → CoversAll marks → answer_on (clauses_of e) (targets_of e) (kept_tables e words marks) ≡ answer_rows e words
  unfolding kept_rows
  answer_kept_lem marks covers = delivered e words (λ _. words) (λ _. marks) (λ r h. refl) (λ r h. covers r)

  pub opened_covers : (marks : List ℕ) → row_count e words ≤ length marks → CoversAll (opened_in e words (λ _. true) marks)
  opened_covers marks fits r i h n =
      split (relation_count e) r
      (λ k. let none : count_in e words r ≡ 0 = count_outside e words r k in absurd (omega arith))
      (λ k. opened_kept e words (λ _. true) marks fits r i k h ∙ needed_passes e words r (row_of e words r i) n)

  -- local operations leave the answer
  pub opened_answer : (marks : List ℕ) → row_count e words ≤ length marks
      → answer_on (clauses_of e) (targets_of e) (kept_tables e words (opened_in e words (λ _. true) marks)) ≡ answer_rows e words
  opened_answer marks fits = answer_kept_lem (opened_in e words (λ _. true) marks) (opened_covers marks fits)

  -- ---- steps

  -- a legal step leaves the answer, whatever the marks: a row that it removes stands in no combination of kept rows that meets
  -- all clauses, for along the step's path those have equal values
  module _ (s : Step) (marks : List ℕ) where
    abbrev occurs_right : Row → Bool
    occurs_right row = among (values_of e words marks s.right) (word_in row s.left.column)

    abbrev stays : ℕ → Row → Bool
    stays r row = pick (eqb r s.left.relation) (occurs_right row) true

    stepped_rows : (r : ℕ) → kept_rows e words (stepped e words s marks) r ≡ filter (stays r) (kept_rows e words marks r)
    unfolding stepped
    stepped_rows r = go (ℕ_discrete r s.left.relation)
      where
        sieve : ℕ → Bool → Table
        sieve r b = filter (λ (row : Row). pick b (occurs_right row) true) (kept_rows e words marks r)

        own : kept_rows e words (reduced_by e words (values_of e words marks s.right) s.left marks) s.left.relation
            ≡ sieve s.left.relation (eqb s.left.relation s.left.relation)
        own =
            rows_reduced e words (values_of e words marks s.right) s.left marks
            ∙ sym (ap (sieve s.left.relation) (eq-eqb s.left.relation s.left.relation refl))

        go : Dec (r ≡ s.left.relation)
            → kept_rows e words (reduced_by e words (values_of e words marks s.right) s.left marks) r ≡ sieve r (eqb r s.left.relation)
        go (yes p) = rw p own
        go (no n) =
            rows_others e words (values_of e words marks s.right) s.left marks r n
            ∙ sym (ap (sieve r) (ne_eqb r s.left.relation n) ∙ filter_every (kept_rows e words marks r))

    module _ (t : legal e s ≡ true) where
      partner : (row : Row) → NeededIn e (kept_tables e words marks) s.left.relation row → occurs_right row ≡ true
      unfolding values_of values_over kept_rows marks_at rows_at
      partner row (rows, m, met, w) =
          let k : s.right.relation < relation_count e = place_relation e s.right (legal_step e s t).right in
          let long : s.right.relation < length (kept_tables e words marks) = rw (listed_length (kept_rows e words marks) (relation_count e)) k in
          let there : Memᴰ (get_or rows s.right.relation []) (kept_rows e words marks s.right.relation) =
          rw (listed_at (kept_rows e words marks) (relation_count e) s.right.relation k) at
          (combinations_from_lem [] (kept_tables e words marks) s.right.relation long m) in
          let same : value_in rows s.right ≡ word_in row s.left.column =
          sym (columns_equal e rows met s.left s.right (legal_step e s t).path) ∙ ap (λ (row : Row). word_in row s.left.column) w in
          any_of (λ x. eqb x (word_in row s.left.column)) (map_mem (λ (row : Row). word_in row s.right.column) there)
          (eq-eqb _ (word_in row s.left.column) same)

      needed_stays : (r : ℕ) (row : Row) → NeededIn e (kept_tables e words marks) r row → stays r row ≡ true
      needed_stays r row n = go (ℕ_discrete r s.left.relation)
        where
          chosen : Bool → Bool
          chosen b = pick b (occurs_right row) true

          go : Dec (r ≡ s.left.relation) → chosen (eqb r s.left.relation) ≡ true
          go (yes p) = ap chosen (eq-eqb r s.left.relation p) ∙ partner row (rw p at n)
          go (no differ) = ap chosen (ne_eqb r s.left.relation differ)

      pub step_answer : answer_on (clauses_of e) (targets_of e) (kept_tables e words (stepped e words s marks))
          ≡ answer_on (clauses_of e) (targets_of e) (kept_tables e words marks)
      step_answer =
          ap (answer_on (clauses_of e) (targets_of e))
          (map_alike (kept_rows e words (stepped e words s marks)) (λ r. filter (stays r) (kept_rows e words marks r)) (below (relation_count e))
          (λ r m. stepped_rows r))
          ∙ answer_filtered e (kept_rows e words marks) stays needed_stays

  -- every step legal
  abbrev pub AllLegal : List Step → Type 0
  AllLegal = Every (λ (s : Step). legal e s ≡ true)

  pub steps_answer : (ss : List Step) (marks : List ℕ) → AllLegal ss
      → answer_on (clauses_of e) (targets_of e) (kept_tables e words (stepped_all e words ss marks))
      ≡ answer_on (clauses_of e) (targets_of e) (kept_tables e words marks)
  unfolding stepped_all
  steps_answer [] marks l = refl
  steps_answer (s ∷ ss) marks l = steps_answer ss (stepped e words s marks) l.1 ∙ step_answer s marks l.0

  -- ---- what every list of steps leaves: the length, the bytes past the last row, and no row more

  pub steps_length : (ss : List Step) (marks : List ℕ) → length (stepped_all e words ss marks) ≡ length marks
  unfolding stepped stepped_all
  steps_length [] marks = refl
  steps_length (s ∷ ss) marks =
      steps_length ss (stepped e words s marks) ∙ (promise e).as_many words (values_of e words marks s.right) marks s.left

  pub steps_past : (ss : List Step) (marks : List ℕ) → drop (row_count e words) (stepped_all e words ss marks) ≡ drop (row_count e words) marks
  unfolding stepped stepped_all
  steps_past [] marks = refl
  steps_past (s ∷ ss) marks =
      steps_past ss (stepped e words s marks) ∙ (promise e).past_stay words (values_of e words marks s.right) marks s.left

  -- ---- the run

  pub run_length : (p : Program) (marks : List ℕ) → length (run_marks e p words marks) ≡ length marks
  unfolding run_marks
  run_length p marks =
      steps_length (steps_of p) (opened_in e words (λ _. true) marks) ∙ opened_as_many e words (λ _. true) marks

  pub run_past : (p : Program) (marks : List ℕ) → row_count e words ≤ length marks
      → drop (row_count e words) (run_marks e p words marks) ≡ drop (row_count e words) marks
  unfolding run_marks
  run_past p marks fits =
      steps_past (steps_of p) (opened_in e words (λ _. true) marks) ∙ opened_past e words (λ _. true) marks fits

  -- local operations and then legal steps leave the answer
  pub run_answer : (p : Program) (marks : List ℕ) → AllLegal (steps_of p) → row_count e words ≤ length marks
      → answer_on (clauses_of e) (targets_of e) (kept_tables e words (run_marks e p words marks)) ≡ answer_rows e words
  unfolding run_marks
  run_answer p marks legals fits = steps_answer (steps_of p) (opened_in e words (λ _. true) marks) legals ∙ opened_answer marks fits

-- ---- with its refusals

module _ (e : Envelope) (p : Program) (words marks : List ℕ) where
  -- papers that are taken may be looked at as they are
  pub run_outcome_lem : Within e → Acceptable e p → run_outcome e p words marks ≡ judged (marks_tests e words (length marks)) (good (run_marks e p words marks) 0)
  unfolding run_outcome papers_of run_checked
  run_outcome_lem within acceptable =
      rw (
        check_complete e within,
        program_complete (tidy e) (tidy_within e within) p ((tidy_acceptable e within p).1 acceptable),
        tidy_shaped e within words,
        tidy_row_count e within words,
        tidy_run e within (tidy_program p) words marks,
        tidy_program_run e p words marks,
      )

  as_read : (f : Envelope) (r : ℕ) (t : Program) (u : ℕ) → check_envelope e ≡ good f r → program_against f (program_bytes p) ≡ good t u
      → check_program e p ≡ good t u
  unfolding read_program check_program
  as_read f r t u check program = rw check program

  run_papers : Fits e → ProgramFits p → (after : List ℕ) (q : ℕ) → run_outcome e p words marks ≡ good after q → Within e × Acceptable e p
  unfolding run_outcome papers_of
  run_papers fits small after q h =
      let (both, v, papers, _) = next_good (papers_of e p) _ after q h in
      let (f, r, check, rest) = next_good (check_envelope e) _ both v papers in
      let (t, u, program, _) = next_good (program_against f (program_bytes p)) _ both v rest in
      let (within, acceptable, _, _) = (check_exact e fits p t u small).0 (as_read f r t u check program) in
      (within, acceptable)

  -- both papers are taken, the tables have the envelope's shape, and there is a mark for every row
  abbrev Runs : List ℕ → ℕ → Type 0
  Runs after q =
      Within e × Acceptable e p × (shaped e words ≡ true) × (row_count e words ≤ length marks) × (after ≡ run_marks e p words marks) × (q ≡ 0)

  -- the run is taken exactly then, and its marks are those of the run
  pub run_exact : Fits e → ProgramFits p → (after : List ℕ) (q : ℕ)
      → (run_outcome e p words marks ≡ good after q) ↔ Runs after q
  run_exact fits small after q = (sound, complete)
    where
      sound : run_outcome e p words marks ≡ good after q → Runs after q
      sound h =
          let (within, acceptable) = run_papers fits small after q h in
          let (none, same) = (judged_good (marks_tests e words (length marks)) (good (run_marks e p words marks) 0) after q).0 (sym (run_outcome_lem within acceptable) ∙ h) in
          let (shape, room) = (marks_pass e words (length marks)).0 none in
          (within, acceptable, shape, room, cc, cc)

      complete : Runs after q → run_outcome e p words marks ≡ good after q
      complete (within, acceptable, shape, room, is, end) =
          run_outcome_lem within acceptable ∙ rw (shape, le-ltb (length marks) (row_count e words) room, is, end)
