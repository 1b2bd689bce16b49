-- "Legal steps, estimates, the chosen program, the reduced tables and the answer are those of the SDD-1 report as the rules paper
-- condenses it. A program from elsewhere is accepted exactly when it is well formed and each of its steps is legal for the
-- envelope." Each field says one part of it of the calls' own definitions.
-- "Excluded by name: refusing everything": bytes_of_program, program_struct, run and answer say exactly what is taken, and Happens of
-- Orderly that every call of a run in order is. "One fixed plan or answer": plan_struct and plan_bytes tie the steps, the site
-- and every number to the envelope, answer every word to the tables. "Stations that reduce nothing and ship whole
-- tables, or that apply the first step and skip the rest": run_folds and step say which rows are kept, and Upper and
-- Answers of DemandThree that no other is sent or held. "An invented cost or benefit": estimate, and PlanKept for the plan.
-- proofs/Excluded.antt has refusing everything, one plan, one answer and reducing nothing as laws.
use Rattle.std.specs.Prelude.{Ok, ℕ, ◌+◌, ◌≤◌, ◌<◌, ◌≡◌, true, List, map, ◌↔◌, length, take}
use Rattle.demands.specs.Words.{List-as-Memᴰ, Every, filter, combinations, sum, Bytes, good, taken_of, clauses_of, targets_of, Envelope, Within, tidy, Fits}
use Rattle.demands.specs.Words.{read_envelope, check_envelope, envelope_bytes, column, PathBetween, edges, is_place, legal, legal_steps, Row, meets_all, target_row, tables_of, answer_rows, answer_words, Step}
use Rattle.demands.specs.Words.{steps_of, read_program, check_program, program_bytes, Acceptable, tidy_program, ProgramFits, Program, local_profile, plain_costs, assembly_at, profile_after, kind_of, lines_of, costs_in}
use Rattle.demands.specs.Words.{papers_of, Papers, estimate_of, Estimate, plan_of, PlanKept, count_in, row_count, answer_kept, words_of_rows, shaped, passes, Passing, opened_in, stepped, stepped_all, run_marks, run_outcome, row_of, word_of, kept_at, answer_outcome}

-- "R<A=B]S: R and S different, R.A and S.B on a path": along clauses, either way, from column to column or constant
pub record OnPath (e : Envelope) (s : Step) : Type 0 where
  pub left : is_place e s.left ≡ true
  pub right : is_place e s.right ≡ true
  pub differ : s.left.relation ≡ s.right.relation → ⊥
  pub path : PathBetween (edges e) (column s.left) (column s.right)

-- an estimate of a program: each step's benefit and cost in the profile that those before it leave, assembly, the total
pub record EstimateKept (e : Envelope) (p : Program) (x : Estimate) : Type 0 where
  pub lines : take x.count x.lines ≡ lines_of plain_costs e (local_profile e) (steps_of p)
  pub assembly : x.assembly ≡ assembly_at plain_costs e (profile_after (kind_of plain_costs e) (local_profile e) (steps_of p)) p.site
  pub total : x.total ≡ sum (costs_in (take x.count x.lines)) + x.assembly

pub record DemandTwo : Type 0 where
  -- legal steps: by the test, and in the list of all
  pub legal_exact : (e : Envelope) (s : Step) → (legal e s ≡ true) ↔ OnPath e s
  pub legal_listed : (e : Envelope) (s : Step) → List-as-Memᴰ s (legal_steps e) ↔ OnPath e s
  -- what is taken: an envelope as bytes, a program as bytes and as a struct, each with no other bytes than its own
  pub bytes_of_envelope : (s : List ℕ) → Bytes s → (e : Envelope) (q : ℕ)
      → (read_envelope s ≡ good e q) ↔ ((Within e × (tidy e ≡ e)) × (s ≡ envelope_bytes e) × (q ≡ length s))
  pub bytes_of_program : (e : Envelope) → Fits e → (s : List ℕ) → Bytes s → (p : Program) (q : ℕ)
      → (read_program e s ≡ good p q) ↔ (Within e × (Acceptable e p × (tidy_program p ≡ p)) × (s ≡ program_bytes p) × (q ≡ length s))
  pub program_struct : (e : Envelope) → Fits e → (p : Program) → ProgramFits p → (r : Program) (q : ℕ)
      → (check_program e p ≡ good r q) ↔ (Within e × Acceptable e p × (r ≡ tidy_program p) × (q ≡ length (program_bytes p)))
  pub program_legal : (e : Envelope) (p : Program) → Acceptable e p → Every (OnPath e) (steps_of p)
  -- the estimate of a program that is taken, and the chosen program of every envelope that is taken
  pub estimate : (e : Envelope) (p : Program) (q : Papers) (u : ℕ) → papers_of e p ≡ good q u
      → (x : Estimate) × (taken_of (estimate_of (papers_of e p)) ≡ Ok x) × EstimateKept q.envelope q.program x
  pub plan_struct : (e f : Envelope) (u : ℕ) → check_envelope e ≡ good f u → PlanKept plain_costs f (taken_of (plan_of (check_envelope e)))
  pub plan_bytes : (s : List ℕ) → Bytes s → (f : Envelope) (u : ℕ) → read_envelope s ≡ good f u → PlanKept plain_costs f (taken_of (plan_of (read_envelope s)))
  -- the reduced tables: local operations, then every step; where that is taken
  pub run : (e : Envelope) → Fits e → (p : Program) → ProgramFits p → (words marks after : List ℕ) (u : ℕ)
      → (run_outcome e p words marks ≡ good after u)
      ↔ (Within e × Acceptable e p × (shaped e words ≡ true) × (row_count e words ≤ length marks) × (after ≡ run_marks e p words marks) × (u ≡ 0))
  pub run_folds : (e : Envelope) (p : Program) (words marks : List ℕ)
      → run_marks e p words marks ≡ stepped_all e words (steps_of p) (opened_in e words (λ _. true) marks)
  -- at the start a row is kept where it meets every selection and equality that a path gives
  pub local : (e : Envelope) (words marks : List ℕ) → row_count e words ≤ length marks → (r i : ℕ) → i < count_in e words r
      → kept_at e words (opened_in e words (λ _. true) marks) r i ≡ passes e r (row_of e words r i)
  pub passing : (e : Envelope) (r : ℕ) (row : Row) → (passes e r row ≡ true) ↔ Passing e r row
  -- a step keeps exactly the kept rows of R whose A occurs in column B of the kept rows of S, and of other relations all
  pub step : (e : Envelope) (words marks : List ℕ) (s : Step) (i : ℕ)
      → (kept_at e words (stepped e words s marks) s.left.relation i ≡ true)
      ↔ ((kept_at e words marks s.left.relation i ≡ true)
      × ((j : ℕ) × (kept_at e words marks s.right.relation j ≡ true) × (word_of e words s.right j ≡ word_of e words s.left i)))
  pub step_others : (e : Envelope) (words marks : List ℕ) (s : Step) (r i : ℕ) → (r ≡ s.left.relation → ⊥)
      → kept_at e words (stepped e words s marks) r i ≡ kept_at e words marks r i
  -- legal steps keep the answer, with its order
  pub step_answer : (e : Envelope) (words marks : List ℕ) (s : Step) → OnPath e s
      → answer_kept e words (stepped e words s marks) ≡ answer_kept e words marks
  pub run_answer : (e : Envelope) (p : Program) (words marks : List ℕ) → Acceptable e p → row_count e words ≤ length marks
      → answer_kept e words (run_marks e p words marks) ≡ answer_rows e words
  -- the answer: combinations, relation 0 slowest, that meet all clauses, of each its target columns; where it is taken
  pub rows_of_answer : (e : Envelope) (words : List ℕ)
      → answer_rows e words ≡ map (target_row (targets_of e)) (filter (meets_all (clauses_of e)) (combinations (tables_of e words)))
  pub answer : (e : Envelope) → Fits e → (words w : List ℕ) (room u : ℕ)
      → (answer_outcome e words room ≡ good w u)
      ↔ (Within e × (shaped e words ≡ true) × (length (answer_words e words) ≤ room) × (w ≡ words_of_rows (answer_rows e words)) × (u ≡ length w))
