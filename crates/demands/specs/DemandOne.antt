-- "Every envelope, program, table and radio message, damaged or hostile, is either taken or refused with a number from our list,
-- and every call ends. A refusal leaves the row marks, the store and every output as they were before the call." Of each public
-- call below boundary on papers, tables, marks, ends and stores that can refuse: by no other numbers than 01 lists for it, and what a
-- refusal leaves; DemandOneCalls says it of boundary's calls. That each number is met is run (crates/cases, crates/refusals,
-- crates/answers). That every call ends is the language's own guarantee, and that a call is taken or refused is what an outcome is.
-- docs/CONTRACTS.md has the functions that cannot refuse, and those that read one field or entry of a paper.
use Rattle.std.specs.Prelude.{Result, Err, ℕ, ◌≡◌, Bool, List, [], ◌∷◌, ◌⊎◌, length}
use Rattle.demands.specs.Words.{List-as-Memᴰ, Reason, number_of, Refusal, refusal, Outcome, bad, verdict_of, leaves, judgement, Place, Envelope, Fits}
use Rattle.demands.specs.Words.{Step, Program, ProgramFits, Papers, read_envelope, check_envelope, write_envelope_of, legality_of, selections_read, equalities_read}
use Rattle.demands.specs.Words.{read_program, check_program, write_program_of, papers_of, estimate_of, plan_of, marks_tests, column_tests, values_outcome}
use Rattle.demands.specs.Words.{written_from, written_in, value_of, open_outcome, reduce_outcome, run_outcome, End, sound_end, usable, open_of, opened_marks, make_values_of, make_rows_of}
use Rattle.demands.specs.Words.{Held, receive_of, received_marks, received_store, answer_outcome, assembled_outcome}

-- an envelope's numbers; with a program; and of structs, whose bytes have the mark, no field cut short and nothing left over
abbrev pub envelope_numbers : List ℕ
envelope_numbers = 1 ∷ 2 ∷ 3 ∷ 4 ∷ 5 ∷ 6 ∷ 7 ∷ 9 ∷ []

abbrev pub papers_numbers : List ℕ
papers_numbers = 8 ∷ envelope_numbers

abbrev pub struct_numbers : List ℕ
struct_numbers = 3 ∷ 4 ∷ 5 ∷ 6 ∷ 9 ∷ []

-- a call's answer that is a refusal
abbrev pub refused : {A : Type 0} → Reason → ℕ → Result A Refusal
refused m u = Err (refusal m u)

-- an answer that is a refusal is by one of these numbers; or else as the papers, which are checked first, are refused
abbrev pub By : {A : Type 0} → (Reason → ℕ → A) → A → List ℕ → Type 0
By refusing answer numbers = (m : Reason) (u : ℕ) → answer ≡ refusing m u → List-as-Memᴰ (number_of m) numbers

abbrev pub After : {A B : Type 0} → Outcome B → (Reason → ℕ → A) → A → List ℕ → Type 0
After papers refusing answer numbers = (m : Reason) (u : ℕ) → answer ≡ refusing m u → (papers ≡ bad m u) ⊎ List-as-Memᴰ (number_of m) numbers

-- where a call is refused, something that was lent is afterwards what it was before
abbrev pub Stays : {A B : Type 0} → Outcome A → B → B → Type 0
Stays o after before = (m : Reason) (u : ℕ) → o ≡ bad m u → after ≡ before

abbrev pub own_papers : End → Outcome Papers
own_papers x = papers_of x.envelope x.program

-- s is a paper's bytes, in `receiving` a message; words are tables, k a number of marks, u what goes with a refusal
pub record DemandOne (e : Envelope) (p : Program) (x : End) (s words marks store out : List ℕ) : Type 0 where
  -- papers as bytes; as structs; as structs whose numbers are within the width of their fields, as all are
  pub envelope_read : By bad (read_envelope s) envelope_numbers
  pub program_read : By bad (read_program e s) papers_numbers
  pub envelope_checked : By bad (check_envelope e) envelope_numbers
  pub program_checked : By bad (check_program e p) papers_numbers
  pub papers_checked : By bad (papers_of e p) papers_numbers
  pub envelope_struct : Fits e → By bad (check_envelope e) struct_numbers
  pub papers_struct : Fits e → ProgramFits p → By bad (papers_of e p) (8 ∷ struct_numbers)
  -- writing them: then 11
  pub writes_envelope : let o = write_envelope_of e (length out) in After (check_envelope e) bad o (11 ∷ []) × Stays o (written_in out o) out
  pub writes_program : let o = write_program_of e p (length out) in After (check_program e p) bad o (11 ∷ []) × Stays o (written_in out o) out
  -- what is legal, implied, planned or estimated of them: refused as they are
  pub legality : (t : Step) → After (check_envelope e) refused (legality_of (check_envelope e) t) []
  pub selections : (r : ℕ) → After (check_envelope e) refused (selections_read (check_envelope e) r) []
  pub equalities : (r : ℕ) → After (check_envelope e) refused (equalities_read (check_envelope e) r) []
  pub planning : After (check_envelope e) bad (plan_of (check_envelope e)) []
  pub planning_bytes : After (read_envelope s) bad (plan_of (read_envelope s)) []
  pub estimating : After (papers_of e p) bad (estimate_of (papers_of e p)) []
  -- tables and marks: 10, 11; a column: 14; its values into a buffer: 11; a step by some values, as receiving has them: 15
  pub marks_judged : (k : ℕ) → By refused (judgement (marks_tests e words k)) (10 ∷ 11 ∷ [])
  pub column_judged : (a : Place) (k : ℕ) → By refused (judgement (column_tests e a words k)) (10 ∷ 11 ∷ 14 ∷ [])
  pub gathering : (a : Place) (start : ℕ) → let o = values_outcome e words marks a start (length out) in
      By bad o (10 ∷ 11 ∷ 14 ∷ 11 ∷ []) × Stays o (written_from start out o) out
  pub opening_marks : (here : ℕ → Bool) → let o = open_outcome e words here marks in
      After (check_envelope e) bad o (10 ∷ 11 ∷ []) × Stays o (value_of marks o) marks
  pub reducing : (values : List ℕ) (a : Place) → let o = reduce_outcome e words values a marks in
      By bad o (10 ∷ 11 ∷ 14 ∷ 15 ∷ []) × Stays o (value_of marks o) marks
  -- "One-place run: 10, 11."
  pub in_one_place : let o = run_outcome e p words marks in
      After (papers_of e p) bad o (10 ∷ 11 ∷ []) × Stays o (value_of marks o) marks
  -- "Opening: 10, 4 (site above 7), 11."
  pub opening : (site run : ℕ) → let o = open_of e p site run words marks in
      After (papers_of e p) bad o (10 ∷ 4 ∷ 11 ∷ []) × Stays o (opened_marks marks o) marks
  -- an end's own papers, 4 for too many applied steps; then tables and marks
  pub sound : After (own_papers x) bad (sound_end x) (4 ∷ [])
  pub ready : (k : ℕ) → After (own_papers x) bad (usable x words k) (4 ∷ 10 ∷ 11 ∷ [])
  -- 4, then "Making: 10, 11 (marks), 14, 12, 11 (message)."
  pub making_values : (step : ℕ) → let o = make_values_of x words marks step (length out) in
      After (own_papers x) bad o (4 ∷ 10 ∷ 11 ∷ 14 ∷ 12 ∷ 11 ∷ []) × Stays o (written_in out o) out
  pub making_rows : (r : ℕ) → let o = make_rows_of x words marks r (length out) in
      After (own_papers x) bad o (4 ∷ 10 ∷ 11 ∷ 14 ∷ 12 ∷ 11 ∷ []) × Stays o (written_in out o) out
  -- 4, then "Receiving: 10, 11 (marks), 1, 13, 14, 15, 16 or 17, 11 (store ..)": the end, the marks and the store stay
  pub receiving : let o = receive_of x words marks store s in
      After (own_papers x) bad o (4 ∷ 10 ∷ 11 ∷ 1 ∷ 13 ∷ 14 ∷ 15 ∷ 16 ∷ 17 ∷ 11 ∷ [])
      × Stays o (received_marks marks o) marks × Stays o (received_store store o) store
      × ((m : Reason) (u : ℕ) → o ≡ bad m u → (verdict_of o ≡ refused m u) × (leaves (λ (h : Held). h.end) x o ≡ x))
  -- "Answering on tables: 10, 11." 4, then "Answering at an end: 14 .., 15 .., 12, 11"
  pub answering_tables : let o = answer_outcome e words (length out) in
      After (check_envelope e) bad o (10 ∷ 11 ∷ []) × Stays o (written_in out o) out
  pub answering_end : let o = assembled_outcome x store (length out) in
      After (own_papers x) bad o (4 ∷ 14 ∷ 15 ∷ 12 ∷ 11 ∷ []) × Stays o (written_in out o) out

abbrev pub EveryCall : Type 0
EveryCall = (e : Envelope) (p : Program) (x : End) (s words marks store out : List ℕ) → DemandOne e p x s words marks store out
