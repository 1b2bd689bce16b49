-- "Every envelope, program, table and radio message, damaged or hostile, is either taken or refused with a number from our list,
-- and every call ends. A refusal leaves the row marks, the store and every output as they were before the call." Of each of boundary's
-- eleven calls, in the order of include/legestran.h but for the estimate. By its contract a call answers the outcome o as one number, and leaves
-- in each lent slice what stands behind Stays. Papers come as bytes; once read, they are not refused again by the check of structs.
use Rattle.std.specs.Prelude.{ℕ, List, [], ◌∷◌, length}
use Rattle.demands.specs.Words.{bad, Bytes, value_of, written_in, read_envelope, papers_in, end_in, plan_from, estimate_from}
use Rattle.demands.specs.Words.{run_from, answer_from, open_from, opened_marks, opened_state, make_values_from, make_rows_from, receive_from, received_marks}
use Rattle.demands.specs.Words.{received_store, received_state, answer_end_from}
use Rattle.demands.specs.DemandOne.{envelope_numbers, By, After, Stays}

-- a program's numbers, by an envelope that was read
abbrev pub program_numbers : List ℕ
program_numbers = 1 ∷ 2 ∷ 3 ∷ 4 ∷ 7 ∷ 8 ∷ []

-- e and p are the papers' bytes, s is a state, m a message that is received; words are tables
pub record DemandOneCalls (e p s words marks store m out : List ℕ) : Type 0 where
  pub envelope_read : By bad (read_envelope e) envelope_numbers
  pub program_read : After (read_envelope e) bad (papers_in e p) program_numbers
  -- "Writing a program: 11." So of an estimate.
  pub planning : let o = plan_from e (length out) in After (read_envelope e) bad o (11 ∷ []) × Stays o (written_in out o) out
  pub estimating : let o = estimate_from e p (length out) in After (papers_in e p) bad o (11 ∷ []) × Stays o (written_in out o) out
  -- "One-place run: 10, 11." "Answering on tables: 10, 11."
  pub in_one_place : let o = run_from e p words marks in
      After (papers_in e p) bad o (10 ∷ 11 ∷ []) × Stays o (value_of marks o) marks
  pub answering_tables : let o = answer_from e words (length out) in
      After (read_envelope e) bad o (10 ∷ 11 ∷ []) × Stays o (written_in out o) out
  -- "Opening: 10, 4 (site above 7), 11." The last of the marks, then of the state
  pub opening : (site run : ℕ) → let o = open_from e p site run words marks s in
      After (papers_in e p) bad o (10 ∷ 4 ∷ 11 ∷ []) × Stays o (opened_marks marks o) marks × Stays o (opened_state s o) s
  -- the end, which comes first in what follows: 11 for a state of fewer than 19 words, the papers, 4 for an arrived word above 1
  pub end_read : After (papers_in e p) bad (end_in e p s) (11 ∷ 4 ∷ [])
  -- 4 for too many applied steps, then "Making: 10, 11 (marks), 14, 12, 11 (message)."
  pub making_values : (step : ℕ) → let o = make_values_from e p s words marks step (length out) in
      After (end_in e p s) bad o (4 ∷ 10 ∷ 11 ∷ 14 ∷ 12 ∷ 11 ∷ []) × Stays o (written_in out o) out
  pub making_rows : (r : ℕ) → let o = make_rows_from e p s words marks r (length out) in
      After (end_in e p s) bad o (4 ∷ 10 ∷ 11 ∷ 14 ∷ 12 ∷ 11 ∷ []) × Stays o (written_in out o) out
  -- 4 also for a store of 2^32 words or more, then "Receiving: 10, 11 (marks), 1, 13, 14, 15, 16 or 17, 11 (store ..)"
  pub receiving : let o = receive_from e p s words marks store m in
      After (end_in e p s) bad o (4 ∷ 10 ∷ 11 ∷ 1 ∷ 13 ∷ 14 ∷ 15 ∷ 16 ∷ 17 ∷ 11 ∷ [])
      × Stays o (received_state s o) s × Stays o (received_marks marks o) marks × Stays o (received_store store o) store
  -- 4, then "Answering at an end: 14 .., 15 .., 12, 11"
  pub answering_end : let o = answer_end_from e p s store (length out) in
      After (end_in e p s) bad o (4 ∷ 14 ∷ 15 ∷ 12 ∷ 11 ∷ []) × Stays o (written_in out o) out

abbrev pub EveryCallFromOutside : Type 0
EveryCallFromOutside = (e p s words marks store m out : List ℕ) → Bytes e → Bytes p → DemandOneCalls e p s words marks store m out
