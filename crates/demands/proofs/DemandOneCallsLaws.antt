-- Demand 1 holds of boundary's calls: what a call begins with is refused by its own numbers, what was read is not refused again by the call
-- below, and that call's numbers are those of demand_one.
use mathlib.Core.Path.{◌≡◌, sym, ap, ◌∙◌}
use mathlib.Core.List.Memᴰ
use mathlib.Core.List.{List, [], ◌∷◌, Memᴰ}
use mathlib.Core.Logic.{◌⊎◌, inl, inr}
use Prim.Native.Nat.{ℕ}
use lib.ListN.{length}
use lib.Seq.{sets}
use lib.Dec.{ltb}
use Rattle.ground.specs.Bytes.{Bytes}
use Rattle.ground.specs.Outcome.{Outcome, next}
use Rattle.ground.specs.Outcome.Outcome.{good, bad}
use Rattle.ground.specs.Refusing.{Test, test, judged}
use Rattle.ground.proofs.OutcomeLaws.{good_bad, next_bad, turned_bad, leaves_refused}
use Rattle.ground.proofs.RefusingLaws.{judged_number}
use Rattle.ground.specs.declared.refusals.Reason.TheVariants.{BeyondLimit, TooShort}
use Rattle.fields.specs.Puts.{fitted}
use Rattle.fields.proofs.PutLaws.{fitted_bad}
use Rattle.contents.specs.declared.envelope.Envelope.{Envelope}
use Rattle.envelopes.specs.Envelope.{read_envelope, check_envelope}
use Rattle.envelopes.proofs.ExactEnvelope.{check_read}
use Rattle.paths.specs.Steps.{legal}
use Rattle.papers.specs.Programs.{no_program, program_against, program_bytes, read_program, write_program_of}
use Rattle.papers.specs.Checks.{papers_of}
use Rattle.papers.specs.declared.programs.Program.{Program}
use Rattle.papers.specs.declared.checks.Papers.{Papers}
use Rattle.papers.proofs.CheckLaws.{papers_complete}
use Rattle.estimates.specs.Estimate.{estimate_of}
use Rattle.ends.specs.Ends.{Marked, no_end}
use Rattle.ends.specs.declared.ends.End.{End}
use Rattle.station.specs.Opening.{open_of}
use Rattle.station.specs.Receiving.{Held, receive_of}
use Rattle.boundary.specs.Answers.{greatest_word}
use Rattle.boundary.specs.States.{state_test, unclear, end_of, state_after}
use Rattle.boundary.specs.Given.{papers_in, end_in}
use Rattle.boundary.specs.Planning.{program_for, plan_from, estimate_words, estimate_with, estimate_from}
use Rattle.boundary.specs.Running.{run_from, answer_from}
use Rattle.boundary.specs.Stations.{open_given, open_from, make_values_from, make_rows_from, receive_given, receive_from, answer_end_from}
use Rattle.boundary.proofs.LeftLaws.{papers_good, end_parts}
use Rattle.boundary.proofs.PlannedLaws.{plan_good}
use Rattle.demands.specs.DemandOne.{By, After, own_papers}
use Rattle.demands.specs.DemandOneCalls.{program_numbers, EveryCallFromOutside}
use Rattle.demands.proofs.NumberLaws.{numbered_lem, program_number}
use Rattle.demands.proofs.PaperLaws.{read_number, estimate_refused}
use Rattle.demands.proofs.DemandOneLaws.{demand_one}
use Rattle.ground.specs.declared.refusals.Reason.{Reason}
use Rattle.ground.specs.Refusals.{number_of}
use Rattle.estimates.specs.declared.lines.Estimate.{Estimate}

-- ---- one thing after another

after_next : {A B : Type 0} (o : Outcome A) (k : A → ℕ → Outcome B) (numbers : List ℕ)
    → ((a : A) (p : ℕ) → o ≡ good a p → By bad (k a p) numbers) → After o bad (next o k) numbers
after_next {A} {B} o k numbers rest n u h = go (next_bad o k n u h)
  where
    go : (o ≡ bad n u) ⊎ ((a : A) × (p : ℕ) × (o ≡ good a p) × (k a p ≡ bad n u)) → (o ≡ bad n u) ⊎ Memᴰ (number_of n) numbers
    go (inl z) = inl z
    go (inr (a, p, read, z)) = inr (rest a p read n u z)

-- what is good does not refuse again
not_again : {A B : Type 0} (o : Outcome A) (a : A) (p : ℕ) → o ≡ good a p → (answer : Outcome B) (numbers : List ℕ) → After o bad answer numbers
    → By bad answer numbers
not_again o a p is answer numbers after n u h = go (after n u h)
  where
    go : (o ≡ bad n u) ⊎ Memᴰ (number_of n) numbers → Memᴰ (number_of n) numbers
    go (inl z) = absurd (good_bad a p n u (sym is ∙ z))
    go (inr listed) = listed

-- a test alone
test_number : {A : Type 0} (t : Test) (a : A) (p : ℕ) → By bad (judged (t ∷ []) (good a p)) (number_of t.reason ∷ [])
test_number t a p n u h = numbered_lem n (t.reason ∷ []) (go (judged_number (t ∷ []) (good a p) n u h))
  where
    go : Memᴰ n (t.reason ∷ []) ⊎ (good a p ≡ bad n u) → Memᴰ n (t.reason ∷ [])
    go (inl listed) = listed
    go (inr z) = absurd (good_bad a p n u z)

-- ---- a program, and an estimate

against_number : (e : Envelope) (s : List ℕ) (n : Reason) (u : ℕ) → program_against e s ≡ bad n u → Memᴰ (number_of n) program_numbers
unfolding number_of
against_number e s =
    program_number (λ n. Memᴰ (number_of n) program_numbers) (search Memᴰ.head) (search (Memᴰ.head, Memᴰ.tail) depth 12)
    (search (Memᴰ.head, Memᴰ.tail) depth 12) (search (Memᴰ.head, Memᴰ.tail) depth 12)
    (search (Memᴰ.head, Memᴰ.tail) depth 12) (search (Memᴰ.head, Memᴰ.tail) depth 12) (legal e) e s

program_after : (f : Envelope) (p : List ℕ) → After (check_envelope f) bad (read_program f p) program_numbers
unfolding read_program
program_after f p = after_next (check_envelope f) (λ g _. program_against g p) program_numbers (λ g _ _. against_number g p)

estimate_after : (o : Outcome Papers) (room : ℕ) → After o bad (estimate_with (estimate_of o) room) (11 ∷ [])
unfolding estimate_with number_of
estimate_after o room n u h = go (next_bad (estimate_of o) (λ x _. fitted room (estimate_words x)) n u h)
  where
    go : (estimate_of o ≡ bad n u)
        ⊎ ((x : Estimate) × (p : ℕ) × (estimate_of o ≡ good x p) × (fitted room (estimate_words x) ≡ bad n u)) → (o ≡ bad n u) ⊎ Memᴰ (number_of n) (11 ∷ [])
    go (inl z) = inl (estimate_refused o n u z)
    go (inr (x, p, _, z)) = inr (numbered_lem n (TooShort ∷ []) (fitted_bad room (estimate_words x) n u z).0)

-- the numbers behind an end, of making and of receiving
abbrev make_numbers : List ℕ
make_numbers = 4 ∷ 10 ∷ 11 ∷ 14 ∷ 12 ∷ 11 ∷ []

abbrev receive_numbers : List ℕ
receive_numbers = 4 ∷ 10 ∷ 11 ∷ 1 ∷ 13 ∷ 14 ∷ 15 ∷ 16 ∷ 17 ∷ 11 ∷ []

-- ---- papers that were read check good

module _ (e p : List ℕ) (all : Bytes e) (each : Bytes p) where
  envelope_again : {A : Type 0} (f : Envelope) (v : ℕ) → read_envelope e ≡ good f v → (o : Outcome A) (numbers : List ℕ)
      → After (check_envelope f) bad o numbers → By bad o numbers
  envelope_again f v read o numbers after = not_again (check_envelope f) f v (check_read e f v all read) o numbers after

  papers_again : {A : Type 0} (q : Papers) (at : ℕ) → papers_in e p ≡ good q at → (o : Outcome A) (numbers : List ℕ)
      → After (papers_of q.envelope q.program) bad o numbers → By bad o numbers
  papers_again q at read o numbers after =
      not_again (papers_of q.envelope q.program) q (length (program_bytes q.program)) (papers_complete q (papers_good e p all each q at read)) o
      numbers after

  -- ---- by the envelope alone

  program_given : After (read_envelope e) bad (papers_in e p) program_numbers
  unfolding papers_in
  program_given =
      after_next (read_envelope e) (λ f _. next (read_program f p) (λ q at. good (record { envelope = f; program = q }) at)) program_numbers
      (λ f v read n u h.
      envelope_again f v read (read_program f p) program_numbers (program_after f p) n u
      (turned_bad (λ (q : Program). record { envelope = f; program = q }) (read_program f p) n u h))

  plan_number : (room : ℕ) → After (read_envelope e) bad (plan_from e room) (11 ∷ [])
  unfolding plan_from number_of
  plan_number room n u h = go (next_bad (read_envelope e) (λ f _. write_program_of f (program_for e) room) n u h)
    where
      go : (read_envelope e ≡ bad n u)
          ⊎ ((f : Envelope) × (v : ℕ) × (read_envelope e ≡ good f v) × (write_program_of f (program_for e) room ≡ bad n u))
          → (read_envelope e ≡ bad n u) ⊎ Memᴰ (number_of n) (11 ∷ [])
      go (inl z) = inl z
      go (inr (f, v, read, _)) = inr (numbered_lem n (TooShort ∷ []) (fitted_bad room (program_bytes (program_for e)) n u (sym (plan_good e all f v read room) ∙ h)).0)

  answer_number_lem : (words out : List ℕ) → After (read_envelope e) bad (answer_from e words (length out)) (10 ∷ 11 ∷ [])
  unfolding answer_from
  answer_number_lem words out =
      after_next (read_envelope e) _ (10 ∷ 11 ∷ [])
      (λ f v read. envelope_again f v read _ (10 ∷ 11 ∷ []) (demand_one f no_program no_end [] words [] [] out).answering_tables.0)

  -- ---- by both papers

  estimate_number : (room : ℕ) → After (papers_in e p) bad (estimate_from e p room) (11 ∷ [])
  unfolding estimate_from
  estimate_number room =
      after_next (papers_in e p) _ (11 ∷ [])
      (λ q at read. papers_again q at read _ (11 ∷ []) (estimate_after (papers_of q.envelope q.program) room))

  run_number : (words marks : List ℕ) → After (papers_in e p) bad (run_from e p words marks) (10 ∷ 11 ∷ [])
  unfolding run_from
  run_number words marks =
      after_next (papers_in e p) _ (10 ∷ 11 ∷ [])
      (λ q at read.
      papers_again q at read _ (10 ∷ 11 ∷ []) (demand_one q.envelope q.program no_end [] words marks [] []).in_one_place.0)

  -- the state's 11 stands at the end of the list
  open_number : (s words marks : List ℕ) (site run : ℕ) → After (papers_in e p) bad (open_from e p site run words marks s) (10 ∷ 4 ∷ 11 ∷ [])
  unfolding open_from open_given number_of
  open_number s words marks site run =
      after_next (papers_in e p) _ (10 ∷ 4 ∷ 11 ∷ []) λ q at read.
      either (open_of q.envelope q.program site run words marks)
      (papers_again q at read _ (10 ∷ 4 ∷ 11 ∷ []) ((demand_one q.envelope q.program no_end [] words marks [] []).opening site run).0)
    where
      either : (o : Outcome Marked) → By bad o (10 ∷ 4 ∷ 11 ∷ [])
          → By bad (next o (λ m at. judged (state_test s ∷ []) (good m at))) (10 ∷ 4 ∷ 11 ∷ [])
      either (good m at) below n u h = Memᴰ.tail (Memᴰ.tail (test_number (state_test s) m at n u h))
      either (bad k at) below n u h = below n u h

  -- ---- an end, and the calls that begin with it

  module _ (s : List ℕ) where
    end_number : After (papers_in e p) bad (end_in e p s) (11 ∷ 4 ∷ [])
    unfolding end_in number_of
    end_number n u h = go (judged_number (state_test s ∷ []) (next (papers_in e p) clear) n u h)
      where
        clear : Papers → ℕ → Outcome End
        clear q at = judged (test (unclear s) BeyondLimit 0 ∷ []) (good (end_of q s) at)

        later : (papers_in e p ≡ bad n u) ⊎ Memᴰ (number_of n) (4 ∷ []) → (papers_in e p ≡ bad n u) ⊎ Memᴰ (number_of n) (11 ∷ 4 ∷ [])
        later (inl z) = inl z
        later (inr listed) = inr (Memᴰ.tail listed)

        go : Memᴰ n (TooShort ∷ []) ⊎ (next (papers_in e p) clear ≡ bad n u) → (papers_in e p ≡ bad n u) ⊎ Memᴰ (number_of n) (11 ∷ 4 ∷ [])
        go (inl listed) = inr (Memᴰ.append_left (4 ∷ []) (numbered_lem n (TooShort ∷ []) listed))
        go (inr z) =
            later (after_next (papers_in e p) clear (4 ∷ []) (λ q at _. test_number (test (unclear s) BeyondLimit 0) (end_of q s) at) n u z)

    end_again : {A : Type 0} (x : End) (at : ℕ) → end_in e p s ≡ good x at → (o : Outcome A) (numbers : List ℕ)
        → After (own_papers x) bad o numbers → By bad o numbers
    unfolding end_of
    end_again x at read o numbers after =
        let (_, q, papers, is) = end_parts e p s x at read in
        let own : own_papers x ≡ good q (length (program_bytes q.program)) = ap own_papers is ∙ papers_complete q (papers_good e p all each q at papers) in
        not_again (own_papers x) q (length (program_bytes q.program)) own o numbers after

    values_number : (words marks : List ℕ) (step : ℕ) (out : List ℕ)
        → After (end_in e p s) bad (make_values_from e p s words marks step (length out)) make_numbers
    unfolding make_values_from
    values_number words marks step out =
        after_next (end_in e p s) _ make_numbers
        (λ x at read. end_again x at read _ make_numbers ((demand_one x.envelope x.program x [] words marks [] out).making_values step).0)

    rows_number : (words marks : List ℕ) (r : ℕ) (out : List ℕ)
        → After (end_in e p s) bad (make_rows_from e p s words marks r (length out)) make_numbers
    unfolding make_rows_from
    rows_number words marks r out =
        after_next (end_in e p s) _ make_numbers
        (λ x at read. end_again x at read _ make_numbers ((demand_one x.envelope x.program x [] words marks [] out).making_rows r).0)

    receive_number : (words marks store m : List ℕ) → After (end_in e p s) bad (receive_from e p s words marks store m) receive_numbers
    unfolding receive_from receive_given number_of
    receive_number words marks store m =
        after_next (end_in e p s) _ receive_numbers λ x at read n u h.
        go x
        (end_again x at read _ receive_numbers (demand_one x.envelope x.program x m words marks store []).receiving.0)
        n u (judged_number (test (ltb greatest_word (length store)) BeyondLimit 0 ∷ []) (receive_of x words marks store m) n u h)
      where
        go : (x : End) → By bad (receive_of x words marks store m) receive_numbers → (n : Reason) (u : ℕ)
            → Memᴰ n (BeyondLimit ∷ []) ⊎ (receive_of x words marks store m ≡ bad n u) → Memᴰ (number_of n) receive_numbers
        go x below n u (inl listed) = Memᴰ.append_left (10 ∷ 11 ∷ 1 ∷ 13 ∷ 14 ∷ 15 ∷ 16 ∷ 17 ∷ 11 ∷ []) (numbered_lem n (BeyondLimit ∷ []) listed)
        go x below n u (inr z) = below n u z

    answer_end_number : (store out : List ℕ) → After (end_in e p s) bad (answer_end_from e p s store (length out)) (4 ∷ 14 ∷ 15 ∷ 12 ∷ 11 ∷ [])
    unfolding answer_end_from
    answer_end_number store out =
        after_next (end_in e p s) _ (4 ∷ 14 ∷ 15 ∷ 12 ∷ 11 ∷ [])
        (λ x at read.
        end_again x at read _ (4 ∷ 14 ∷ 15 ∷ 12 ∷ 11 ∷ []) (demand_one x.envelope x.program x [] [] [] store out).answering_end.0)

-- ---- all eleven

pub demand_one_calls : EveryCallFromOutside
demand_one_calls e p s words marks store m out all each =
    record {
      envelope_read = read_number e;
      program_read = program_given e p all each;
      planning = (plan_number e p all each (length out), leaves_refused (sets out 0) out _);
      estimating = (estimate_number e p all each (length out), leaves_refused (sets out 0) out _);
      in_one_place = (run_number e p all each words marks, leaves_refused (λ v. v) marks _);
      answering_tables = (answer_number_lem e p all each words out, leaves_refused (sets out 0) out _);
      opening = λ site run. (
        open_number e p all each s words marks site run,
        leaves_refused (λ (k : Marked). k.marks) marks _,
        leaves_refused (λ (k : Marked). state_after k.end s) s _,
      );
      end_read = end_number e p all each s;
      making_values = λ step. (values_number e p all each s words marks step out, leaves_refused (sets out 0) out _);
      making_rows = λ r. (rows_number e p all each s words marks r out, leaves_refused (sets out 0) out _);
      receiving = (
        receive_number e p all each s words marks store m,
        leaves_refused (λ (h : Held). state_after h.end s) s _,
        leaves_refused (λ (h : Held). h.marks) marks _,
        leaves_refused (λ (h : Held). h.store) store _,
      );
      answering_end = (answer_end_number e p all each s store out, leaves_refused (sets out 0) out _);
    }
