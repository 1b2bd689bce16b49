-- Demand 1 holds: each call's refusals have the numbers that 01 lists for it, and leave everything as it was.
use mathlib.Core.Path.{◌≡◌, refl}
use mathlib.Core.List.Memᴰ
use mathlib.Core.List.{List, [], ◌∷◌, ◌++◌, map, Memᴰ}
use mathlib.Core.Logic.{◌⊎◌, inl, inr}
use Prim.Native.Nat.{ℕ}
use lib.ListN.{length}
use lib.Seq.{sets}
use Rattle.ground.specs.Outcome.{Outcome, next, taken_of}
use Rattle.ground.specs.Outcome.Outcome.{good, bad}
use Rattle.ground.specs.Refusing.{Test, judgement}
use Rattle.ground.proofs.OutcomeLaws.{good_bad, refused_is, turned_bad, value_bad, leaves_refused}
use Rattle.ground.proofs.RefusingLaws.{judged_number}
use Rattle.ground.specs.declared.refusals.Reason.TheVariants.{TooShort, Waiting, NotOurs}
use Rattle.contents.specs.declared.envelope.Envelope.{Envelope}
use Rattle.envelopes.specs.Envelope.{check_envelope}
use Rattle.paths.specs.Implied.{implied_selections, implied_equalities, shown_selections, shown_equalities}
use Rattle.paths.specs.Steps.{legal}
use Rattle.papers.specs.Checks.{papers_of}
use Rattle.tables.specs.Shape.{marks_tests, column_tests}
use Rattle.semijoin.proofs.CallPromiseLaws.{call_promise}
use Rattle.ends.proofs.SoundLaws.{first_numbers, sound_number, usable_number}
use Rattle.station.proofs.OpeningLaws.{open_number, open_untouched}
use Rattle.tables.proofs.CallLaws.{values_number as gathered-number}
use Rattle.station.proofs.MakingLaws.{values_number, rows_number}
use Rattle.station.proofs.ReceivingLaws.{last_numbers, received_number, received_marks_lem, received_store_lem, received_end}
use Rattle.demands.proofs.StructPapers.{check_struct, papers_struct}
use Rattle.demands.proofs.PaperLaws.{read_number, check_number, program_read_number, program_check_number, papers_number, envelope_write_number, program_write_number, plan_refused, estimate_refused}
use Rattle.demands.proofs.AnswerNumbers.{tables_number, end_number}
use Rattle.demands.specs.DemandOne.{EveryCall, refused}
use Rattle.demands.proofs.NumberLaws.{numbered_lem}
use Rattle.ground.specs.declared.refusals.Reason.{Reason}
use Rattle.ground.specs.Refusals.{number_of, refusal}

-- ---- numbers

only_number : {A B : Type 0} {C : Type 0} → A ⊎ (B × C) → A ⊎ B
only_number (inl a) = inl a
only_number (inr (b, _)) = inr b

or_number : {A : Type 0} (reasons : List Reason) (n : Reason) → A ⊎ Memᴰ n reasons → A ⊎ Memᴰ (number_of n) (map number_of reasons)
or_number reasons n (inl a) = inl a
or_number reasons n (inr m) = inr (numbered_lem n reasons m)

-- the first refusals of a call on an end, then its own
first_or : {A : Type 0} (first rest : List Reason) (n : Reason) (u : ℕ) → (A ⊎ (Memᴰ n first × (u ≡ 0))) ⊎ Memᴰ n rest
    → A ⊎ Memᴰ (number_of n) (map number_of (first ++ rest))
first_or first rest n u (inl (inl a)) = inl a
first_or first rest n u (inl (inr (m, _))) = inr (numbered_lem n (first ++ rest) (Memᴰ.append_left rest m))
first_or first rest n u (inr m) = inr (numbered_lem n (first ++ rest) (Memᴰ.append_right first m))

-- tests that are judged alone
judged_alone : (ts : List Test) (n : Reason) (u : ℕ) → judgement ts ≡ refused n u
    → Memᴰ (number_of n) (map number_of (map (λ (t : Test). t.reason) ts))
unfolding judgement
judged_alone ts n u h = numbered_lem n _ (go (judged_number ts _ n u (refused_is _ n u h)))
  where
    go : Memᴰ n (map (λ (t : Test). t.reason) ts) ⊎ (good (tt {0}) 0 ≡ bad n u) → Memᴰ n (map (λ (t : Test). t.reason) ts)
    go (inl m) = m
    go (inr z) = absurd (good_bad (tt {0}) 0 n u z)

-- ---- refused as the papers are

turned_refused : {A C : Type 0} (f : A → C) (o : Outcome A) (n : Reason) (u : ℕ) → taken_of (next o (λ a p. good (f a) p)) ≡ refused n u → o ≡ bad n u
turned_refused f o n u h = turned_bad f o n u (value_bad _ _ (refusal n u) refl h)

-- ---- all calls

pub demand_one : EveryCall
unfolding number_of
demand_one e p x s words marks store out =
    record {
      envelope_read = read_number s;
      program_read = program_read_number e s;
      envelope_checked = check_number e;
      program_checked = program_check_number e p;
      papers_checked = papers_number e p;
      envelope_struct = check_struct e;
      papers_struct = λ fits small. papers_struct e fits p small;
      writes_envelope = (λ n u h. or_number (TooShort ∷ []) n (envelope_write_number e (length out) n u h), leaves_refused (sets out 0) out _);
      writes_program = (λ n u h. or_number (TooShort ∷ []) n (program_write_number e p (length out) n u h), leaves_refused (sets out 0) out _);
      legality = λ t n u h. inl (turned_refused (λ (f : Envelope). legal f t) (check_envelope e) n u h);
      selections = λ r n u h. inl (turned_refused (λ (f : Envelope). shown_selections (implied_selections f r)) (check_envelope e) n u h);
      equalities = λ r n u h. inl (turned_refused (λ (f : Envelope). shown_equalities (implied_equalities f r)) (check_envelope e) n u h);
      planning = λ n u h. inl (plan_refused (check_envelope e) n u h);
      planning_bytes = λ n u h. inl (plan_refused _ n u h);
      estimating = λ n u h. inl (estimate_refused (papers_of e p) n u h);
      marks_judged = λ k. judged_alone (marks_tests e words k);
      column_judged = λ a k. judged_alone (column_tests e a words k);
      gathering = λ a start. (λ n u h. numbered_lem n _ (gathered-number e a words marks start (length out) n u h).0, leaves_refused (sets out start) out _);
      opening_marks = λ here. (λ n u h. or_number _ n (only_number (call_promise.open_number e words here marks n u h)), leaves_refused (λ v. v) marks _);
      reducing = λ values a. (λ n u h. numbered_lem n _ (call_promise.reduce_number e words values a marks n u h).0, leaves_refused (λ v. v) marks _);
      in_one_place = (λ n u h. or_number _ n (only_number (call_promise.run_number e p words marks n u h)), leaves_refused (λ v. v) marks _);
      opening = λ site run. (λ n u h. or_number _ n (only_number (open_number site run words marks e p n u h)), open_untouched site run words marks e p);
      sound = λ n u h. or_number _ n (only_number (sound_number x n u h));
      ready = λ k n u h. or_number _ n (only_number (usable_number x words k n u h));
      making_values = λ step. (
        λ n u h. first_or first_numbers (NotOurs ∷ Waiting ∷ TooShort ∷ []) n u (values_number x words marks step (length out) n u h),
        leaves_refused (sets out 0) out _,
      );
      making_rows = λ r. (
        λ n u h. first_or first_numbers (NotOurs ∷ Waiting ∷ TooShort ∷ []) n u (rows_number x words marks r (length out) n u h),
        leaves_refused (sets out 0) out _,
      );
      receiving = (
        λ n u h. first_or first_numbers last_numbers n u (only_number (received_number x words marks store s n u h)),
        received_marks_lem x words marks store s,
        received_store_lem x words marks store s,
        received_end x words marks store s,
      );
      answering_tables = (λ n u h. or_number _ n (tables_number e words out n u h), leaves_refused (sets out 0) out _);
      answering_end = (λ n u h. or_number _ n (end_number x store out n u h), leaves_refused (sets out 0) out _);
    }
