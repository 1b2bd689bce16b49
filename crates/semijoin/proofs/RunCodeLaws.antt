-- What the functions of the one-place run answer: steps one after the other, and each return of the run.
use mathlib.Core.Path.{◌≡◌, refl, sym, ap, ◌∙◌}
use mathlib.Core.Bool.{Bool, true, false}
use mathlib.Core.List.{List}
use Prim.Native.Nat.{ℕ, zero, suc, ◌+◌, ◌≤◌, ◌<◌}
use native.Mathlib.Nat.{min-le_left}
use native.Mathlib.Numerals.{add-one}
use native.Mathlib.Omega.{arith}
use lib.ListN.{length, get_or, take, drop, replicate, length-replicate, drop_of_length-le}
use lib.Seq.{sets, drop-cons}
use Rattle.ground.specs.Lists.{Every, below}
use Rattle.ground.specs.Rising.{Rises}
use Rattle.ground.specs.Outcome.{Verdict, taken_of, verdict_of, value_of, leaves}
use Rattle.ground.specs.Outcome.Outcome.{good}
use Rattle.ground.specs.Refusing.{judgement}
use Rattle.ground.proofs.ListLaws.{each_alike}
use Rattle.ground.proofs.OutcomeLaws.{never, value_good, value_bad}
use Rattle.ground.proofs.EveryLaws.{every_get_d}
use Rattle.ground.proofs.NumbersLaws.{below_from}
use Rattle.ground.proofs.RefusingLaws.{judge_refused, judge_taken}
use Rattle.fields.specs.Puts.{written_of, written_in}
use Rattle.fields.proofs.PutLaws.{writes_good, fresh_bytes}
use Rattle.contents.specs.Parts.{relation_count}
use Rattle.envelopes.specs.Rules.{Within}
use Rattle.entries.specs.declared.places.Place.{Place}
use Rattle.contents.specs.declared.envelope.Envelope.{Envelope}
use Rattle.paths.specs.Steps.{is_place, legal, LegalStep}
use Rattle.papers.specs.Programs.{no_step, steps_of}
use Rattle.papers.specs.Checks.{papers_of, GoodPapers}
use Rattle.paths.specs.declared.steps.Step.{Step}
use Rattle.papers.specs.declared.programs.Program.{Program}
use Rattle.papers.specs.declared.checks.Papers.{Papers}
use Rattle.paths.proofs.StepLaws.{legal_step}
use Rattle.papers.proofs.CheckLaws.{papers_sound}
use Rattle.tables.specs.Shape.{shaped, marks_tests}
use Rattle.semijoin.specs.Local.{opened_at, opened, opened_in}
use Rattle.semijoin.specs.Marks.{reduced_by}
use Rattle.tables.specs.Offsets.{row_count}
use Rattle.tables.specs.Values.{values_of, rising_values, values_outcome}
use Rattle.semijoin.specs.Run.{stepped, stepped_all, run_marks, run_checked, run_outcome}
use Rattle.tables.proofs.ShapeLaws.{shaped_shape}
use Rattle.tables.proofs.ValueLaws.{values_rise, no_more_values}
use Rattle.tables.proofs.CallLaws.{values_taken_lem}
use Rattle.semijoin.proofs.PromiseLaws.{promise}
use Rattle.semijoin.proofs.CallCodeLaws.{after_refused, after_taken}
use Rattle.ground.specs.declared.refusals.Refusal.{Refusal}
use Rattle.std.specs.Prelude.{Result, Ok, Err}

-- ---- a step, by a column's rising values: a buffer of 4,096 takes them all, so that gathering them is not refused

module _ (e : Envelope) (words marks : List ℕ) (right : Place) (size : ℕ) (h : 4096 ≤ size) (t : shaped e words ≡ true)
    (room : row_count e words ≤ length marks) (gathered : Result ℕ Refusal)
    (f : gathered ≡ written_of (values_outcome e words marks right 0 (length {A = ℕ} (replicate size 0)))) (p : is_place e right ≡ true) where
  abbrev rising : List ℕ
  rising = rising_values e words marks right

  few : length rising ≤ size
  few = omega (arith, no_more_values e words marks right, (shaped_shape e words t).few right.relation)

  abbrev fresh : List ℕ
  fresh = replicate size 0

  fits : 0 + length rising ≤ length fresh
  fits =
      let zero : ℕ = 0 in
      let long : length fresh ≡ size = length-replicate size zero in
      omega (arith, few)

  writes : (Ok (length rising) ≡ written_of (values_outcome e words marks right 0 (length fresh)))
      × (sets fresh 0 rising ≡ written_in fresh (values_outcome e words marks right 0 (length fresh)))
  writes = writes_good 0 fresh _ rising 0 (length rising) _ (values_taken_lem e right words marks 0 (length fresh) t room p fits) refl refl

  is_length : gathered ≡ Ok (length rising)
  is_length = f ∙ sym writes.0

  pub step_refused : (x : Refusal) → gathered ≡ Err x → ⊥
  step_refused x k = let z : ◌≡◌ {A = ℕ} 0 1 = cc is_length in never z

  module _ (values : List ℕ) (b : values ≡ written_in (replicate size 0) (values_outcome e words marks right 0 (length {A = ℕ} (replicate size 0))))
      (n : ℕ) (k : gathered ≡ Ok n) where
    count : n ≡ length rising
    count = cc is_length

    found : take n values ≡ rising_values e words marks right
    found =
        let stands = b ∙ sym writes.1 in
        fresh_bytes size size rising n values (count, stands, omega (arith, few, count)) (omega arith)

    pub step_fits : n ≤ size
    step_fits = omega (arith, few, count)

    pub step_count_lem : n ≡ length (take n values)
    step_count_lem = count ∙ ap length (sym found)

    pub step_rises : Rises 0 (take n values)
    step_rises = rw found (values_rise e words marks right)

    -- where it is the step's right column, and its left relation is reduced
    pub step_taken : (s : Step) → right ≡ s.right → (after : List ℕ) → after ≡ reduced_by e words (take n values) s.left marks
        → after ≡ stepped e words s marks
    unfolding stepped
    step_taken s same after a =
        a
        ∙ ap (λ (l : List ℕ). reduced_by e words l s.left marks) found
        ∙ (promise e).either_list words marks words marks s.left right
        ∙ ap (λ (b : Place). reduced_by e words (values_of e words marks b) s.left marks) same

-- the steps in use of a program
module _ (e : Envelope) (p : Program) (steps : List Step) (k : steps ≡ take p.count p.steps) where
  pub used_steps : steps ≡ steps_of p
  unfolding steps_of
  used_steps = k

  pub legal_used : Every (λ (s : Step). legal e s ≡ true) (steps_of p) → Every (λ (s : Step). legal e s ≡ true) steps
  legal_used h = rw used_steps h

stepped_long : (e : Envelope) (words : List ℕ) (s : Step) (marks : List ℕ) → length (stepped e words s marks) ≡ length marks
unfolding stepped
stepped_long e words s marks = (promise e).as_many words (values_of e words marks s.right) marks s.left

-- ---- steps one after the other

pub record Taking (e : Envelope) (words : List ℕ) (steps : List Step) (before : List ℕ) (i : ℕ) (marks : List ℕ) : Type 0 where
  pub long : length marks ≡ length before
  pub same : stepped_all e words (drop i steps) marks ≡ stepped_all e words steps before

module _ (e : Envelope) (words : List ℕ) (steps : List Step) (before : List ℕ) where
  module _ (i : ℕ) (marks : List ℕ) (g : Taking e words steps before i marks) where
    pub taking_done : length steps ≤ i → marks ≡ stepped_all e words steps before
    unfolding stepped_all
    taking_done h = sym (ap (λ (t : List Step). stepped_all e words t marks) (drop_of_length-le steps h)) ∙ g.same

    module _ (h : i < length steps) where
      pub taking_legal : Every (λ (s : Step). legal e s ≡ true) steps → LegalStep e (get_or steps i no_step)
      taking_legal all = legal_step e (get_or steps i no_step) (every_get_d (λ (s : Step). legal e s ≡ true) steps i no_step h all)

      pub taking_more : (after : List ℕ) → after ≡ stepped e words (get_or steps i no_step) marks → Taking e words steps before (i + 1) after
      unfolding stepped_all
      taking_more after a =
          record {
            long = ap length a ∙ stepped_long e words (get_or steps i no_step) marks ∙ g.long;
            same =
                rw (add-one i, a)
                (sym (ap (λ (t : List Step). stepped_all e words t marks) (drop-cons steps i no_step h)) ∙ g.same);
          }

-- ---- the run of a good program on a good envelope

module _ (e : Envelope) (p : Program) (words marks : List ℕ) where
  abbrev Ran : Verdict → List ℕ → Type 0
  Ran v after = (v ≡ verdict_of (run_checked e p words marks)) × (after ≡ value_of marks (run_checked e p words marks))

  everywhere : opened_in e words (λ r. get_or (replicate 8 true) r false) marks ≡ opened_in e words (λ _. true) marks
  unfolding opened_in opened
  everywhere =
      ap (sets marks 0) (each_alike _ _ (below (relation_count e)) λ r m.
      ap (λ (q : Bool). opened_at e words q r) (is_true r (omega (arith, below_from (relation_count e) m, min-le_left 8 e.relation_count))))
    where
      is_true : (r : ℕ) → r < 8 → get_or (replicate 8 true) r false ≡ true
      is_true zero h = refl
      is_true (suc zero) h = refl
      is_true (suc (suc zero)) h = refl
      is_true (suc (suc (suc zero))) h = refl
      is_true (suc (suc (suc (suc zero)))) h = refl
      is_true (suc (suc (suc (suc (suc zero))))) h = refl
      is_true (suc (suc (suc (suc (suc (suc zero)))))) h = refl
      is_true (suc (suc (suc (suc (suc (suc (suc zero))))))) h = refl
      is_true (suc (suc (suc (suc (suc (suc (suc (suc r)))))))) h = absurd (omega arith)

  module _ (v : Verdict) (g : v ≡ judgement (marks_tests e words (length marks))) where
    pub run_refused : (x : Refusal) → v ≡ Err x → Ran (Err x) marks
    unfolding run_checked
    run_refused x h =
        after_refused marks (run_checked e p words marks) x
        (judge_refused (marks_tests e words (length marks)) v g (good (run_marks e p words marks) 0) x.reason x.position h)

    pub run_whole : v ≡ Ok (tt {0}) → (between after : List ℕ) → between ≡ opened_in e words (λ r. get_or (replicate 8 true) r false) marks
        → (steps : List Step) → steps ≡ take p.count p.steps → after ≡ stepped_all e words steps between → Ran (Ok (tt {0})) after
    unfolding run_checked run_marks
    run_whole h between after k steps used a =
        after_taken marks (run_checked e p words marks) after 0
        (judge_taken (marks_tests e words (length marks)) v g (good (run_marks e p words marks) 0) h
        ∙ ap (λ (l : List ℕ). good l 0)
        (sym (a ∙ ap (λ (l : List Step). stepped_all e words l between) (used_steps e p steps used) ∙ ap (stepped_all e words (steps_of p)) (k ∙ everywhere))))

-- ---- the whole run

module _ (e : Envelope) (p : Program) (words marks : List ℕ) (r : Result Papers Refusal) (g : r ≡ taken_of (papers_of e p)) where
  abbrev RanWhole : Verdict → List ℕ → Type 0
  RanWhole v after = (v ≡ verdict_of (run_outcome e p words marks)) × (after ≡ value_of marks (run_outcome e p words marks))

  pub run_papers : (x : Refusal) → r ≡ Err x → RanWhole (Err x) marks
  unfolding run_outcome verdict_of leaves
  run_papers x h = rw (value_bad (papers_of e p) r x g h) (refl, refl)

  module _ (q : Papers) (h : r ≡ Ok q) where
    sound : GoodPapers q
    sound = let (u, taken) = value_good (papers_of e p) r q g h in papers_sound e p q u taken

    pub run_within : Within q.envelope
    run_within = sound.within

    pub run_legal : Every (λ (s : Step). legal q.envelope s ≡ true) (steps_of q.program)
    run_legal = sound.acceptable.steps

    as_run : run_outcome e p words marks ≡ run_checked q.envelope q.program words marks
    unfolding run_outcome
    as_run = rw (value_good (papers_of e p) r q g h).1

    pub run_good : (v : Verdict) (after : List ℕ) → v ≡ verdict_of (run_checked q.envelope q.program words marks)
        → after ≡ value_of marks (run_checked q.envelope q.program words marks) → RanWhole v after
    run_good v after a b = rw as_run (a, b)
