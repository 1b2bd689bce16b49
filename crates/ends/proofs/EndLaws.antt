-- The laws of ends: what the loop over the relations' counts holds, and what each return of the check of an end answers.
use mathlib.Core.Path.{◌≡◌, refl, ap, sym, ◌∙◌}
use mathlib.Core.Bool.{Bool, true, false}
use mathlib.Core.List.{List, [], ◌∷◌}
use Prim.Native.Nat.{ℕ, ◌+◌, ◌≤◌, ◌<◌, min}
use native.Mathlib.Omega.{arith}
use lib.ListN.{length, get_or, replicate, length-take, get_or-replicate, length-replicate, get_or-eq_default}
use borrow.Author.Tests.{lt-ltb, le-ltb, ltb-true}
use Rattle.ground.specs.Lists.{filter, below}
use Rattle.ground.specs.Outcome.{Outcome, Verdict, next, taken_of}
use Rattle.ground.specs.Outcome.Outcome.{good, bad}
use Rattle.ground.specs.Refusing.{test, judged, judgement}
use Rattle.ground.proofs.CountLaws.{split}
use Rattle.ground.proofs.SearchingLaws.{some_from, Looking, some_more, some_found, some_none, any_numbers}
use Rattle.ground.proofs.OutcomeLaws.{next_good, value_good, value_bad}
use Rattle.ground.proofs.RefusingLaws.{judged_good, judge_refused, judge_taken}
use Rattle.ground.proofs.EveryLaws.{every_get_d}
use Rattle.ground.proofs.TestLaws.{and_left}
use Rattle.ground.specs.declared.refusals.Reason.TheVariants.{BeyondLimit}
use Rattle.contents.specs.Parts.{relation_count}
use Rattle.contents.specs.Sites.{is_at}
use Rattle.contents.specs.declared.envelope.Envelope.{Envelope}
use Rattle.paths.specs.Steps.{legal, LegalStep}
use Rattle.papers.specs.Programs.{no_step, steps_of}
use Rattle.paths.specs.declared.steps.Step.{Step}
use Rattle.papers.specs.Checks.{papers_of, GoodPapers}
use Rattle.papers.specs.declared.programs.Program.{Program}
use Rattle.papers.specs.declared.checks.Papers.{Papers}
use Rattle.papers.proofs.CheckLaws.{papers_sound}
use Rattle.paths.proofs.StepLaws.{legal_step}
use Rattle.tables.specs.Shape.{marks_tests}
use Rattle.tables.proofs.JudgedLaws.{marks_pass}
use Rattle.ends.specs.Reducing.{step_count, step_of, reduces, reducing, steps_before}
use Rattle.ends.specs.Ends.{over_at, over_applied, sound_end, usable, Usable}
use Rattle.ends.specs.declared.ends.End.{End}
use Rattle.ground.specs.declared.refusals.Refusal.{Refusal}
use Rattle.ground.specs.Refusals.{refusal}
use Rattle.std.specs.Prelude.{Result, Ok, Err}

-- ---- the counts of applied steps

-- the steps before a program's count are all its steps
pub before_all : (p : Program) (r : ℕ) → steps_before p r p.count ≡ steps_before p r (step_count p)
unfolding steps_before reducing steps_of
before_all p r =
    let s : min p.count (length (steps_of p)) ≡ min (length (steps_of p)) (length (steps_of p)) =
    omega (arith, length-take p.count p.steps) in
    ap (λ k. length (filter (reduces (steps_of p) r) (below k))) s

module _ (p : Program) (applied : List ℕ) (end i : ℕ) (l : Looking some_from (over_at p applied) end i) where
  module _ (h : i < end) (k : ℕ) (e : k ≡ steps_before p i p.count) where
    over : k < get_or applied i 0 → over_at p applied i ≡ true
    unfolding over_at
    over t = lt-ltb (steps_before p i (step_count p)) (get_or applied i 0) (omega (arith, before_all p i))

    pub over_passed : get_or applied i 0 ≤ k → Looking some_from (over_at p applied) end (i + 1)
    unfolding over_at
    over_passed t = some_more (over_at p applied) end i l h (le-ltb (steps_before p i (step_count p)) (get_or applied i 0) (omega (arith, before_all p i)))

    pub over_found : (relations : ℕ) → end ≡ min 8 relations → k < get_or applied i 0 → true ≡ over_applied p (min 8 relations) applied
    unfolding over_applied
    over_found relations g t =
        some_found (over_at p applied) end i l h (over t) ∙ rw g (sym (any_numbers (over_at p applied) 0 (min 8 relations)))

  pub over_none : (relations : ℕ) → end ≡ min 8 relations → end ≤ i → false ≡ over_applied p (min 8 relations) applied
  unfolding over_applied
  over_none relations g t = some_none (over_at p applied) end i l t ∙ rw g (sym (any_numbers (over_at p applied) 0 (min 8 relations)))

-- ---- each return

module _ (x : End) (r : Result Papers Refusal) (g : r ≡ taken_of (papers_of x.envelope x.program)) where
  abbrev after : Papers → ℕ → Outcome Papers
  after q p =
      judged (test (over_applied q.program (relation_count q.envelope) x.applied) BeyondLimit 0 ∷ []) (good q p)

  pub sound_refused : (y : Refusal) → r ≡ Err y → Err y ≡ taken_of (sound_end x)
  unfolding sound_end taken_of
  sound_refused y h = sym (rw (value_bad (papers_of x.envelope x.program) r y g h) refl)

  module _ (q : Papers) (h : r ≡ Ok q) where
    found : (p : ℕ) × (papers_of x.envelope x.program ≡ good q p)
    found = value_good (papers_of x.envelope x.program) r q g h

    checked : sound_end x ≡ after q found.0
    unfolding sound_end
    checked = ap (λ (o : Outcome Papers). next o after) found.1

    module _ (b : Bool) (f : b ≡ over_applied q.program (min 8 q.envelope.relation_count) x.applied) where
      pub sound_over : b ≡ true → Err (refusal BeyondLimit 0) ≡ taken_of (sound_end x)
      unfolding taken_of
      sound_over t = rw (checked, ← f, t)

      pub sound_good : b ≡ false → Ok q ≡ taken_of (sound_end x)
      unfolding taken_of
      sound_good t = rw (checked, ← f, t)

-- ---- then the tables and the marks

module _ (x : End) (words : List ℕ) (n : ℕ) (r : Result Papers Refusal) (g : r ≡ taken_of (sound_end x)) where
  abbrev then : Papers → ℕ → Outcome Papers
  then q p = judged (marks_tests q.envelope words n) (good q p)

  pub usable_refused : (y : Refusal) → r ≡ Err y → Err y ≡ taken_of (usable x words n)
  unfolding usable taken_of
  usable_refused y h = sym (rw (value_bad (sound_end x) r y g h) refl)

  module _ (q : Papers) (h : r ≡ Ok q) (v : Verdict) (f : v ≡ judgement (marks_tests q.envelope words n)) where
    read : (p : ℕ) × (sound_end x ≡ good q p)
    read = value_good (sound_end x) r q g h

    with_marks : usable x words n ≡ then q read.0
    unfolding usable
    with_marks = ap (λ (o : Outcome Papers). next o then) read.1

    pub usable_marks : (y : Refusal) → v ≡ Err y → Err y ≡ taken_of (usable x words n)
    unfolding taken_of
    usable_marks y t =
        ap taken_of (sym (with_marks ∙ judge_refused (marks_tests q.envelope words n) v f (good q read.0) y.reason y.position t))

    pub usable_good : v ≡ Ok (tt {0}) → Ok q ≡ taken_of (usable x words n)
    unfolding taken_of
    usable_good t = ap taken_of (sym (with_marks ∙ judge_taken (marks_tests q.envelope words n) v f (good q read.0) t))

-- what is known of the papers that come out
pub sound_good_papers : (x : End) (q : Papers) (u : ℕ) → sound_end x ≡ good q u → GoodPapers q
unfolding sound_end
sound_good_papers x q u h =
    let (f, w, read, rest) = next_good (papers_of x.envelope x.program) _ q u h in
    let t =
    ((judged_good (test (over_applied f.program (relation_count f.envelope) x.applied) BeyondLimit 0 ∷ []) (good f w) q u).0 rest).1 in
    let same : f ≡ q = cc in
    rw same at (papers_sound x.envelope x.program f w read)

pub usable_is : (x : End) (words : List ℕ) (n : ℕ) (q : Papers) (u : ℕ) → usable x words n ≡ good q u → Usable q words n
unfolding usable
usable_is x words n q u h =
    let (f, w, read, rest) = next_good (sound_end x) _ q u h in
    let t = (judged_good (marks_tests f.envelope words n) (good f w) q u).0 rest in
    let same : f ≡ q = let s : good f w ≡ good q u = t.1 in cc in
    let p = (marks_pass f.envelope words n).0 t.0 in
    let found : Usable f words n = record { papers = sound_good_papers x f w read; shape = p.0; room = p.1 } in
    rw same at found

pub usable_known : (x : End) (words : List ℕ) (n : ℕ) (r : Result Papers Refusal) → r ≡ taken_of (usable x words n) → (q : Papers) → r ≡ Ok q
    → Usable q words n
usable_known x words n r g q h = let (p, taken) = value_good (usable x words n) r q g h in usable_is x words n q p taken

-- a call that begins so: refused, or by the papers
module _ {A : Type 0} (with : Papers → Outcome A) (x : End) (words : List ℕ) (n : ℕ) (r : Result Papers Refusal)
    (g : r ≡ taken_of (usable x words n)) where
  pub call_refused : (y : Refusal) → r ≡ Err y → next (usable x words n) (λ q _. with q) ≡ bad y.reason y.position
  call_refused y h = ap (λ (o : Outcome Papers). next o (λ q _. with q)) (value_bad (usable x words n) r y g h)

  pub call_with : (q : Papers) → r ≡ Ok q → next (usable x words n) (λ q _. with q) ≡ with q
  call_with q h = ap (λ (o : Outcome Papers). next o (λ q _. with q)) (value_good (usable x words n) r q g h).1

-- the steps of such papers are legal
pub step_legal : (q : Papers) → GoodPapers q → (n : ℕ) → n < step_count q.program → LegalStep q.envelope (step_of q.program n)
unfolding step_of
step_legal q g n h =
    legal_step q.envelope (get_or (steps_of q.program) n no_step)
    (every_get_d (λ (s : Step). legal q.envelope s ≡ true) (steps_of q.program) n no_step h g.acceptable.steps)

-- a relation that is here is one of the envelope's
pub here_below : (e : Envelope) (site r : ℕ) → is_at e site r ≡ true → r < relation_count e
unfolding is_at
here_below e site r t = ltb-true _ _ (and_left _ _ t)

-- ---- an end that was opened: no step is applied, and no row message has arrived

-- eight times the same reads as that everywhere
eight : {A : Type 0} (v : A) (r : ℕ) → get_or (replicate 8 v) r v ≡ v
eight v r =
    split 8 r
    (λ h. let few : length (replicate 8 v) ≤ r = omega (arith, h, length-replicate 8 v) in get_or-eq_default (replicate 8 v) v few)
    (λ h. get_or-replicate 8 r v v h)

pub no_steps : (r : ℕ) → ◌≡◌ {A = ℕ} (get_or (replicate 8 0) r 0) 0
no_steps r = eight 0 r

pub none_arrived : (r : ℕ) → get_or (replicate 8 false) r false ≡ false
none_arrived r = eight false r
