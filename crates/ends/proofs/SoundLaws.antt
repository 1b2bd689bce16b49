-- A sound end: its papers are taken as they stand, so that with tables of the shape and marks enough a call works on them.
use mathlib.Core.Path.{◌≡◌, refl, ap, sym, ◌∙◌}
use mathlib.Core.Bool.{true, false}
use mathlib.Core.List.Memᴰ
use mathlib.Core.List.{List, [], ◌∷◌, Memᴰ}
use mathlib.Core.Logic.{◌⊎◌, inl, inr}
use Prim.Native.Nat.{ℕ, ◌≤◌, ◌<◌}
use native.Mathlib.Omega.{arith}
use lib.ListN.{length, get_or}
use borrow.Author.Tests.{ltb-true}
use Rattle.ground.specs.Lists.{below}
use Rattle.ground.specs.Outcome.{Outcome, next}
use Rattle.ground.specs.Outcome.Outcome.{good, bad}
use Rattle.ground.specs.Refusing.{test, judged}
use Rattle.ground.proofs.OutcomeLaws.{next_good, next_bad}
use Rattle.ground.proofs.ListLaws.{any_from}
use Rattle.ground.proofs.NumbersLaws.{below_from}
use Rattle.ground.proofs.RefusingLaws.{judged_good, judged_none, refusal_listed}
use Rattle.ground.proofs.TestLaws.{not_holds}
use Rattle.ground.specs.declared.refusals.Reason.TheVariants.{BeyondLimit, WrongShape, TooShort}
use Rattle.contents.specs.Parts.{relation_count}
use Rattle.papers.specs.Programs.{program_bytes}
use Rattle.papers.specs.Checks.{papers_of}
use Rattle.papers.specs.declared.programs.Program.{Program}
use Rattle.papers.specs.declared.checks.Papers.{Papers}
use Rattle.papers.proofs.CheckLaws.{papers_complete}
use Rattle.tables.specs.Offsets.{row_count}
use Rattle.tables.specs.Shape.{shaped, marks_tests}
use Rattle.tables.proofs.JudgedLaws.{marks_pass}
use Rattle.ends.specs.Reducing.{step_count, steps_before}
use Rattle.ends.specs.Ends.{over_at, over_applied, sound_end, usable, papers_of_end, Sound}
use Rattle.ends.specs.declared.ends.End.{End}
use Rattle.ground.specs.declared.refusals.Reason.{Reason}

-- ---- counts of applied steps

-- exactly where no relation has too many
module _ (p : Program) (relations : ℕ) (applied : List ℕ) where
  pub not_over : ((r : ℕ) → r < relations → get_or applied r 0 ≤ steps_before p r (step_count p)) → over_applied p relations applied ≡ false
  unfolding over_applied over_at
  not_over h =
      not_holds _ λ t.
      let (r, m, over) = any_from (over_at p applied) (below relations) t in
      let more : steps_before p r (step_count p) < get_or applied r 0 = ltb-true _ _ over in
      absurd (omega (arith, h r (below_from relations m)))

-- ---- a sound end is usable

module _ (x : End) (room : ℕ) (s : Sound x room) where
  pub sound_taken : sound_end x ≡ good (papers_of_end x) (length (program_bytes x.program))
  unfolding sound_end
  sound_taken =
      let none : over_applied x.program (relation_count x.envelope) x.applied ≡ false =
      not_over x.program (relation_count x.envelope) x.applied s.counts in
      rw (papers_complete (papers_of_end x) s.papers, none)

  module _ (words : List ℕ) (n : ℕ) (shape : shaped x.envelope words ≡ true) (enough : row_count x.envelope words ≤ n) where
    pub sound_usable : usable x words n ≡ good (papers_of_end x) (length (program_bytes x.program))
    unfolding usable
    sound_usable =
        ap (λ (o : Outcome Papers). next o (λ q p. judged (marks_tests q.envelope words n) (good q p))) sound_taken
        ∙ judged_none (marks_tests x.envelope words n) (good (papers_of_end x) (length (program_bytes x.program)))
        ((marks_pass x.envelope words n).1 (shape, enough))

    -- so a call works on the papers as they stand
    pub sound_call : {A : Type 0} (with : Papers → Outcome A) → next (usable x words n) (λ q _. with q) ≡ with (papers_of_end x)
    sound_call with = ap (λ (o : Outcome Papers). next o (λ q _. with q)) sound_usable

-- and where a call on a sound end goes on, it is with its own papers
pub own_papers_lem : (x : End) (room : ℕ) → Sound x room → (words : List ℕ) (n : ℕ) (q : Papers) (u : ℕ) → usable x words n ≡ good q u → q ≡ papers_of_end x
unfolding usable
own_papers_lem x room s words n q u h =
    let (f, w, read, rest) = next_good (sound_end x) _ q u h in
    let (none, made) = (judged_good (marks_tests f.envelope words n) (good f w) q u).0 rest in
    let own : good f w ≡ good (papers_of_end x) (length (program_bytes x.program)) = sym read ∙ sound_taken x room s in
    let same : f ≡ papers_of_end x = cc in
    let that : f ≡ q = cc in
    sym that ∙ same

-- ---- any end: by which numbers a call is refused before anything else

abbrev pub first_numbers : List Reason
first_numbers = BeyondLimit ∷ WrongShape ∷ TooShort ∷ []

-- an end that is not sound: the papers' own refusal, or 4 at 0
pub sound_number : (x : End) (m : Reason) (p : ℕ) → sound_end x ≡ bad m p
    → (papers_of x.envelope x.program ≡ bad m p) ⊎ (Memᴰ m (BeyondLimit ∷ []) × (p ≡ 0))
unfolding sound_end
sound_number x m p h = go (next_bad (papers_of x.envelope x.program) _ m p h)
  where
    go : (papers_of x.envelope x.program ≡ bad m p)
        ⊎ ((q : Papers) × (u : ℕ) × (papers_of x.envelope x.program ≡ good q u)
        × (judged (test (over_applied q.program (relation_count q.envelope) x.applied) BeyondLimit 0 ∷ []) (good q u) ≡ bad m p))
        → (papers_of x.envelope x.program ≡ bad m p) ⊎ (Memᴰ m (BeyondLimit ∷ []) × (p ≡ 0))
    go (inl k) = inl k
    go (inr (q, u, _, k)) =
        inr (refusal_listed (test (over_applied q.program (relation_count q.envelope) x.applied) BeyondLimit 0 ∷ []) q u m p (refl, tt) k)

module _ (x : End) (words : List ℕ) (n : ℕ) (m : Reason) (p : ℕ) where
  abbrev pub ToldFirst : Type 0
  ToldFirst = (papers_of x.envelope x.program ≡ bad m p) ⊎ (Memᴰ m first_numbers × (p ≡ 0))

  -- the papers' own refusal, or 4, 10, 11 at 0
  pub usable_number : usable x words n ≡ bad m p → ToldFirst
  unfolding usable
  usable_number h = marked (next_bad (sound_end x) _ m p h)
    where
      first : (papers_of x.envelope x.program ≡ bad m p) ⊎ (Memᴰ m (BeyondLimit ∷ []) × (p ≡ 0)) → ToldFirst
      first (inl k) = inl k
      first (inr (listed, zero)) = inr (Memᴰ.append_left (WrongShape ∷ TooShort ∷ []) listed, zero)

      marked : (sound_end x ≡ bad m p) ⊎ ((q : Papers) × (u : ℕ) × (sound_end x ≡ good q u) × (judged (marks_tests q.envelope words n) (good q u) ≡ bad m p))
          → ToldFirst
      marked (inl k) = first (sound_number x m p k)
      marked (inr (q, u, _, k)) =
          let (listed, zero) = refusal_listed (marks_tests q.envelope words n) q u m p (refl, (refl, tt)) k in
          inr (Memᴰ.tail listed, zero)

  -- a call that begins so: that, or what is told by the refusal of what it does with the papers
  pub call_number : {A Told : Type 0} (with : Papers → Outcome A) → ((q : Papers) → with q ≡ bad m p → Told)
      → next (usable x words n) (λ q _. with q) ≡ bad m p → ToldFirst ⊎ Told
  call_number {A} {Told} with tell h = go (next_bad (usable x words n) _ m p h)
    where
      go : (usable x words n ≡ bad m p) ⊎ ((q : Papers) × (u : ℕ) × (usable x words n ≡ good q u) × (with q ≡ bad m p)) → ToldFirst ⊎ Told
      go (inl k) = inl (usable_number k)
      go (inr (q, _, _, k)) = inr (tell q k)
