-- What a taken message leaves as it was: the end's papers, site and run, the lengths of marks and store; and a sound end stays
-- sound.
use mathlib.Core.Path.{◌≡◌, sym, ap, ◌∙◌}
use mathlib.Core.Bool.{true}
use mathlib.Core.List.{List}
use mathlib.Core.Logic.{inl, inr}
use Prim.Native.Nat.{ℕ, ◌+◌, ◌≤◌, ◌<◌}
use native.Mathlib.Omega.{arith}
use lib.ListN.{length, get_or, set, length-set}
use lib.Seq.{length-sets}
use Rattle.ground.specs.Outcome.Outcome.{good}
use Rattle.ground.proofs.OutcomeLaws.{next_good}
use Rattle.contents.specs.Parts.{relation_count}
use Rattle.semijoin.proofs.PromiseLaws.{promise}
use Rattle.ends.specs.Reducing.{step_count, step_of, steps_before}
use Rattle.ends.specs.Ends.{applied_of, usable, papers_of_end, Sound}
use Rattle.ends.specs.Messages.{body_of}
use Rattle.station.specs.Receiving.{Held, applied_to, with_applied, with_arrived, receive_with, receive_of}
use Rattle.ends.specs.declared.ends.End.{End}
use Rattle.ends.proofs.EndLaws.{here_below}
use Rattle.ends.proofs.ReducingLaws.{applied_within}
use Rattle.ends.proofs.SoundLaws.{own_papers_lem}
use Rattle.station.proofs.ReceivingLaws.{StepTaken, RowsTaken, Taken, with_facts}

-- an end afterwards, and what was lent
pub record Stays (x : End) (marks store : List ℕ) (h : Held) : Type 0 where
  pub papers : papers_of_end h.end ≡ papers_of_end x
  pub site : h.end.site ≡ x.site
  pub run : h.end.run ≡ x.run
  pub marks_long : length h.marks ≡ length marks
  pub store_long : length h.store ≡ length store

module _ (x : End) (words marks store m : List ℕ) where
  step_stays : (n : ℕ) (h : Held) → StepTaken (papers_of_end x) x words marks m n h.end h.marks → h.store ≡ store → Stays x marks store h
  unfolding with_applied applied_to
  step_stays n h t s =
      record {
        papers = ap papers_of_end t.end;
        site = ap (λ (y : End). y.site) t.end;
        run = ap (λ (y : End). y.run) t.end;
        marks_long =
            ap (λ (l : List ℕ). length l) t.marked
            ∙ (promise x.envelope).as_many words (body_of m) marks (step_of x.program n).left;
        store_long = ap (λ (l : List ℕ). length l) s;
      }

  rows_stay : (r : ℕ) (h : Held) → RowsTaken (papers_of_end x) x store m r h.end h.store → h.marks ≡ marks → Stays x marks store h
  unfolding with_arrived
  rows_stay r h t s =
      record {
        papers = ap papers_of_end t.end;
        site = ap (λ (y : End). y.site) t.end;
        run = ap (λ (y : End). y.run) t.end;
        marks_long = ap (λ (l : List ℕ). length l) s;
        store_long = ap (λ (l : List ℕ). length l) t.stored ∙ length-sets store x.used m;
      }

  module _ (sound : Sound x (length store)) where
    -- one more step of a relation: no more than the program has of it
    more_counts : (n : ℕ) (h : Held) → StepTaken (papers_of_end x) x words marks m n h.end h.marks → (r : ℕ) → r < relation_count x.envelope
        → get_or (set x.applied (step_of x.program n).left.relation (applied_of x (step_of x.program n).left.relation + 1)) r 0
        ≤ steps_before x.program r (step_count x.program)
    more_counts n h t r k =
        let own = (step_of x.program n).left.relation in
        let inside : own < length x.applied = omega (arith, here_below x.envelope x.site own t.here, sound.eight.0) in
        applied_within x.program x.applied n t.exists inside (sym t.due) r (sound.counts r k)

    step_sound : (n : ℕ) (h : Held) → StepTaken (papers_of_end x) x words marks m n h.end h.marks → h.store ≡ store → Sound h.end (length h.store)
    unfolding with_applied applied_to
    step_sound n h t s =
        let own = (step_of x.program n).left.relation in
        rw (t.end, s)
        (record {
          papers = sound.papers;
          counts = more_counts n h t;
          eight = (length-set x.applied own (applied_of x own + 1) ∙ sound.eight.0, sound.eight.1);
          held = sound.held;
        })

    rows_sound : (r : ℕ) (h : Held) → RowsTaken (papers_of_end x) x store m r h.end h.store → Sound h.end (length h.store)
    unfolding with_arrived
    rows_sound r h t =
        rw (t.end, t.stored, length-sets store x.used m)
        (record {
          papers = sound.papers;
          counts = sound.counts;
          eight = (sound.eight.0, length-set x.arrived r true ∙ sound.eight.1);
          held = t.fits;
        })

    by_kind : (h : Held) → Taken (papers_of_end x) x words marks store m h → Sound h.end (length h.store) × Stays x marks store h
    by_kind h (inl (n, _, t, s)) = (step_sound n h t s, step_stays n h t s)
    by_kind h (inr (r, _, t, s)) = (rows_sound r h t, rows_stay r h t s)

    pub received_sound : (h : Held) (u : ℕ) → receive_of x words marks store m ≡ good h u
        → Sound h.end (length h.store) × Stays x marks store h
    unfolding receive_of
    received_sound h u e =
        let (q, at, fine, rest) = next_good (usable x words (length marks)) _ h u e in
        let own : q ≡ papers_of_end x = own_papers_lem x (length store) sound words (length marks) q at fine in
        let mine : receive_with (papers_of_end x) x words marks store m ≡ good h u = rw own at rest in
        by_kind h (with_facts (papers_of_end x) x words marks store m h u mine).2
