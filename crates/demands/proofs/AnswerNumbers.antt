-- Answering is refused by the numbers that 01 lists: on tables by the envelope's, 10 and 11; at an end by its papers', 4, 14, 15, 12 and 11.
use mathlib.Core.Path.{◌≡◌, refl}
use mathlib.Core.Bool.{Bool, false, not}
use mathlib.Core.List.Memᴰ
use mathlib.Core.List.{List, [], ◌∷◌, map, Memᴰ}
use mathlib.Core.Logic.{◌⊎◌, inl, inr}
use Prim.Native.Nat.{ℕ, zero, suc}
use lib.ListN.{length, get_or, take, drop, set, replicate}
use lib.Dec.{eqb, ltb}
use Rattle.ground.specs.Lists.{Every}
use Rattle.ground.specs.Outcome.{Outcome, next}
use Rattle.ground.specs.Outcome.Outcome.{good, bad}
use Rattle.ground.specs.Refusing.{Test, test, judged}
use Rattle.ground.proofs.EveryLaws.{every_at}
use Rattle.ground.proofs.OutcomeLaws.{good_bad, next_bad, turned_bad}
use Rattle.ground.proofs.RefusingLaws.{judged_number}
use Rattle.ground.specs.declared.refusals.Reason.TheVariants.{BeyondLimit, WrongShape, TooShort, Waiting, NotOurs, NotSound}
use Rattle.fields.specs.Puts.{fitted}
use Rattle.fields.proofs.PutLaws.{fitted_bad}
use Rattle.contents.specs.Parts.{relation_count}
use Rattle.contents.specs.Kept.{kept_columns}
use Rattle.contents.specs.declared.envelope.Envelope.{Envelope}
use Rattle.envelopes.specs.Envelope.{check_envelope}
use Rattle.paths.specs.Meaning.{answer_words}
use Rattle.papers.specs.declared.checks.Papers.{Papers}
use Rattle.tables.specs.Shape.{shape_test}
use Rattle.ends.specs.Ends.{assembly_test, sound_end}
use Rattle.ends.specs.Messages.{run_of, second_of, about_of, counted}
use Rattle.ends.specs.declared.messages.About.{About}
use Rattle.ends.specs.declared.messages.About.TheVariants.{Step, Rows, Nothing}
use Rattle.ends.specs.declared.ends.End.{End}
use Rattle.ends.proofs.SoundLaws.{sound_number}
use Rattle.answerer.specs.Answer.{answer_checked, answer_outcome}
use Rattle.answerer.specs.Stores.{row_message_length, met_by, message_at, due_in, lay_stored, lays_from, source_held, source_of, held_by}
use Rattle.answerer.specs.Sources.{no_lay}
use Rattle.answerer.specs.Assembly.{first_awaited, source_answer, assembled, assembled_with, assembled_outcome}
use Rattle.answerer.specs.declared.sources.Lay.{Lay}
use Rattle.answerer.specs.declared.sources.Source.{Source}
use Rattle.demands.specs.DemandOne.{own_papers}
use Rattle.ground.specs.declared.refusals.Reason.{Reason}

-- ---- answering on tables

checked_number : (e : Envelope) (words out : List ℕ) (n : Reason) (u : ℕ) → answer_checked e words (length out) ≡ bad n u → Memᴰ n (WrongShape ∷ TooShort ∷ [])
unfolding answer_checked
checked_number e words out n u h = go (judged_number (shape_test e words ∷ []) (fitted (length out) (answer_words e words)) n u h)
  where
    go : Memᴰ n (WrongShape ∷ []) ⊎ (fitted (length out) (answer_words e words) ≡ bad n u) → Memᴰ n (WrongShape ∷ TooShort ∷ [])
    go (inl m) = Memᴰ.append_left (TooShort ∷ []) m
    go (inr k) = Memᴰ.tail (fitted_bad (length out) (answer_words e words) n u k).0

pub tables_number : (e : Envelope) (words out : List ℕ) (n : Reason) (u : ℕ) → answer_outcome e words (length out) ≡ bad n u
    → (check_envelope e ≡ bad n u) ⊎ Memᴰ n (WrongShape ∷ TooShort ∷ [])
unfolding answer_outcome
tables_number e words out n u h = go (next_bad (check_envelope e) _ n u h)
  where
    go : (check_envelope e ≡ bad n u) ⊎ ((f : Envelope) × (p : ℕ) × (check_envelope e ≡ good f p) × (answer_checked f words (length out) ≡ bad n u))
        → (check_envelope e ≡ bad n u) ⊎ Memᴰ n (WrongShape ∷ TooShort ∷ [])
    go (inl k) = inl k
    go (inr (f, p, _, k)) = inr (checked_number f words out n u k)

-- ---- answering at an end: a store that is not sound is 15 whatever is wrong with it

-- tests that all have one number, and what comes after has it too
one_number : {A : Type 0} (k : Reason) (ts : List Test) (o : Outcome A) → Every (λ (x : Reason). x ≡ k) (map (λ (t : Test). t.reason) ts)
    → ((n : Reason) (u : ℕ) → o ≡ bad n u → n ≡ k) → (n : Reason) (u : ℕ) → judged ts o ≡ bad n u → n ≡ k
one_number k ts o same rest n u h = go (judged_number ts o n u h)
  where
    go : Memᴰ n (map (λ (t : Test). t.reason) ts) ⊎ (o ≡ bad n u) → n ≡ k
    go (inl m) = every_at (λ (x : Reason). x ≡ k) (map (λ (t : Test). t.reason) ts) same m
    go (inr z) = rest n u z

bad_number : {A : Type 0} (k : Reason) (q : ℕ) (n : Reason) (u : ℕ) → ◌≡◌ {A = Outcome A} (bad k q) (bad n u) → n ≡ k
bad_number k q n u h = cc

module _ (e : Envelope) (run : ℕ) (words : List ℕ) where
  met_number : (due : List Bool) (m : List ℕ) (at : ℕ) (w : About) (n : Reason) (u : ℕ) → met_by e due m at w ≡ bad n u → n ≡ NotSound
  unfolding met_by
  met_number due m at (Rows r) n u h =
      one_number NotSound
      (test (not (get_or due r false)) NotSound 0 ∷ test (not (counted (length (kept_columns e r)) (take (row_message_length e r m) m))) NotSound 0 ∷ [])
      (good r _) (refl, (refl, tt)) (λ n u z. absurd (good_bad r _ n u z)) n u h
  met_number due m at (Step k) n u h = bad_number NotSound 0 n u h
  met_number due m at Nothing n u h = bad_number NotSound 0 n u h

  message_number : (due : List Bool) (at : ℕ) (n : Reason) (u : ℕ) → message_at e run words due at ≡ bad n u → n ≡ NotSound
  unfolding message_at
  message_number due at n u h =
      let m = drop at words in
      one_number NotSound (test (ltb (length m) 3) NotSound 0 ∷ test (not (eqb (run_of m) run)) NotSound 0 ∷ [])
      (met_by e due m at (about_of 0 (relation_count e) (second_of m))) (refl, (refl, tt))
      (met_number due m at (about_of 0 (relation_count e) (second_of m))) n u h

  lays_number : (k : ℕ) (due : List Bool) (lays : List Lay) (at : ℕ) (n : Reason) (u : ℕ) → lays_from e run words k due lays at ≡ bad n u → n ≡ NotSound
  unfolding lays_from
  lays_number zero due lays at n u h =
      one_number NotSound (test (not (eqb at (length words))) NotSound 0 ∷ []) (good lays at) (refl, tt) (λ n u z. absurd (good_bad lays at n u z)) n u h
  lays_number (suc k) due lays at n u h =
      go (next_bad (message_at e run words due at) _ n u h) (λ r past. lays_number k (set due r false) (set lays r (lay_stored e words r at)) past n u)
    where
      go : (message_at e run words due at ≡ bad n u)
          ⊎ ((r : ℕ) × (past : ℕ) × (message_at e run words due at ≡ good r past)
          × (lays_from e run words k (set due r false) (set lays r (lay_stored e words r at)) past ≡ bad n u))
          → ((r past : ℕ) → lays_from e run words k (set due r false) (set lays r (lay_stored e words r at)) past ≡ bad n u → n ≡ NotSound)
          → n ≡ NotSound
      go (inl z) rest = message_number due at n u z
      go (inr (r, past, _, z)) rest = rest r past z

  held_number : (arrived : List Bool) (n : Reason) (u : ℕ) → source_held e run arrived words ≡ bad n u → n ≡ NotSound
  unfolding source_held
  held_number arrived n u h =
      lays_number (due_in e arrived) arrived (replicate 8 no_lay) 0 n u
      (turned_bad _ (lays_from e run words (due_in e arrived) arrived (replicate 8 no_lay) 0) n u h)

source_number : (e : Envelope) (x : End) (store : List ℕ) (n : Reason) (u : ℕ) → source_of e x store ≡ bad n u → n ≡ NotSound
unfolding source_of
source_number e x store n u h =
    one_number NotSound (test (ltb (length store) x.used) NotSound 0 ∷ []) (source_held e x.run x.arrived (held_by x store)) (refl, tt)
    (held_number e x.run (held_by x store) x.arrived) n u h

assembled_number : (e : Envelope) (arrived : List Bool) (s : Source) (words out : List ℕ) (n : Reason) (u : ℕ) → assembled e arrived s words (length out) ≡ bad n u
    → Memᴰ n (Waiting ∷ TooShort ∷ [])
unfolding assembled
assembled_number e arrived s words out n u h =
    go
    (judged_number (test (ltb (first_awaited e arrived) (relation_count e)) Waiting (first_awaited e arrived) ∷ []) (fitted (length out) (source_answer e s words)) n u h)
  where
    go : Memᴰ n (Waiting ∷ []) ⊎ (fitted (length out) (source_answer e s words) ≡ bad n u) → Memᴰ n (Waiting ∷ TooShort ∷ [])
    go (inl m) = Memᴰ.append_left (TooShort ∷ []) m
    go (inr k) = Memᴰ.tail (fitted_bad (length out) (source_answer e s words) n u k).0

with_number : (q : Papers) (x : End) (store out : List ℕ) (n : Reason) (u : ℕ) → assembled_with q x store (length out) ≡ bad n u
    → Memᴰ n (NotOurs ∷ NotSound ∷ Waiting ∷ TooShort ∷ [])
unfolding assembled_with
with_number q x store out n u h = go (judged_number (assembly_test q x ∷ []) _ n u h)
  where
    rest : (source_of q.envelope x store ≡ bad n u)
        ⊎ ((s : Source) × (p : ℕ) × (source_of q.envelope x store ≡ good s p) × (assembled q.envelope x.arrived s (held_by x store) (length out) ≡ bad n u))
        → Memᴰ n (NotSound ∷ Waiting ∷ TooShort ∷ [])
    rest (inl z) = Memᴰ.head (source_number q.envelope x store n u z)
    rest (inr (s, p, _, z)) = Memᴰ.tail (assembled_number q.envelope x.arrived s (held_by x store) out n u z)

    go : Memᴰ n (NotOurs ∷ [])
        ⊎ (next (source_of q.envelope x store) (λ s _. assembled q.envelope x.arrived s (held_by x store) (length out)) ≡ bad n u)
        → Memᴰ n (NotOurs ∷ NotSound ∷ Waiting ∷ TooShort ∷ [])
    go (inl m) = Memᴰ.append_left (NotSound ∷ Waiting ∷ TooShort ∷ []) m
    go (inr z) = Memᴰ.tail (rest (next_bad (source_of q.envelope x store) _ n u z))

pub end_number : (x : End) (store out : List ℕ) (n : Reason) (u : ℕ) → assembled_outcome x store (length out) ≡ bad n u
    → (own_papers x ≡ bad n u) ⊎ Memᴰ n (BeyondLimit ∷ NotOurs ∷ NotSound ∷ Waiting ∷ TooShort ∷ [])
unfolding assembled_outcome
end_number x store out n u h = go (next_bad (sound_end x) _ n u h)
  where
    first : (own_papers x ≡ bad n u) ⊎ (Memᴰ n (BeyondLimit ∷ []) × (u ≡ 0))
        → (own_papers x ≡ bad n u) ⊎ Memᴰ n (BeyondLimit ∷ NotOurs ∷ NotSound ∷ Waiting ∷ TooShort ∷ [])
    first (inl k) = inl k
    first (inr (listed, _)) = inr (Memᴰ.append_left (NotOurs ∷ NotSound ∷ Waiting ∷ TooShort ∷ []) listed)

    go : (sound_end x ≡ bad n u) ⊎ ((q : Papers) × (p : ℕ) × (sound_end x ≡ good q p) × (assembled_with q x store (length out) ≡ bad n u))
        → (own_papers x ≡ bad n u) ⊎ Memᴰ n (BeyondLimit ∷ NotOurs ∷ NotSound ∷ Waiting ∷ TooShort ∷ [])
    go (inl z) = first (sound_number x n u z)
    go (inr (q, p, _, z)) = inr (Memᴰ.tail (with_number q x store out n u z))
