-- What making a message says: where it is taken, its facts, and where these hold it is; where it is refused, by which
-- number. That nothing changed then is `leaves_refused` (ground).
use mathlib.Core.Path.{◌≡◌}
use mathlib.Core.Bool.{Bool, true, ◌&&◌}
use mathlib.Core.List.Memᴰ
use mathlib.Core.List.{List, [], ◌∷◌, Memᴰ}
use mathlib.Core.Logic.{◌⊎◌, inl, inr}
use Prim.Native.Nat.{ℕ, ◌≤◌, ◌<◌}
use lib.ListN.{length, get_or}
use lib.Dec.{ltb}
use borrow.Author.Tests.{ltb-true, ltb-false, lt-ltb, le-ltb, not-false}
use Rattle.ground.specs.Outcome.{Outcome}
use Rattle.ground.specs.Outcome.Outcome.{good, bad}
use Rattle.ground.specs.Refusing.{judged}
use Rattle.ground.proofs.OutcomeLaws.{next_good}
use Rattle.ground.proofs.RefusingLaws.{judged_good, judged_number, each_passes}
use Rattle.ground.proofs.TestLaws.{and_left, and_right, and_both}
use Rattle.ground.specs.declared.refusals.Reason.TheVariants.{TooShort, Waiting, NotOurs}
use Rattle.fields.specs.Puts.{fitted}
use Rattle.fields.proofs.PutLaws.{fitted_good, fitted_bad}
use Rattle.contents.specs.Sites.{is_at}
use Rattle.papers.specs.declared.programs.Program.{Program}
use Rattle.papers.specs.declared.checks.Papers.{Papers}
use Rattle.tables.specs.Offsets.{row_count}
use Rattle.tables.specs.Shape.{shaped}
use Rattle.tables.specs.Values.{rising_values}
use Rattle.ends.specs.Reducing.{step_count, step_of, steps_before, is_missing}
use Rattle.ends.specs.Ends.{applied_of, usable, Usable, papers_of_end, Sound}
use Rattle.ends.specs.Messages.{value_message, row_message}
use Rattle.station.specs.Making.{send_tests, values_with, make_values_of, sent_rows, rows_with, make_rows_of}
use Rattle.ends.specs.declared.ends.End.{End}
use Rattle.ends.proofs.EndLaws.{usable_is}
use Rattle.ends.proofs.SoundLaws.{ToldFirst, call_number, sound_call}
use Rattle.ground.specs.declared.refusals.Reason.{Reason}

-- ---- 14, 12, 11, of any message

module _ (p : Program) (applied : List ℕ) (ours : Bool) (r n room : ℕ) (w : List ℕ) where
  abbrev sending : Outcome (List ℕ)
  sending = judged (send_tests p applied ours r n) (fitted room w)

  sent_facts : (m : List ℕ) (u : ℕ) → sending ≡ good m u
      → (ours ≡ true) × (steps_before p r n ≤ get_or applied r 0) × (m ≡ w) × (length m ≤ room) × (u ≡ length m)
  unfolding is_missing
  sent_facts m u h =
      let (none, rest) = (judged_good (send_tests p applied ours r n) (fitted room w) m u).0 h in
      let passed = each_passes (send_tests p applied ours r n) none in
      let (same, enough, long) = fitted_good room w m u rest in
      (not-false _ passed.0, ltb-false _ _ passed.1.0, same, rw same enough, rw same long)

  -- and where these hold it is sent
  sent_goes : ours ≡ true → steps_before p r n ≤ get_or applied r 0 → length w ≤ room → sending ≡ good w (length w)
  unfolding fitted is_missing
  sent_goes here ready fits = rw (here, le-ltb (get_or applied r 0) (steps_before p r n) ready, le-ltb room (length w) fits)

  sent_number : (k : Reason) (u : ℕ) → sending ≡ bad k u → Memᴰ k (NotOurs ∷ Waiting ∷ TooShort ∷ [])
  sent_number k u h = go (judged_number (send_tests p applied ours r n) (fitted room w) k u h)
    where
      go : Memᴰ k (NotOurs ∷ Waiting ∷ []) ⊎ (fitted room w ≡ bad k u) → Memᴰ k (NotOurs ∷ Waiting ∷ TooShort ∷ [])
      go (inl m) = Memᴰ.append_left (TooShort ∷ []) m
      go (inr e) = Memᴰ.tail (Memᴰ.tail (fitted_bad room w k u e).0)

-- ---- a value message

pub record ValuesMade (q : Papers) (x : End) (words marks : List ℕ) (n : ℕ) (m : List ℕ) : Type 0 where
  pub exists : n < step_count q.program
  pub here : is_at q.envelope x.site (step_of q.program n).right.relation ≡ true
  pub ready : steps_before q.program (step_of q.program n).right.relation n ≤ applied_of x (step_of q.program n).right.relation
  pub is : m ≡ value_message x.run n (rising_values q.envelope words marks (step_of q.program n).right)

module _ (x : End) (words marks : List ℕ) (n room : ℕ) where
  pub with_values : (q : Papers) (m : List ℕ) (u : ℕ) → values_with q x words marks n room ≡ good m u
      → ValuesMade q x words marks n m × (length m ≤ room) × (u ≡ length m)
  unfolding values_with
  with_values q m u h =
      let r = (step_of q.program n).right.relation in
      let (ours, ready, is, fits, long) =
      sent_facts q.program x.applied (ltb n (step_count q.program) && is_at q.envelope x.site r) r n room
      (value_message x.run n (rising_values q.envelope words marks (step_of q.program n).right)) m u h in
      (record { exists = ltb-true _ _ (and_left _ _ ours); here = and_right (ltb n (step_count q.program)) _ ours; ready = ready; is = is }, fits, long)

  pub values_go : (q : Papers) (m : List ℕ) → ValuesMade q x words marks n m → length m ≤ room → values_with q x words marks n room ≡ good m (length m)
  unfolding values_with
  values_go q m made fits =
      let r = (step_of q.program n).right.relation in
      let sent = value_message x.run n (rising_values q.envelope words marks (step_of q.program n).right) in
      rw made.is
      (sent_goes q.program x.applied (ltb n (step_count q.program) && is_at q.envelope x.site r) r n room sent
      (and_both (lt-ltb n (step_count q.program) made.exists) made.here) made.ready (rw made.is at fits))

  pub values_facts : (m : List ℕ) (u : ℕ) → make_values_of x words marks n room ≡ good m u
      → (q : Papers) × Usable q words (length marks) × ValuesMade q x words marks n m × (length m ≤ room) × (u ≡ length m)
  unfolding make_values_of
  values_facts m u h =
      let (q, at, fine, rest) = next_good (usable x words (length marks)) _ m u h in
      let (made, fits, long) = with_values q m u rest in
      (q, usable_is x words (length marks) q at fine, made, fits, long)

  -- refused: as every call on an end, or by 14, 12, 11
  pub values_number : (k : Reason) (u : ℕ) → make_values_of x words marks n room ≡ bad k u
      → ToldFirst x words (length marks) k u ⊎ Memᴰ k (NotOurs ∷ Waiting ∷ TooShort ∷ [])
  unfolding make_values_of values_with
  values_number k u =
      call_number x words (length marks) k u (λ q. values_with q x words marks n room) λ q.
      let b = (step_of q.program n).right in
      sent_number q.program x.applied (ltb n (step_count q.program) && is_at q.envelope x.site b.relation) b.relation n room
      (value_message x.run n (rising_values q.envelope words marks b)) k u

-- ---- a row message

pub record RowsMade (q : Papers) (x : End) (words marks : List ℕ) (r : ℕ) (m : List ℕ) : Type 0 where
  pub here : is_at q.envelope x.site r ≡ true
  pub ready : steps_before q.program r (step_count q.program) ≤ applied_of x r
  pub is : m ≡ row_message x.run r (sent_rows q.envelope words marks r)

module _ (x : End) (words marks : List ℕ) (r room : ℕ) where
  pub with_rows : (q : Papers) (m : List ℕ) (u : ℕ) → rows_with q x words marks r room ≡ good m u
      → RowsMade q x words marks r m × (length m ≤ room) × (u ≡ length m)
  unfolding rows_with
  with_rows q m u h =
      let (ours, ready, is, fits, long) =
      sent_facts q.program x.applied (is_at q.envelope x.site r) r (step_count q.program) room
      (row_message x.run r (sent_rows q.envelope words marks r)) m u h in
      (record { here = ours; ready = ready; is = is }, fits, long)

  pub rows_go : (q : Papers) (m : List ℕ) → RowsMade q x words marks r m → length m ≤ room → rows_with q x words marks r room ≡ good m (length m)
  unfolding rows_with
  rows_go q m made fits =
      rw made.is
      (sent_goes q.program x.applied (is_at q.envelope x.site r) r (step_count q.program) room
      (row_message x.run r (sent_rows q.envelope words marks r)) made.here made.ready (rw made.is at fits))

  pub rows_facts : (m : List ℕ) (u : ℕ) → make_rows_of x words marks r room ≡ good m u
      → (q : Papers) × Usable q words (length marks) × RowsMade q x words marks r m × (length m ≤ room) × (u ≡ length m)
  unfolding make_rows_of
  rows_facts m u h =
      let (q, at, fine, rest) = next_good (usable x words (length marks)) _ m u h in
      let (made, fits, long) = with_rows q m u rest in
      (q, usable_is x words (length marks) q at fine, made, fits, long)

  pub rows_number : (k : Reason) (u : ℕ) → make_rows_of x words marks r room ≡ bad k u
      → ToldFirst x words (length marks) k u ⊎ Memᴰ k (NotOurs ∷ Waiting ∷ TooShort ∷ [])
  unfolding make_rows_of rows_with
  rows_number k u =
      call_number x words (length marks) k u (λ q. rows_with q x words marks r room) λ q.
      sent_number q.program x.applied (is_at q.envelope x.site r) r (step_count q.program) room
      (row_message x.run r (sent_rows q.envelope words marks r)) k u

-- ---- at a sound end, with tables of the shape and marks enough, it is by the papers as they stand

module _ (x : End) (held : ℕ) (s : Sound x held) (words marks : List ℕ) (shape : shaped x.envelope words ≡ true)
    (enough : row_count x.envelope words ≤ length marks) where
  pub sound_values_lem : (n room : ℕ) → make_values_of x words marks n room ≡ values_with (papers_of_end x) x words marks n room
  unfolding make_values_of
  sound_values_lem n room = sound_call x held s words (length marks) shape enough (λ q. values_with q x words marks n room)

  pub sound_rows : (r room : ℕ) → make_rows_of x words marks r room ≡ rows_with (papers_of_end x) x words marks r room
  unfolding make_rows_of
  sound_rows r room = sound_call x held s words (length marks) shape enough (λ q. rows_with q x words marks r room)
