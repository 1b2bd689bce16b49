-- What receiving a message says: where it is taken, its facts; where it is refused, by which number, and that nothing changed.
use mathlib.Core.Path.{◌≡◌, refl, ap, sym, ◌∙◌}
use mathlib.Core.Bool.{true, false, not, and-false}
use mathlib.Core.List.Memᴰ
use mathlib.Core.List.{List, [], ◌∷◌, ◌++◌, Memᴰ}
use mathlib.Core.Logic.{◌⊎◌, inl, inr}
use Prim.Native.Nat.{ℕ, ◌+◌, ◌≤◌, ◌<◌}
use native.Mathlib.Omega.{arith}
use lib.ListN.{length, take, drop}
use lib.Seq.{sets, take-add}
use lib.Dec.{ltb, eqb}
use borrow.Author.Tests.{ltb-false, eqb-true, not-false}
use Rattle.ground.specs.Outcome.{verdict_of, leaves}
use Rattle.std.specs.Prelude.{Err}
use Rattle.ground.specs.Outcome.Outcome.{good, bad}
use Rattle.ground.specs.Refusing.{Test, test, judged}
use Rattle.ground.proofs.OutcomeLaws.{next_good, good_bad, leaves_refused, turned_bad}
use Rattle.ground.proofs.RefusingLaws.{judged_good, refusal_listed, each_passes, refusal_or}
use Rattle.ground.proofs.PuttingLaws.{sets_stand, sets_before, sets_behind}
use Rattle.ground.specs.declared.refusals.Reason.TheVariants.{EndsInside, TooShort, OtherRun, NotOurs, NotSound, AlreadyTaken, StepMissing}
use Rattle.contents.specs.Parts.{relation_count}
use Rattle.contents.specs.Sites.{is_at}
use Rattle.contents.specs.Kept.{kept_columns}
use Rattle.papers.specs.declared.checks.Papers.{Papers}
use Rattle.semijoin.specs.Marks.{reduced_by}
use Rattle.tables.specs.Rows.{kept_at}
use Rattle.semijoin.proofs.PromiseLaws.{promise}
use Rattle.ends.specs.Reducing.{step_count, step_of, steps_before}
use Rattle.tables.specs.Values.{room_test}
use Rattle.ends.specs.Ends.{Marked, applied_of, has_arrived, assembly_test, usable, Usable}
use Rattle.ends.specs.Messages.{front_length, run_of, second_of, body_of, about_of, counted, sound_values}
use Rattle.station.specs.Receiving.{Stored, Held, with_applied, with_arrived, values_taken, rows_taken, taken, receive_with, receive_of, received_marks, received_store}
use Rattle.ends.specs.declared.messages.About.{About}
use Rattle.ends.specs.declared.messages.About.TheVariants as about
use Rattle.ends.specs.declared.ends.End.{End}
use Rattle.ends.proofs.EndLaws.{usable_is}
use Rattle.ends.proofs.MessageLaws.{step_below, rows_below}
use Rattle.ends.proofs.SoundLaws.{ToldFirst, call_number}
use Rattle.ground.specs.declared.refusals.Reason.{Reason}
use Rattle.ground.specs.Refusals.{refusal}

-- ---- the values of a step

pub record StepTaken (q : Papers) (x : End) (words marks m : List ℕ) (n : ℕ) (y : End) (after : List ℕ) : Type 0 where
  pub exists : n < step_count q.program
  pub here : is_at q.envelope x.site (step_of q.program n).left.relation ≡ true
  pub sound : sound_values m ≡ true
  pub due : steps_before q.program (step_of q.program n).left.relation n ≡ applied_of x (step_of q.program n).left.relation
  pub end : y ≡ with_applied x (step_of q.program n).left.relation
  pub marked : after ≡ reduced_by q.envelope words (body_of m) (step_of q.program n).left marks

module _ (q : Papers) (x : End) (words marks m : List ℕ) (n : ℕ) where
  abbrev relation : ℕ
  relation = (step_of q.program n).left.relation

  abbrev pub step_tests : List Test
  step_tests =
      test (not (is_at q.envelope x.site relation)) NotOurs 0
      ∷ test (not (sound_values m)) NotSound 0
      ∷ test (ltb (steps_before q.program relation n) (applied_of x relation)) AlreadyTaken 0
      ∷ test (ltb (applied_of x relation) (steps_before q.program relation n)) StepMissing 0
      ∷ []

  abbrev pub step_effect : Marked
  step_effect =
      record {
        end = with_applied x relation;
        marks = reduced_by q.envelope words (body_of m) (step_of q.program n).left marks;
      }

  pub step_judged : values_taken q x words marks m n ≡ judged step_tests (good step_effect 0)
  unfolding values_taken
  step_judged = refl

  step_facts : n < step_count q.program → (s : Marked) (u : ℕ) → values_taken q x words marks m n ≡ good s u
      → StepTaken q x words marks m n s.end s.marks
  step_facts l s u h =
      let (none, made) = (judged_good step_tests (good step_effect 0) s u).0 (sym step_judged ∙ h) in
      let passed = each_passes step_tests none in
      let same : step_effect ≡ s = cc in
      record {
        exists = l;
        here = not-false _ passed.0;
        sound = not-false _ passed.1.0;
        due =
            let late : applied_of x relation ≤ steps_before q.program relation n = ltb-false _ _ passed.1.1.0 in
            let early : steps_before q.program relation n ≤ applied_of x relation = ltb-false _ _ passed.1.1.1.0 in
            omega arith;
        end = ap (λ (k : Marked). k.end) (sym same);
        marked = ap (λ (k : Marked). k.marks) (sym same);
      }

-- an empty value message removes every row
pub none_kept : (q : Papers) (x : End) (words marks m : List ℕ) (n : ℕ) (y : End) (after : List ℕ) → StepTaken q x words marks m n y after
    → body_of m ≡ [] → (i : ℕ) → kept_at q.envelope words after (step_of q.program n).left.relation i ≡ false
none_kept q x words marks m n y after t empty i =
    let a = (step_of q.program n).left in
    rw (t.marked, empty) ((promise q.envelope).exactly words [] marks a i ∙ and-false (kept_at q.envelope words marks a.relation i))

-- ---- the rows of a relation

pub record RowsTaken (q : Papers) (x : End) (store m : List ℕ) (r : ℕ) (y : End) (kept : List ℕ) : Type 0 where
  pub exists : r < relation_count q.envelope
  pub here : x.site ≡ q.program.site
  pub sound : counted (length (kept_columns q.envelope r)) m ≡ true
  pub first : has_arrived x r ≡ false
  pub fits : x.used + length m ≤ length store
  pub end : y ≡ with_arrived x r (length m)
  pub stored : kept ≡ sets store x.used m

module _ (q : Papers) (x : End) (store m : List ℕ) (r : ℕ) where
  abbrev pub rows_tests : List Test
  rows_tests =
      assembly_test q x
      ∷ test (not (counted (length (kept_columns q.envelope r)) m)) NotSound 0
      ∷ test (has_arrived x r) AlreadyTaken 0
      ∷ room_test x.used (length store) m
      ∷ []

  abbrev pub rows_effect : Stored
  rows_effect = record { end = with_arrived x r (length m); store = sets store x.used m }

  pub rows_judged : rows_taken q x store m r ≡ judged rows_tests (good rows_effect 0)
  unfolding rows_taken
  rows_judged = refl

  rows_facts : r < relation_count q.envelope → (s : Stored) (u : ℕ) → rows_taken q x store m r ≡ good s u
      → RowsTaken q x store m r s.end s.store
  rows_facts l s u h =
      let (none, made) = (judged_good rows_tests (good rows_effect 0) s u).0 (sym rows_judged ∙ h) in
      let passed = each_passes rows_tests none in
      let same : rows_effect ≡ s = cc in
      record {
        exists = l;
        here = eqb-true _ _ (not-false _ passed.0);
        sound = not-false _ passed.1.0;
        first = passed.1.1.0;
        fits = ltb-false _ _ passed.1.1.1.0;
        end = ap (λ (k : Stored). k.end) (sym same);
        stored = ap (λ (k : Stored). k.store) (sym same);
      }

-- the store afterwards: the words that were used, then the message; what is behind stays
module _ (q : Papers) (x : End) (store m : List ℕ) (r : ℕ) (y : End) (kept : List ℕ) (t : RowsTaken q x store m r y kept) where
  pub used_more : y.used ≡ x.used + length m
  unfolding with_arrived
  used_more = ap (λ (k : End). k.used) t.end

  pub store_words : take y.used kept ≡ take x.used store ++ m
  store_words =
      rw (used_more, t.stored)
      (take-add x.used (length m) (sets store x.used m)
      ∙ rw (sets_before store x.used m t.fits, sets_stand store x.used m t.fits))

  pub store_behind : drop y.used kept ≡ drop y.used store
  store_behind = rw (used_more, t.stored) (sets_behind store x.used m t.fits)

-- ---- the call

abbrev pub last_numbers : List Reason
last_numbers = EndsInside ∷ OtherRun ∷ NotOurs ∷ NotSound ∷ AlreadyTaken ∷ StepMissing ∷ TooShort ∷ []

module _ (q : Papers) (x : End) (words marks store m : List ℕ) where
  abbrev pub Taken : Held → Type 0
  Taken h =
      ((n : ℕ) × (about_of (step_count q.program) (relation_count q.envelope) (second_of m) ≡ about.Step n)
      × StepTaken q x words marks m n h.end h.marks × (h.store ≡ store))
      ⊎ ((r : ℕ) × (about_of (step_count q.program) (relation_count q.envelope) (second_of m) ≡ about.Rows r)
      × RowsTaken q x store m r h.end h.store × (h.marks ≡ marks))

  abbrev front_tests : List Test
  front_tests = test (ltb (length m) front_length) EndsInside 0 ∷ test (not (eqb (run_of m) x.run)) OtherRun 0 ∷ []

  by_about : (w : About) → about_of (step_count q.program) (relation_count q.envelope) (second_of m) ≡ w → (h : Held) (u : ℕ)
      → taken q x words marks store m w ≡ good h u → Taken h
  unfolding taken
  by_about (about.Step n) w h u e =
      let (s, p, good-s, made) = next_good (values_taken q x words marks m n) _ h u e in
      let same : record { end = s.end; marks = s.marks; store = store } ≡ h = cc in
      inl (n, w, rw (← same) (step_facts q x words marks m n (step_below _ _ _ n w) s p good-s), ap (λ (k : Held). k.store) (sym same))
  by_about (about.Rows r) w h u e =
      let (s, p, good-s, made) = next_good (rows_taken q x store m r) _ h u e in
      let same : record { end = s.end; marks = marks; store = s.store } ≡ h = cc in
      inr (r, w, rw (← same) (rows_facts q x store m r (rows_below _ _ _ r w) s p good-s), ap (λ (k : Held). k.marks) (sym same))
  by_about about.Nothing w h u e = absurd (good_bad h u NotOurs 0 (sym e))

  pub with_facts : (h : Held) (u : ℕ) → receive_with q x words marks store m ≡ good h u
      → (front_length ≤ length m) × (run_of m ≡ x.run) × Taken h
  unfolding receive_with
  with_facts h u e =
      let w = about_of (step_count q.program) (relation_count q.envelope) (second_of m) in
      let (none, rest) = (judged_good front_tests (taken q x words marks store m w) h u).0 e in
      let passed = each_passes front_tests none in
      (ltb-false _ _ passed.0, eqb-true _ _ (not-false _ passed.1.0), by_about w refl h u rest)

  -- ---- refused: by 1, 13, 14, 15, 16, 17, 11 at 0

  step_number : (n : ℕ) (k : Reason) (u : ℕ) → values_taken q x words marks m n ≡ bad k u → Memᴰ k last_numbers × (u ≡ 0)
  step_number n k u h =
      let (listed, zero) =
      refusal_listed (step_tests q x words marks m n) (step_effect q x words marks m n) 0 k u (refl, (refl, (refl, (refl, tt))))
      (sym (step_judged q x words marks m n) ∙ h) in
      (Memᴰ.tail (Memᴰ.tail (Memᴰ.append_left (TooShort ∷ []) listed)), zero)

  rows_number : (r : ℕ) (k : Reason) (u : ℕ) → rows_taken q x store m r ≡ bad k u → Memᴰ k last_numbers × (u ≡ 0)
  rows_number r k u h =
      let (listed, zero) =
      refusal_listed (rows_tests q x store m r) (rows_effect q x store m r) 0 k u (refl, (refl, (refl, (refl, tt))))
      (sym (rows_judged q x store m r) ∙ h) in
      (Memᴰ.tail (Memᴰ.tail (go (Memᴰ.append_cases (NotOurs ∷ NotSound ∷ AlreadyTaken ∷ []) listed))), zero)
    where
      go : Memᴰ k (NotOurs ∷ NotSound ∷ AlreadyTaken ∷ []) ⊎ Memᴰ k (TooShort ∷ [])
          → Memᴰ k (NotOurs ∷ NotSound ∷ AlreadyTaken ∷ StepMissing ∷ TooShort ∷ [])
      go (inl l) = Memᴰ.append_left (StepMissing ∷ TooShort ∷ []) l
      go (inr l) = Memᴰ.append_right (NotOurs ∷ NotSound ∷ AlreadyTaken ∷ StepMissing ∷ []) l

  about_number : (w : About) (k : Reason) (u : ℕ) → taken q x words marks store m w ≡ bad k u → Memᴰ k last_numbers × (u ≡ 0)
  unfolding taken
  about_number (about.Step n) k u h = step_number n k u (turned_bad _ (values_taken q x words marks m n) k u h)
  about_number (about.Rows r) k u h = rows_number r k u (turned_bad _ (rows_taken q x store m r) k u h)
  about_number about.Nothing k u h =
      let same : k ≡ NotOurs = cc in
      let zero : u ≡ 0 = cc in
      (Memᴰ.tail (Memᴰ.tail (Memᴰ.head same)), zero)

  with_number : (k : Reason) (u : ℕ) → receive_with q x words marks store m ≡ bad k u → Memᴰ k last_numbers × (u ≡ 0)
  unfolding receive_with
  with_number k u h = go (refusal_or front_tests (taken q x words marks store m w) k u (refl, (refl, tt)) h)
    where
      w : About
      w = about_of (step_count q.program) (relation_count q.envelope) (second_of m)

      go : (Memᴰ k (EndsInside ∷ OtherRun ∷ []) × (u ≡ 0)) ⊎ (taken q x words marks store m w ≡ bad k u)
          → Memᴰ k last_numbers × (u ≡ 0)
      go (inl (l, z)) = (Memᴰ.append_left (NotOurs ∷ NotSound ∷ AlreadyTaken ∷ StepMissing ∷ TooShort ∷ []) l, z)
      go (inr e) = about_number w k u e

module _ (x : End) (words marks store m : List ℕ) where
  pub received_facts : (h : Held) (u : ℕ) → receive_of x words marks store m ≡ good h u
      → (q : Papers) × Usable q words (length marks) × (front_length ≤ length m) × (run_of m ≡ x.run) × Taken q x words marks store m h
  unfolding receive_of
  received_facts h u e =
      let (q, at, fine, rest) = next_good (usable x words (length marks)) _ h u e in
      let (long, run, took) = with_facts q x words marks store m h u rest in
      (q, usable_is x words (length marks) q at fine, long, run, took)

  -- refused: as every call on an end, or by one of those
  pub received_number : (k : Reason) (u : ℕ) → receive_of x words marks store m ≡ bad k u
      → ToldFirst x words (length marks) k u ⊎ (Memᴰ k last_numbers × (u ≡ 0))
  unfolding receive_of
  received_number k u =
      call_number x words (length marks) k u (λ q. receive_with q x words marks store m) (λ q. with_number q x words marks store m k u)

-- ---- a refusal leaves the end, the marks and the store, and is answered

module _ (x : End) (words marks store m : List ℕ) (n : Reason) (u : ℕ) (h : receive_of x words marks store m ≡ bad n u) where
  pub received_marks_lem : received_marks marks (receive_of x words marks store m) ≡ marks
  received_marks_lem = leaves_refused (λ (k : Held). k.marks) marks (receive_of x words marks store m) n u h

  pub received_store_lem : received_store store (receive_of x words marks store m) ≡ store
  received_store_lem = leaves_refused (λ (k : Held). k.store) store (receive_of x words marks store m) n u h

  pub received_end : (verdict_of (receive_of x words marks store m) ≡ Err (refusal n u))
      × (leaves (λ (k : Held). k.end) x (receive_of x words marks store m) ≡ x)
  unfolding verdict_of
  received_end = (ap verdict_of h, leaves_refused (λ (k : Held). k.end) x (receive_of x words marks store m) n u h)
