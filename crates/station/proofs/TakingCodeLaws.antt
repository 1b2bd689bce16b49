-- What the returns of taking values and rows cite: an outcome as the answer, each refusal in its order, and the two effects.
use mathlib.Core.Path.{◌≡◌, refl, ap, sym, ◌∙◌}
use mathlib.Core.Bool.{Bool, true, false, not}
use mathlib.Core.List.{List, ◌++◌}
use Rattle.std.proofs.lemmas.Slice.{take-put_mid, drop-put_mid}
use Rattle.std.proofs.lemmas.List.{take-append-drop}
use borrow.Rule.Slice.PartMut.{put_mid}
use Prim.Native.Nat.{ℕ, ◌+◌, ◌≤◌, ◌<◌, ◌-◌}
use native.Mathlib.Omega.{arith}
use lib.ListN.{length, get_or, set, take, drop}
use lib.Seq.{sets, sets-eq}
use lib.Dec.{ltb, eqb}
use borrow.Author.Tests.{lt-ltb, le-ltb, eq-eqb, ne_eqb, not-true, not-false}
use Rattle.ground.specs.Tests.{pick}
use Rattle.ground.specs.Outcome.{Outcome, Verdict, verdict_of, value_of, leaves}
use Rattle.ground.specs.Outcome.Outcome.{good, bad}
use Rattle.ground.proofs.CountLaws.{split}
use Rattle.ground.proofs.OutcomeLaws.{never, leaves_good, leaves_refused}
use Rattle.ground.specs.declared.refusals.Reason.TheVariants.{TooShort, NotOurs, NotSound, AlreadyTaken, StepMissing}
use Rattle.contents.specs.Sites.{is_at}
use Rattle.contents.specs.Kept.{kept_columns, shown_columns}
use Rattle.contents.specs.declared.envelope.Envelope.{Envelope}
use Rattle.contents.specs.declared.kept.Columns.{Columns}
use Rattle.entries.specs.declared.places.Place.{Place}
use Rattle.paths.specs.Steps.{is_place}
use Rattle.paths.specs.declared.steps.Step.{Step}
use Rattle.papers.specs.declared.checks.Papers.{Papers}
use Rattle.papers.specs.Checks.{GoodPapers}
use Rattle.tables.specs.Offsets.{row_count}
use Rattle.tables.specs.Shape.{shaped}
use Rattle.tables.specs.Rising.{is_rising}
use Rattle.semijoin.specs.Marks.{reduced_by, reduce_outcome, reduced_of}
use Rattle.semijoin.proofs.CallPromiseLaws.{call_promise}
use Rattle.ends.specs.Reducing.{step_count, step_of, steps_before, missing_of}
use Rattle.ends.specs.Ends.{Marked, Usable}
use Rattle.ends.specs.Messages.{counted, sound_values}
use Rattle.station.specs.Receiving.{Stored, applied_to, with_applied, with_arrived, is_next, not_next, values_taken, rows_taken}
use Rattle.ends.specs.declared.ends.End.{End}
use Rattle.ends.proofs.ReducingLaws.{before_most}
use Rattle.ends.proofs.EndLaws.{step_legal, here_below}
use Rattle.station.proofs.NextCodeLaws.{next_same, next_other, not_next_by}
use Rattle.ground.specs.declared.refusals.Reason.{Reason}
use Rattle.ground.specs.Refusals.{refusal}
use Rattle.std.specs.Prelude.{Option, Result, Ok, Err}
use Rattle.ground.specs.declared.refusals.Refusal.{Refusal}

-- ---- what an outcome leaves

module _ {A : Type 0} (o : Outcome A) where
  pub verdict_refused : (m : Reason) (p : ℕ) → o ≡ bad m p → Err (refusal m p) ≡ verdict_of o
  unfolding verdict_of
  verdict_refused m p e = ap verdict_of (sym e)

  pub verdict_passed : (a : A) (p : ℕ) → o ≡ good a p → Ok (tt {0}) ≡ verdict_of o
  unfolding verdict_of
  verdict_passed a p e = ap verdict_of (sym e)

  module _ {B : Type 0} (made : A → B) (before : B) where
    pub left_bad : (m : Reason) (p : ℕ) → o ≡ bad m p → before ≡ leaves made before o
    unfolding leaves
    left_bad m p e = ap (leaves made before) (sym e)

    pub left_good : (a : A) (p : ℕ) → o ≡ good a p → (after : B) → after ≡ made a → after ≡ leaves made before o
    unfolding leaves
    left_good a p e after f = f ∙ ap (leaves made before) (sym e)

-- what a call does not touch stays
pub stays : {A B : Type 0} (before : B) (o : Outcome A) → before ≡ leaves (λ (a : A). before) before o
unfolding leaves
stays before (good a p) = refl
stays before (bad i p) = refl

-- ---- the end afterwards

pub applied_is : (x : End) (r n : ℕ)
    → record {
      envelope = x.envelope;
      program = x.program;
      site = x.site;
      run = x.run;
      applied = set x.applied r n;
      arrived = x.arrived;
      used = x.used;
    }
    ≡ applied_to x r n
unfolding applied_to
applied_is x r n = refl

pub arrived_is : (x : End) (r n : ℕ)
    → record {
      envelope = x.envelope;
      program = x.program;
      site = x.site;
      run = x.run;
      applied = x.applied;
      arrived = set x.arrived r true;
      used = x.used + n;
    }
    ≡ with_arrived x r n
unfolding with_arrived
arrived_is x r n = refl

-- ---- a message behind the words that are held

pub appended : (store m part : List ℕ) (used k : ℕ) → part ≡ m → k ≡ length m → used + length m ≤ length store
    → put_mid used k store part ≡ sets store used m
appended store m part used k e f h =
    let long : length part ≡ length m = ap (λ (l : List ℕ). length l) e in
    let front : take (used + length m) (put_mid used k store part) ≡ take used store ++ m =
    take-put_mid used k store part (used + length m) (omega arith) (omega arith) ∙ ap (λ (l : List ℕ). take used store ++ l) e in
    let back : drop (used + length m) (put_mid used k store part) ≡ drop (used + length m) store =
    drop-put_mid used k store part (used + length m) (omega arith) (omega arith) (omega arith) in
    sym (take-append-drop (used + length m) (put_mid used k store part))
    ∙ rw (front, back) refl
    ∙ sym (sets-eq m store used h)

-- ---- what reducing by values leaves where tables, marks and column are good: 15, or the marks of fewer rows

module _ (e : Envelope) (words : List ℕ) (shape : shaped e words ≡ true) (marks : List ℕ) (room : row_count e words ≤ length marks) (a : Place)
    (here : is_place e a ≡ true) (by : List ℕ) (n : ℕ) (y : Result ℕ Refusal) (after : List ℕ)
    (f : y ≡ reduced_of n (reduce_outcome e words by a marks)) (k : after ≡ value_of marks (reduce_outcome e words by a marks)) where
  abbrev result : Outcome (List ℕ)
  result = reduce_outcome e words by a marks

  taken : is_rising by ≡ true → result ≡ good (reduced_by e words by a marks) 0
  taken t = call_promise.reduce_taken e words by a marks shape room here t

  falls : is_rising by ≡ false → result ≡ bad NotSound 0
  falls t = call_promise.reduce_falling e words by a marks shape room here t

  reduce_falls : (o : Refusal) → y ≡ Err o → (is_rising by ≡ false) × (o ≡ refusal NotSound 0) × (after ≡ marks)
  reduce_falls o h = go (is_rising by) refl
    where
      go : (b : Bool) → is_rising by ≡ b → (is_rising by ≡ false) × (o ≡ refusal NotSound 0) × (after ≡ marks)
      go true t =
          let same : Ok n ≡ Err o = sym (call_promise.answers_removed n _ 0) ∙ ap (reduced_of n) (sym (taken t)) ∙ sym f ∙ h in
          let z : ◌≡◌ {A = ℕ} 0 1 = cc in
          absurd (never z)
      go false t =
          let same : Err o ≡ Err (refusal NotSound 0) = sym h ∙ f ∙ ap (reduced_of n) (falls t) ∙ call_promise.answers_refused n NotSound 0 in
          (t, cc, k ∙ leaves_refused _ marks result NotSound 0 (falls t))

  reduce_rises : (i : ℕ) → y ≡ Ok i → (is_rising by ≡ true) × (after ≡ reduced_by e words by a marks)
  reduce_rises i h = go (is_rising by) refl
    where
      go : (b : Bool) → is_rising by ≡ b → (is_rising by ≡ true) × (after ≡ reduced_by e words by a marks)
      go true t = (t, k ∙ ap (value_of marks) (taken t) ∙ leaves_good _ marks _ 0)
      go false t =
          let same : Err (refusal NotSound 0) ≡ Ok i =
          sym (call_promise.answers_refused n NotSound 0) ∙ ap (reduced_of n) (sym (falls t)) ∙ sym f ∙ h in
          let z : ◌≡◌ {A = ℕ} 0 1 = cc in
          absurd (never z)

-- ---- values

-- neither the number behind a step nor a count of applied steps wraps, and the relation has its place among eight
module _ (q : Papers) (g : GoodPapers q) (n : ℕ) (l : n < step_count q.program) where
  pub values_behind : n + 1 ≤ 156
  values_behind = omega (arith, g.acceptable.whole, g.acceptable.count)

  pub values_more : (s : Step) → s ≡ step_of q.program n → (done : ℕ) (missing : Option ℕ)
      → missing ≡ missing_of q.program s.left.relation done (n + 1) → (b : Bool) → b ≡ is_next missing n → not b ≡ false → done + 1 ≤ 157
  values_more s e done missing i b f t =
      omega (
        arith,
        next_same q.program n l s e done missing i b f t,
        before_most q.program s.left.relation n,
        values_behind,
      )

pub values_eight : (e : Envelope) (site r : ℕ) (b : Bool) → b ≡ is_at e site r → not b ≡ false → r < 8
values_eight e site r b f t = omega (arith, here_below e site r (sym f ∙ not-false b t))

module _ (q : Papers) (x : End) (words marks m : List ℕ) (n : ℕ) (u : Usable q words (length marks)) (l : n < step_count q.program)
    (s : Step) (e : s ≡ step_of q.program n) (b : Bool) (f : b ≡ is_at q.envelope x.site s.left.relation) where
  abbrev outcome : Outcome Marked
  outcome = values_taken q x words marks m n

  abbrev Takes : Verdict → End → List ℕ → Type 0
  Takes z y after =
      (z ≡ verdict_of outcome) × (y ≡ leaves (λ (s : Marked). s.end) x outcome) × (after ≡ leaves (λ (s : Marked). s.marks) marks outcome)

  takes_bad : (i : Reason) (p : ℕ) → outcome ≡ bad i p → Takes (Err (refusal i p)) x marks
  takes_bad i p k = (
    verdict_refused outcome i p k,
    left_bad outcome (λ (s : Marked). s.end) x i p k,
    left_bad outcome (λ (s : Marked). s.marks) marks i p k,
  )

  pub values_elsewhere : not b ≡ true → Takes (Err (refusal NotOurs 0)) x marks
  unfolding values_taken
  values_elsewhere t = takes_bad NotOurs 0 (rw (← e, ← f, t))

  module _ (t : not b ≡ false) (d : Bool) (c : d ≡ counted 1 m) where
    pub values_uncounted : not d ≡ true → Takes (Err (refusal NotSound 0)) x marks
    unfolding values_taken sound_values
    values_uncounted h = takes_bad NotSound 0 (rw (← e, ← f, t, ← c, not-true d h))

    module _ (h : not d ≡ false) (done : ℕ) (j : done ≡ get_or x.applied s.left.relation 0) (missing : Option ℕ)
        (i : missing ≡ missing_of q.program s.left.relation done (n + 1)) (is : Bool) (known : is ≡ is_next missing n) where
      abbrev its_place : ℕ
      its_place = steps_before q.program s.left.relation n

      -- what comes before 16 and 17
      sound_by : sound_values m ≡ is_rising (drop 3 m)
      unfolding sound_values
      sound_by = rw (← c, not-false d h)

      pub values_other : not is ≡ true → (k : Reason) → k ≡ pick (not (is_rising (drop 3 m))) NotSound (not_next missing)
          → Takes (Err (refusal k 0)) x marks
      unfolding values_taken
      values_other v k g = rw (g, not_next_by q.program n l s e done missing i ne) (go (is_rising (drop 3 m)) refl)
        where
          ne : its_place ≡ done → ⊥
          ne = next_other q.program n l s e done missing i is known v

          go : (rising : Bool) → is_rising (drop 3 m) ≡ rising
              → Takes (Err (refusal (pick (not rising) NotSound (pick (ltb its_place done) AlreadyTaken StepMissing)) 0)) x marks
          go false a = takes_bad NotSound 0 (rw (← e, ← f, t, sound_by, a))
          go true a =
              split done its_place
              (λ o.
              let p : done < its_place = omega (arith, ne) in
              rw (le-ltb its_place done o)
              (takes_bad StepMissing 0 (rw (← e, ← f, t, sound_by, a, ← j, le-ltb its_place done o, lt-ltb done its_place p))))
              (λ o. rw (lt-ltb its_place done o) (takes_bad AlreadyTaken 0 (rw (← e, ← f, t, sound_by, a, ← j, lt-ltb its_place done o))))

      module _ (v : not is ≡ false) (by : List ℕ) (body : by ≡ drop 3 m) (removed : ℕ) (y : Result ℕ Refusal) (after : List ℕ)
          (g : y ≡ reduced_of removed (reduce_outcome q.envelope words by s.left marks))
          (k : after ≡ value_of marks (reduce_outcome q.envelope words by s.left marks)) where
        here : is_place q.envelope s.left ≡ true
        here = rw e (step_legal q u.papers n l).left

        pub values_fall : (o : Refusal) → y ≡ Err o → Takes (Err o) x after
        unfolding values_taken
        values_fall o p =
            let (falls, is, stays) =
            reduce_falls q.envelope words u.shape marks u.room s.left here by removed y after g k o p in
            rw (is, stays) (takes_bad NotSound 0 (rw (← e, ← f, t, sound_by, ← body, falls)))

        pub values_applied : (gone : ℕ) → y ≡ Ok gone → (a : End) → a ≡ applied_to x s.left.relation (done + 1) → Takes (Ok (tt {0})) a after
        unfolding values_taken with_applied
        values_applied gone y-is a w =
            let (rises, marked) =
            reduce_rises q.envelope words u.shape marks u.room s.left here by removed y after g k gone y-is in
            let same : its_place ≡ done = next_same q.program n l s e done missing i is known v in
            let found
            : outcome
            ≡ good
            (record { end = with_applied x s.left.relation; marks = reduced_by q.envelope words (drop 3 m) s.left marks })
            0 =
            rw (← e, ← f, t, sound_by, ← body, rises, ← j, le-ltb its_place done (omega (arith, same)), le-ltb done its_place (omega (arith, same))) in (
              verdict_passed outcome _ 0 found,
              left_good outcome (λ (s : Marked). s.end) x _ 0 found a (w ∙ rw j),
              left_good outcome (λ (s : Marked). s.marks) marks _ 0 found after
                  (marked ∙ ap (λ (l : List ℕ). reduced_by q.envelope words l s.left marks) body),
            )

-- ---- rows

module _ (q : Papers) (x : End) (store m : List ℕ) (relation : ℕ) where
  abbrev rows_outcome : Outcome Stored
  rows_outcome = rows_taken q x store m relation

  abbrev Stores : Verdict → End → List ℕ → Type 0
  Stores z y after =
      (z ≡ verdict_of rows_outcome)
      × (y ≡ leaves (λ (s : Stored). s.end) x rows_outcome)
      × (after ≡ leaves (λ (s : Stored). s.store) store rows_outcome)

  stores_bad : (i : Reason) (p : ℕ) → rows_outcome ≡ bad i p → Stores (Err (refusal i p)) x store
  stores_bad i p k = (
    verdict_refused rows_outcome i p k,
    left_bad rows_outcome (λ (s : Stored). s.end) x i p k,
    left_bad rows_outcome (λ (s : Stored). s.store) store i p k,
  )

  pub rows_elsewhere : (x.site ≡ q.program.site → ⊥) → Stores (Err (refusal NotOurs 0)) x store
  unfolding rows_taken
  rows_elsewhere h = stores_bad NotOurs 0 (rw (ne_eqb x.site q.program.site h))

  module _ (h : x.site ≡ q.program.site) (c : Columns) (d : c ≡ shown_columns (kept_columns q.envelope relation)) (b : Bool)
      (f : b ≡ counted c.count m) where
    sound : b ≡ counted (length (kept_columns q.envelope relation)) m
    sound = f ∙ ap (λ (k : Columns). counted k.count m) d

    ours : eqb x.site q.program.site ≡ true
    ours = eq-eqb x.site q.program.site h

    pub rows_uncounted : not b ≡ true → Stores (Err (refusal NotSound 0)) x store
    unfolding rows_taken
    rows_uncounted t = stores_bad NotSound 0 (rw (ours, ← sound, t))

    module _ (t : not b ≡ false) where
      pub rows_again : get_or x.arrived relation false ≡ true → Stores (Err (refusal AlreadyTaken 0)) x store
      unfolding rows_taken
      rows_again a = stores_bad AlreadyTaken 0 (rw (ours, ← sound, t, a))

      module _ (a : get_or x.arrived relation false ≡ false) where
        pub rows_short : length store < x.used + length m → Stores (Err (refusal TooShort 0)) x store
        unfolding rows_taken
        rows_short o = stores_bad TooShort 0 (rw (ours, ← sound, t, a, lt-ltb (length store) (x.used + length m) o))

        pub rows_longer : length store < length m → Stores (Err (refusal TooShort 0)) x store
        rows_longer o = rows_short (omega arith)

        pub rows_behind : length m ≤ length store → length store - length m < x.used → Stores (Err (refusal TooShort 0)) x store
        rows_behind o p = rows_short (omega arith)

        pub rows_stored : length m ≤ length store → x.used ≤ length store - length m → (after : List ℕ) → after ≡ sets store x.used m → (y : End)
            → y ≡ with_arrived x relation (length m) → Stores (Ok (tt {0})) y after
        unfolding rows_taken
        rows_stored o p after w y v =
            let found : rows_outcome ≡ good (record { end = with_arrived x relation (length m); store = sets store x.used m }) 0 =
            rw (ours, ← sound, t, a, le-ltb (length store) (x.used + length m) (omega arith)) in (
              verdict_passed rows_outcome _ 0 found,
              left_good rows_outcome (λ (s : Stored). s.end) x _ 0 found y v,
              left_good rows_outcome (λ (s : Stored). s.store) store _ 0 found after w,
            )
