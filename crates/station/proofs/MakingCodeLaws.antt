-- What the returns of making a value message cite: 14 and 12, what the values leave of the buffer, and the words in front.
use mathlib.Core.Path.{◌≡◌, refl, ap, sym, ◌∙◌}
use mathlib.Core.Logic.{◌≢◌}
use mathlib.Core.Bool.{Bool, true, false, not, ◌&&◌}
use mathlib.Core.List.{List, [], ◌∷◌}
use Prim.Native.Nat.{ℕ, suc, ◌+◌, ◌≤◌, ◌<◌}
use native.Mathlib.Omega.{arith}
use lib.ListN.{length, get_or, set}
use lib.Seq.{sets, set_comm}
use lib.Dec.{ltb}
use borrow.Author.Tests.{ltb-true, lt-ltb, le-ltb, not-false}
use Rattle.ground.specs.Outcome.{Outcome, Verdict, next, taken_of}
use Rattle.ground.specs.Refusing.{Test, test, judged, judgement}
use Rattle.ground.proofs.CountLaws.{split}
use Rattle.ground.proofs.OutcomeLaws.{never, value_good, value_bad, exits}
use Rattle.ground.proofs.TestLaws.{and_left, or_none}
use Rattle.ground.proofs.RefusingLaws.{judge_refused, judge_passed, judge_taken, judge_fail, judge_pass, judge_none}
use Rattle.ground.specs.declared.refusals.Reason.TheVariants.{TooShort, Waiting, NotOurs}
use Rattle.fields.specs.Puts.{fitted, written_of, written_from}
use Rattle.fields.proofs.PutLaws.{Writes, writes_bad, writes_good, writes_same, fitted_short, fitted_fits}
use Rattle.contents.specs.Sites.{is_at}
use Rattle.contents.specs.declared.envelope.Envelope.{Envelope}
use Rattle.entries.specs.declared.places.Place.{Place}
use Rattle.paths.specs.Steps.{is_place}
use Rattle.paths.specs.declared.steps.Step.{Step}
use Rattle.papers.specs.declared.programs.Program.{Program}
use Rattle.papers.specs.declared.checks.Papers.{Papers}
use Rattle.tables.specs.Offsets.{row_count}
use Rattle.tables.specs.Shape.{shaped}
use Rattle.tables.specs.Values.{rising_values, values_outcome}
use Rattle.tables.proofs.ShapeLaws.{shaped_shape}
use Rattle.tables.proofs.CallLaws.{values_narrow, values_taken_lem}
use Rattle.tables.proofs.ValueLaws.{no_more_values}
use Rattle.ends.specs.Reducing.{step_count, step_of, is_missing, first_missing, missing_of}
use Rattle.ends.specs.Ends.{usable, Usable}
use Rattle.ends.specs.Messages.{value_message}
use Rattle.station.specs.Making.{send_tests, values_with, make_values_of}
use Rattle.ends.specs.declared.ends.End.{End}
use Rattle.ends.proofs.ReducingLaws.{missing_first, missing_not}
use Rattle.ends.proofs.EndLaws.{step_legal, usable_is}
use Rattle.ground.specs.Refusals.{refusal}
use Rattle.std.specs.Result.{IsErrAnd}
use Rattle.std.specs.Prelude.{Option, Some, None, Result, Ok, Err}
use Rattle.ground.specs.declared.refusals.Refusal.{Refusal}

-- a `?` that leaves answers the refusal that it met, and leaves what was lent as it is by then
pub exits_with : {A R : Type 0} (t s : Result A Refusal) (x : Refusal) → IsErrAnd t (λ y. y ≡ x) → (Err x ≡ s) × R → (t ≡ s) × R
exits_with t s x h k = (exits t s x h k.0, k.1)

-- the same where two slices or values are lent, and three
pub exits_with_two : {R S : Type 0} (t s : Verdict) (x : Refusal) → IsErrAnd t (λ y. y ≡ x) → ◌≡◌ {A = Verdict} (Err x) s × R × S → (t ≡ s) × R × S
exits_with_two t s x h k = (exits t s x h k.0, k.1, k.2)

pub exits_with_three : {R S T : Type 0} (t s : Verdict) (x : Refusal) → IsErrAnd t (λ y. y ≡ x) → ◌≡◌ {A = Verdict} (Err x) s × R × S × T
    → (t ≡ s) × R × S × T
exits_with_three t s x h k = (exits t s x h k.0, k.1, k.2, k.3)

-- ---- 14, 12

module _ (p : Program) (applied : List ℕ) (ours : Bool) (r n : ℕ) where
  abbrev missing_test : Test
  missing_test = test (is_missing p r (get_or applied r 0) n) Waiting (first_missing p r (get_or applied r 0) n)

  pub sending_not : not ours ≡ true → Err (refusal NotOurs 0) ≡ judgement (send_tests p applied ours r n)
  sending_not t = judge_fail (test (not ours) NotOurs 0) (missing_test ∷ []) t

  module _ (s : not ours ≡ false) (k : ℕ) (e : k ≡ get_or applied r 0) (x : Option ℕ) (f : x ≡ missing_of p r k n) where
    found : x ≡ missing_of p r (get_or applied r 0) n
    found = f ∙ ap (λ i. missing_of p r i n) e

    pub sending_waits : (i : ℕ) → x ≡ Some i → Err (refusal Waiting i) ≡ judgement (send_tests p applied ours r n)
    sending_waits i t =
        let (a, b) = missing_first p r (get_or applied r 0) n x found i t in
        ap (λ (j : ℕ). Err (refusal Waiting j)) (sym b) ∙ judge_fail missing_test [] a ∙ sym (judge_pass (test (not ours) NotOurs 0) (missing_test ∷ []) s)

    pub sending_may : x ≡ None → Ok (tt {0}) ≡ judgement (send_tests p applied ours r n)
    sending_may t =
        judge_none
        ∙ sym
        (judge_pass (test (not ours) NotOurs 0) (missing_test ∷ []) s
        ∙ judge_pass missing_test [] (missing_not p r (get_or applied r 0) n x found t))

-- where that passes the message is ours
pub sending_ours : (p : Program) (applied : List ℕ) (ours : Bool) (r n : ℕ) (x : Verdict) → x ≡ judgement (send_tests p applied ours r n)
    → x ≡ Ok (tt {0}) → ours ≡ true
sending_ours p applied ours r n x e h = not-false ours (or_none _ _ (judge_passed (send_tests p applied ours r n) x e h)).0

-- a step exists, and its right relation is at a site
module _ (e : Envelope) (p : Program) (site n r k : ℕ) (f : k ≡ step_count p) where
  pub sends_none : k ≤ n → false ≡ (ltb n (step_count p) && is_at e site r)
  sends_none h = sym (rw (le-ltb n (step_count p) (omega arith)))

  pub sends_here : n < k → (b : Bool) → b ≡ is_at e site r → b ≡ (ltb n (step_count p) && is_at e site r)
  sends_here h b t = t ∙ sym (rw (lt-ltb n (step_count p) (omega arith)))

-- ---- the words in front, put last

set_sets : (l : List ℕ) (i k a : ℕ) (vs : List ℕ) → i < k → set (sets l k vs) i a ≡ sets (set l i a) k vs
set_sets l i k a [] h = refl
set_sets l i k a (x ∷ vs) h =
    let d : k ≢ i = λ e. omega arith in
    set_sets (set l k x) i (suc k) a vs (omega arith) ∙ ap (λ (m : List ℕ). sets m (suc k) vs) (set_comm l k i x a d)

front_last : (l : List ℕ) (a b c : ℕ) (vs : List ℕ) → sets (sets l 3 vs) 0 (a ∷ b ∷ c ∷ []) ≡ sets l 0 (a ∷ b ∷ c ∷ vs)
front_last l a b c vs =
    ap (λ (m : List ℕ). set (set m 1 b) 2 c) (set_sets l 0 3 a vs (omega arith))
    ∙ ap (λ (m : List ℕ). set m 2 c) (set_sets (set l 0 a) 1 3 b vs (omega arith))
    ∙ set_sets (set (set l 0 a) 1 b) 2 3 c vs (omega arith)

-- ---- what putting a column's values leaves where tables, marks and column are good: 11, or the values

module _ (e : Envelope) (words : List ℕ) (shape : shaped e words ≡ true) (marks : List ℕ) (room : row_count e words ≤ length marks) (a : Place)
    (here : is_place e a ≡ true) (start : ℕ) (out : List ℕ) (y : Result ℕ Refusal) (after : List ℕ)
    (f : Writes start out (values_outcome e words marks a start (length out)) y after) where
  abbrev listed : List ℕ
  listed = rising_values e words marks a

  abbrev gathering : Outcome (List ℕ)
  gathering = values_outcome e words marks a start (length out)

  when_fit : start + length listed ≤ length out → Writes start out gathering (Ok (length listed)) (sets out start listed)
  when_fit l = writes_good start out gathering listed 0 (length listed) _ (values_taken_lem e a words marks start (length out) shape room here l) refl refl

  when_short : length out < start + length listed → Writes start out gathering (Err (refusal TooShort 0)) out
  when_short l = writes_bad start out gathering TooShort 0 (values_narrow e a words marks start (length out) shape room here l)

  values_short : (o : Refusal) → y ≡ Err o → (length out < start + length listed) × (o ≡ refusal TooShort 0) × (after ≡ out)
  values_short o h =
      split (start + length listed) (length out)
      (λ l.
      let same : Ok (length listed) ≡ Err o = (when_fit l).0 ∙ sym f.0 ∙ h in
      let z : ◌≡◌ {A = ℕ} 0 1 = cc in
      absurd (never z))
      (λ l.
      let same : Err o ≡ Err (refusal TooShort 0) = sym h ∙ f.0 ∙ sym (when_short l).0 in
      (l, cc, f.1 ∙ sym (when_short l).1))

  values_fit : (n : ℕ) → y ≡ Ok n → (start + length listed ≤ length out) × (n ≡ length listed) × (after ≡ sets out start listed)
  values_fit n h =
      split (start + length listed) (length out)
      (λ l.
      let same : Ok n ≡ Ok (length listed) = sym h ∙ f.0 ∙ sym (when_fit l).0 in
      (l, cc, f.1 ∙ sym (when_fit l).1))
      (λ l.
      let same : Err (refusal TooShort 0) ≡ Ok n = (when_short l).0 ∙ sym f.0 ∙ h in
      let z : ◌≡◌ {A = ℕ} 0 1 = cc in
      absurd (never z))

-- ---- a value message

module _ (q : Papers) (x : End) (words marks : List ℕ) (n : ℕ) (out : List ℕ) (u : Usable q words (length marks)) (s : Step)
    (e : s ≡ step_of q.program n) (ours : Bool)
    (f : ours ≡ (ltb n (step_count q.program) && is_at q.envelope x.site s.right.relation)) (w : Verdict)
    (k : w ≡ judgement (send_tests q.program x.applied ours s.right.relation n)) where
  abbrev outcome : Outcome (List ℕ)
  outcome = values_with q x words marks n (length out)

  abbrev values : List ℕ
  values = rising_values q.envelope words marks s.right

  whole : outcome
      ≡ judged (send_tests q.program x.applied ours s.right.relation n) (fitted (length out) (value_message x.run n values))
  unfolding values_with
  whole = rw (f, e)

  pub values_waits : (o : Refusal) → w ≡ Err o → Writes 0 out outcome (Err o) out
  values_waits o h =
      writes_bad 0 out outcome o.reason o.position
      (whole ∙ judge_refused (send_tests q.program x.applied ours s.right.relation n) w k _ o.reason o.position h)

  module _ (h : w ≡ Ok (tt {0})) where
    sendable : outcome ≡ fitted (length out) (value_message x.run n values)
    sendable = whole ∙ judge_taken (send_tests q.program x.applied ours s.right.relation n) w k _ h

    place : is_place q.envelope s.right ≡ true
    place =
        let t : n < step_count q.program =
        ltb-true _ _ (and_left _ _ (sym f ∙ sending_ours q.program x.applied ours s.right.relation n w k h)) in
        rw e (step_legal q u.papers n t).right

    module _ (y : Result ℕ Refusal) (after : List ℕ) (a : y ≡ written_of (values_outcome q.envelope words marks s.right 3 (length out)))
        (b : after ≡ written_from 3 out (values_outcome q.envelope words marks s.right 3 (length out))) where
      pub values_none : (o : Refusal) → y ≡ Err o → Writes 0 out outcome (Err o) after
      unfolding value_message
      values_none o t =
          let (short, is, stays) = values_short q.envelope words u.shape marks u.room s.right place 3 out y after (a, b) o t in
          rw (is, stays)
          (writes_bad 0 out outcome TooShort 0 (sendable ∙ fitted_short (length out) (x.run ∷ n ∷ length values ∷ values) (omega arith)))

      module _ (i : ℕ) (t : y ≡ Ok i) where
        fit : (3 + length values ≤ length out) × (i ≡ length values) × (after ≡ sets out 3 values)
        fit = values_fit q.envelope words u.shape marks u.room s.right place 3 out y after (a, b) i t

        pub values_few : i ≤ 4096
        values_few =
            omega (
              arith,
              fit.1,
              no_more_values q.envelope words marks s.right,
              (shaped_shape q.envelope words u.shape).few s.right.relation,
            )

        pub values_made : (last : List ℕ) → last ≡ sets after 0 (x.run ∷ n ∷ i ∷ []) → Writes 0 out outcome (Ok (3 + i)) last
        unfolding value_message
        values_made last l =
            writes_good 0 out outcome (x.run ∷ n ∷ length values ∷ values) _ (3 + i) last
            (sendable ∙ fitted_fits (length out) (x.run ∷ n ∷ length values ∷ values) (omega (arith, fit.0)))
            (omega (arith, fit.1))
            (l ∙ rw (fit.1, fit.2) (front_last out x.run n (length values) values))

-- ---- a call that makes a message: refused by its end, or by what comes then

module _ (with : Papers → Outcome (List ℕ)) (o : Outcome Papers) (out : List ℕ) (r : Result Papers Refusal) (k : r ≡ taken_of o) where
  abbrev whole_call : Outcome (List ℕ)
  whole_call = next o (λ q _. with q)

  pub call_refused : (y : Refusal) → r ≡ Err y → Writes 0 out whole_call (Err y) out
  call_refused y h =
      writes_bad 0 out whole_call y.reason y.position (ap (λ (o : Outcome Papers). next o (λ q _. with q)) (value_bad o r y k h))

  pub call_goes : (q : Papers) → r ≡ Ok q → (z : Result ℕ Refusal) (after : List ℕ) → Writes 0 out (with q) z after → Writes 0 out whole_call z after
  call_goes q h z after m =
      let (u, papers) = value_good o r q k h in
      writes_same 0 out whole_call (with q) (ap (λ (o : Outcome Papers). next o (λ q _. with q)) papers) z after m

module _ (x : End) (words marks : List ℕ) (r : Result Papers Refusal) (k : r ≡ taken_of (usable x words (length marks))) where
  pub usable_of : (q : Papers) → r ≡ Ok q → Usable q words (length marks)
  usable_of q h = let (u, found) = value_good (usable x words (length marks)) r q k h in usable_is x words (length marks) q u found

  module _ (n : ℕ) (out : List ℕ) where
    pub make_refused : (y : Refusal) → r ≡ Err y → Writes 0 out (make_values_of x words marks n (length out)) (Err y) out
    unfolding make_values_of
    make_refused = call_refused (λ q. values_with q x words marks n (length out)) (usable x words (length marks)) out r k

    pub make_goes : (q : Papers) → r ≡ Ok q → (z : Result ℕ Refusal) (after : List ℕ)
        → Writes 0 out (values_with q x words marks n (length out)) z after → Writes 0 out (make_values_of x words marks n (length out)) z after
    unfolding make_values_of
    make_goes = call_goes (λ q. values_with q x words marks n (length out)) (usable x words (length marks)) out r k
