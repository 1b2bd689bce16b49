-- What the tests of calls on tables and marks say where they pass, and what the functions that judge them answer.
use mathlib.Core.Path.{◌≡◌, sym, ap, ◌∙◌}
use mathlib.Core.Bool.{Bool, true, false, not}
use mathlib.Core.List.{List, [], ◌∷◌}
use mathlib.Core.Logic.{◌↔◌}
use Prim.Native.Nat.{ℕ, ◌≤◌, ◌<◌}
use native.Mathlib.Omega.{arith}
use borrow.Author.Tests.{ltb-false, lt-ltb, le-ltb, not-true, not-false}
use Rattle.ground.specs.Outcome.{Verdict, verdict_of}
use Rattle.ground.specs.Outcome.Outcome.{good}
use Rattle.ground.specs.Refusing.{Test, test, judged, judgement}
use Rattle.ground.proofs.RefusingLaws.{some_fail, judge_refused, judge_passed, judge_taken, each_passes}
use Rattle.ground.specs.declared.refusals.Reason.TheVariants.{WrongShape, TooShort, NotOurs}
use Rattle.entries.specs.declared.places.Place.{Place}
use Rattle.contents.specs.declared.envelope.Envelope.{Envelope}
use Rattle.paths.specs.Steps.{is_place}
use Rattle.tables.specs.Offsets.{row_count}
use Rattle.tables.specs.Shape.{shaped, marks_tests, column_tests}
use Rattle.ground.specs.declared.refusals.Refusal.{Refusal}
use Rattle.ground.specs.Refusals.{refusal}
use Rattle.std.specs.Prelude.{Ok, Err}

-- ---- tables, marks and a column that pass their tests

module _ (e : Envelope) (words : List ℕ) (n : ℕ) where
  pub marks_pass : (some_fail (marks_tests e words n) ≡ false) ↔ ((shaped e words ≡ true) × (row_count e words ≤ n))
  marks_pass = (
    λ h. let p = each_passes (marks_tests e words n) h in (not-false _ p.0, ltb-false n (row_count e words) p.1.0),
    λ (s, k). rw (s, le-ltb n (row_count e words) k),
  )

  pub column_pass : (a : Place)
      → (some_fail (column_tests e a words n) ≡ false) ↔ ((shaped e words ≡ true) × (row_count e words ≤ n) × (is_place e a ≡ true))
  column_pass a = (
    λ h.
        let p = each_passes (column_tests e a words n) h in
        (not-false _ p.0, ltb-false n (row_count e words) p.1.0, not-false _ p.1.1.0),
    λ (s, k, t). rw (s, le-ltb n (row_count e words) k, t),
  )

  -- each by itself, of a verdict that was taken
  module _ (v : Verdict) (h : v ≡ Ok tt) where
    module _ (g : v ≡ judgement (marks_tests e words n)) where
      pub marks_shaped : shaped e words ≡ true
      marks_shaped = (marks_pass.0 (judge_passed (marks_tests e words n) v g h)).0

      pub marks_room : row_count e words ≤ n
      marks_room = (marks_pass.0 (judge_passed (marks_tests e words n) v g h)).1

    module _ (a : Place) (g : v ≡ judgement (column_tests e a words n)) where
      pub column_shaped : shaped e words ≡ true
      column_shaped = ((column_pass a).0 (judge_passed (column_tests e a words n) v g h)).0

      pub column_room : row_count e words ≤ n
      column_room = ((column_pass a).0 (judge_passed (column_tests e a words n) v g h)).1

      pub column_place : is_place e a ≡ true
      column_place = ((column_pass a).0 (judge_passed (column_tests e a words n) v g h)).2

-- ---- what the functions that judge answer

module _ (e : Envelope) (words : List ℕ) (n : ℕ) (b : Bool) (f : b ≡ shaped e words) where
  pub judge_shapeless : not b ≡ true → Err (refusal WrongShape 0) ≡ judgement (marks_tests e words n)
  unfolding judgement verdict_of
  judge_shapeless t = rw (← f, not-true b t)

  module _ (m : ℕ) (g : m ≡ row_count e words) (s : not b ≡ false) where
    pub judge_short : n < m → Err (refusal TooShort 0) ≡ judgement (marks_tests e words n)
    unfolding judgement verdict_of
    judge_short h =
        let k : n < row_count e words = omega arith in
        rw (← f, not-false b s, lt-ltb n (row_count e words) k)

    pub judge_whole : m ≤ n → Ok tt ≡ judgement (marks_tests e words n)
    unfolding judgement verdict_of
    judge_whole h =
        let k : row_count e words ≤ n = omega arith in
        rw (← f, not-false b s, le-ltb n (row_count e words) k)

module _ (e : Envelope) (a : Place) (words : List ℕ) (n : ℕ) (v : Verdict) (g : v ≡ judgement (marks_tests e words n)) where
  abbrev column_test : Test
  column_test = test (not (is_place e a)) NotOurs 0

  pub judge_before : (x : Refusal) → v ≡ Err x → Err x ≡ judgement (column_tests e a words n)
  unfolding judgement verdict_of
  judge_before x h = sym (ap verdict_of (judge_refused (marks_tests e words n) v g (judged (column_test ∷ []) (good (tt {0}) 0)) x.reason x.position h))

  module _ (h : v ≡ Ok tt) (b : Bool) (f : b ≡ is_place e a) where
    passed : judgement (column_tests e a words n) ≡ judgement (column_test ∷ [])
    unfolding judgement verdict_of
    passed = ap verdict_of (judge_taken (marks_tests e words n) v g (judged (column_test ∷ []) (good (tt {0}) 0)) h)

    pub judge_nowhere : not b ≡ true → Err (refusal NotOurs 0) ≡ judgement (column_tests e a words n)
    unfolding judgement verdict_of
    judge_nowhere t = sym (passed ∙ rw (← f, not-true b t))

    pub judge_column : not b ≡ false → Ok tt ≡ judgement (column_tests e a words n)
    unfolding judgement verdict_of
    judge_column t = sym (passed ∙ rw (← f, not-false b t))
