-- What the returns of opening cite: which relations are here, and each refusal in its order.
use mathlib.Core.Path.{◌≡◌, refl, ap, ap₂, sym, ◌∙◌, fun_ext}
use mathlib.Core.Bool.{Bool, true, false, not}
use mathlib.Core.List.{List, map}
use Prim.Native.Nat.{ℕ, ◌≤◌, ◌<◌, min}
use native.Mathlib.Omega.{arith}
use lib.ListN.{length, get_or, length-map, get_or-eq_default}
use borrow.Author.Tests.{lt-ltb, le-ltb, not-true, not-false}
use Rattle.ground.specs.Lists.{below}
use Rattle.ground.specs.Outcome.{Outcome, Verdict, next, taken_of, verdict_of, value_of, leaves}
use Rattle.ground.specs.Outcome.Outcome.{good, bad}
use Rattle.ground.proofs.CountLaws.{split}
use Rattle.ground.proofs.OutcomeLaws.{good_bad, verdict_good, verdict_bad, value_good, value_bad, leaves_good, leaves_refused}
use Rattle.ground.proofs.ListLaws.{get_d_map}
use Rattle.ground.proofs.NumbersLaws.{below_length, below_get_d}
use Rattle.ground.specs.declared.refusals.Reason.TheVariants.{BeyondLimit, WrongShape, TooShort}
use Rattle.contents.specs.Sites.{is_at}
use Rattle.envelopes.specs.Rules.{Within}
use Rattle.contents.specs.declared.envelope.Envelope.{Envelope}
use Rattle.contents.proofs.SiteLaws.{at_none}
use Rattle.papers.specs.Checks.{papers_of, GoodPapers}
use Rattle.papers.specs.declared.programs.Program.{Program}
use Rattle.papers.specs.declared.checks.Papers.{Papers}
use Rattle.papers.proofs.CheckLaws.{papers_sound}
use Rattle.tables.specs.Offsets.{row_count}
use Rattle.tables.specs.Shape.{shaped}
use Rattle.semijoin.specs.Local.{opened_in, open_outcome}
use Rattle.semijoin.proofs.CallPromiseLaws.{call_promise}
use Rattle.ends.specs.Ends.{Marked, start_of}
use Rattle.station.specs.Opening.{here_at, open_with, open_of, opened_end, opened_marks}
use Rattle.ends.specs.declared.ends.End.{End}
use Rattle.ground.specs.declared.refusals.Reason.{Reason}
use Rattle.ground.specs.Refusals.{refusal}
use Rattle.std.specs.Prelude.{Result, Ok, Err}
use Rattle.ground.specs.declared.refusals.Refusal.{Refusal}

-- ---- which relations are here

module _ (e : Envelope) (site : ℕ) where
  -- as a function they are those at the site
  pub here_at_lem : (here : List Bool) → here ≡ here_at e site → (λ r. get_or here r false) ≡ is_at e site
  here_at_lem here f =
      fun_ext λ r.
      split 8 r
      (λ h.
      rw f
      (get_or-eq_default (map (is_at e site) (below 8)) false (rw (length-map (below 8) (is_at e site), below_length 8) h)
      ∙ at_none e r site (min 8 e.relation_count) refl (omega arith)))
      (λ h.
      rw f
      (get_d_map (is_at e site) (below 8) r 0 false (rw (below_length 8) h) ∙ ap (is_at e site) (below_get_d 8 r 0 h)))

-- ---- what opening the marks leaves where the envelope and the shape are good: 11, or the marks set

module _ (e : Envelope) (within : Within e) (words : List ℕ) (shape : shaped e words ≡ true) (marks : List ℕ) (here : ℕ → Bool) (v : Verdict)
    (after : List ℕ) (f : v ≡ verdict_of (open_outcome e words here marks)) (k : after ≡ value_of marks (open_outcome e words here marks)) where
  abbrev result : Outcome (List ℕ)
  result = open_outcome e words here marks

  marks_short : (y : Refusal) → v ≡ Err y → (length marks < row_count e words) × (y ≡ refusal TooShort 0) × (after ≡ marks)
  marks_short y h =
      let found : result ≡ bad y.reason y.position = verdict_bad result v y f h in
      split (row_count e words) (length marks)
      (λ l. absurd (good_bad _ _ y.reason y.position (sym (call_promise.open_taken e words here marks within shape l) ∙ found)))
      (λ l.
      let short : result ≡ bad TooShort 0 = call_promise.open_unmarked e words here marks within shape l in
      let same : bad y.reason y.position ≡ bad TooShort 0 = sym found ∙ short in
      let reason : y.reason ≡ TooShort = cc in
      let position : y.position ≡ 0 = cc in
      (l, ap₂ refusal reason position, k ∙ leaves_refused _ marks result TooShort 0 short))

  marks_opened : v ≡ Ok (tt {0}) → (row_count e words ≤ length marks) × (after ≡ opened_in e words here marks)
  marks_opened h =
      let (w, p, found) = verdict_good result v f h in
      split (row_count e words) (length marks)
      (λ l. (l, k ∙ ap (value_of marks) (call_promise.open_taken e words here marks within shape l) ∙ leaves_good _ marks _ 0))
      (λ l. absurd (good_bad w p TooShort 0 (sym found ∙ call_promise.open_unmarked e words here marks within shape l)))

-- ---- what is answered: a refusal, and an opening

module _ (marks : List ℕ) (o : Outcome Marked) where
  abbrev pub Opens : Result End Refusal → List ℕ → Type 0
  Opens z after = (z ≡ opened_end o) × (after ≡ opened_marks marks o)

  pub opens_bad : (m : Reason) (p : ℕ) → o ≡ bad m p → Opens (Err (refusal m p)) marks
  unfolding taken_of leaves
  opens_bad m p e = (ap opened_end (sym e), ap (opened_marks marks) (sym e))

  pub opens_good : (s : Marked) (p : ℕ) (x : End) (after : List ℕ) → o ≡ good s p → x ≡ s.end → after ≡ s.marks → Opens (Ok x) after
  unfolding taken_of leaves
  opens_good s p x after e f g = (rw f (ap opened_end (sym e)), g ∙ ap (opened_marks marks) (sym e))

module _ (q : Papers) (site run : ℕ) (words marks : List ℕ) (b : Bool) (f : b ≡ shaped q.envelope words) where
  abbrev with : Outcome Marked
  with = open_with q site run words marks

  pub open_shapeless : not b ≡ true → Opens marks with (Err (refusal WrongShape 0)) marks
  unfolding open_with
  open_shapeless t = opens_bad marks with WrongShape 0 (rw (← f, not-true b t))

  module _ (s : not b ≡ false) where
    shape : shaped q.envelope words ≡ true
    shape = sym f ∙ not-false b s

    pub open_past : 7 < site → Opens marks with (Err (refusal BeyondLimit 0)) marks
    unfolding open_with
    open_past h = opens_bad marks with BeyondLimit 0 (rw (shape, lt-ltb 7 site h))

    module _ (h : site ≤ 7) (papers : GoodPapers q) (here : List Bool) (l : here ≡ here_at q.envelope site) (v : Verdict) (after : List ℕ)
        (g : v ≡ verdict_of (open_outcome q.envelope words (λ r. get_or here r false) marks))
        (k : after ≡ value_of marks (open_outcome q.envelope words (λ r. get_or here r false) marks)) where
      pub open_refused : (y : Refusal) → v ≡ Err y → Opens marks with (Err y) after
      unfolding open_with
      open_refused y t =
          let (short, is, stays) =
          marks_short q.envelope papers.within words shape marks (λ r. get_or here r false) v after g k y t in
          let found : with ≡ bad TooShort 0 =
          rw (shape, le-ltb 7 site h, lt-ltb (length marks) (row_count q.envelope words) short) in
          rw (is, stays) (opens_bad marks with TooShort 0 found)

      pub open_taken : v ≡ Ok (tt {0}) → (x : End) → x ≡ start_of q site run → Opens marks with (Ok x) after
      unfolding open_with
      open_taken t x e =
          let (room, d) = marks_opened q.envelope papers.within words shape marks (λ r. get_or here r false) v after g k t in
          let found
          : with
          ≡ good (record { end = start_of q site run; marks = opened_in q.envelope words (is_at q.envelope site) marks }) 0 =
          rw (shape, le-ltb 7 site h, le-ltb (length marks) (row_count q.envelope words) room) in
          opens_good marks with _ 0 x after found e
          (d ∙ ap (λ (f : ℕ → Bool). opened_in q.envelope words f marks) (here_at_lem q.envelope site here l))

-- ---- the whole call

module _ (e : Envelope) (p : Program) (site run : ℕ) (words marks : List ℕ) (r : Result Papers Refusal) (g : r ≡ taken_of (papers_of e p)) where
  abbrev whole : Outcome Marked
  whole = open_of e p site run words marks

  pub open_papers : (y : Refusal) → r ≡ Err y → Opens marks whole (Err y) marks
  unfolding open_of
  open_papers y h =
      opens_bad marks whole y.reason y.position
      (ap (λ (o : Outcome Papers). next o (λ q _. open_with q site run words marks)) (value_bad (papers_of e p) r y g h))

  module _ (q : Papers) (h : r ≡ Ok q) where
    pub open_good : GoodPapers q
    open_good = let (u, found) = value_good (papers_of e p) r q g h in papers_sound e p q u found

    pub open_goes : (z : Result End Refusal) (after : List ℕ) → Opens marks (open_with q site run words marks) z after → Opens marks whole z after
    unfolding open_of
    open_goes z after k =
        let (u, papers) = value_good (papers_of e p) r q g h in
        let found : whole ≡ open_with q site run words marks =
        ap (λ (o : Outcome Papers). next o (λ q _. open_with q site run words marks)) papers in
        (k.0 ∙ ap opened_end (sym found), k.1 ∙ ap (opened_marks marks) (sym found))
