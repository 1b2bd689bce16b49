-- What the returns of receiving cite: 1, 13, then by what the second word speaks of.
use mathlib.Core.Path.{◌≡◌, ap, sym, ◌∙◌}
use mathlib.Core.List.{List}
use Prim.Native.Nat.{ℕ, ◌≤◌, ◌<◌, min}
use native.Mathlib.Omega.{arith}
use lib.ListN.{length, get_or}
use borrow.Author.Tests.{lt-ltb, le-ltb, eq-eqb, ne_eqb}
use Rattle.ground.specs.Outcome.{Outcome, Verdict, next, taken_of, verdict_of, leaves}
use Rattle.ground.specs.Outcome.Outcome.{good, bad}
use Rattle.ground.proofs.OutcomeLaws.{leaves_turned, verdict_turned, value_good, value_bad}
use Rattle.ground.specs.declared.refusals.Reason.TheVariants.{EndsInside, OtherRun, NotOurs}
use Rattle.papers.specs.declared.checks.Papers.{Papers}
use Rattle.ends.specs.Reducing.{step_count}
use Rattle.ends.specs.Ends.{Marked, usable}
use Rattle.ends.specs.Messages.{about_of}
use Rattle.station.specs.Receiving.{Stored, Held, values_taken, rows_taken, taken, receive_with, receive_of, received_marks, received_store}
use Rattle.ends.specs.declared.messages.About.{About}
use Rattle.ends.specs.declared.messages.About.TheVariants as about
use Rattle.ends.specs.declared.ends.End.{End}
use Rattle.ends.proofs.MessageLaws.{step_below, rows_below}
use Rattle.station.proofs.TakingCodeLaws.{verdict_refused, left_bad, stays}
use Rattle.ground.specs.declared.refusals.Reason.{Reason}
use Rattle.ground.specs.Refusals.{refusal}
use Rattle.std.specs.Prelude.{Result, Ok, Err}
use Rattle.ground.specs.declared.refusals.Refusal.{Refusal}

-- ---- by what the second word speaks of

module _ (x : End) (marks store : List ℕ) where
  abbrev Receives : Outcome Held → Verdict → End → List ℕ → List ℕ → Type 0
  Receives o z y after kept =
      (z ≡ verdict_of o) × (y ≡ leaves (λ (h : Held). h.end) x o) × (after ≡ received_marks marks o) × (kept ≡ received_store store o)

  receives_bad : (o : Outcome Held) (i : Reason) (p : ℕ) → o ≡ bad i p → Receives o (Err (refusal i p)) x marks store
  receives_bad o i p k = (
    verdict_refused o i p k,
    left_bad o (λ (h : Held). h.end) x i p k,
    left_bad o (λ (h : Held). h.marks) marks i p k,
    left_bad o (λ (h : Held). h.store) store i p k,
  )

module _ (q : Papers) (x : End) (words marks store m : List ℕ) where
  abbrev all : Outcome Held
  all = receive_with q x words marks store m

  pub receive_short : length m < 3 → Receives x marks store all (Err (refusal EndsInside 0)) x marks store
  unfolding receive_with
  receive_short h = receives_bad x marks store all EndsInside 0 (rw (lt-ltb (length m) 3 h))

  module _ (h : 3 ≤ length m) where
    pub receive_other : (get_or m 0 0 ≡ x.run → ⊥) → Receives x marks store all (Err (refusal OtherRun 0)) x marks store
    unfolding receive_with
    receive_other d = receives_bad x marks store all OtherRun 0 (rw (le-ltb (length m) 3 h, ne_eqb (get_or m 0 0) x.run d))

    module _ (d : get_or m 0 0 ≡ x.run) (steps relations : ℕ) (a : steps ≡ step_count q.program)
        (b : relations ≡ min 8 q.envelope.relation_count) (w : About) (c : w ≡ about_of steps relations (get_or m 1 0)) where
      by_about : all ≡ taken q x words marks store m w
      unfolding receive_with
      by_about = rw (le-ltb (length m) 3 h, eq-eqb (get_or m 0 0) x.run d, c, a, b)

      pub receive_nothing : w ≡ about.Nothing → Receives x marks store all (Err (refusal NotOurs 0)) x marks store
      unfolding taken
      receive_nothing t = receives_bad x marks store all NotOurs 0 (by_about ∙ rw t)

      pub receive_step : (n : ℕ) → w ≡ about.Step n → (z : Verdict) (y : End) (after : List ℕ)
          → (z ≡ verdict_of (values_taken q x words marks m n))
          × (y ≡ leaves (λ (s : Marked). s.end) x (values_taken q x words marks m n))
          × (after ≡ leaves (λ (s : Marked). s.marks) marks (values_taken q x words marks m n)) → Receives x marks store all z y after store
      unfolding taken
      receive_step n t z y after k =
          let o = values_taken q x words marks m n in
          let held : Marked → Held = λ s. record { end = s.end; marks = s.marks; store = store } in
          let found : all ≡ next o (λ s p. good (held s) p) = by_about ∙ rw t in (
            k.0 ∙ sym (ap verdict_of found ∙ verdict_turned held o),
            k.1 ∙ sym (ap (leaves (λ (h : Held). h.end) x) found ∙ leaves_turned held o (λ (h : Held). h.end) x),
            k.2 ∙ sym (ap (received_marks marks) found ∙ leaves_turned held o (λ (h : Held). h.marks) marks),
            stays store o ∙ sym (ap (received_store store) found ∙ leaves_turned held o (λ (h : Held). h.store) store),
          )

      pub receive_rows : (n : ℕ) → w ≡ about.Rows n → (z : Verdict) (y : End) (kept : List ℕ)
          → (z ≡ verdict_of (rows_taken q x store m n))
          × (y ≡ leaves (λ (s : Stored). s.end) x (rows_taken q x store m n))
          × (kept ≡ leaves (λ (s : Stored). s.store) store (rows_taken q x store m n)) → Receives x marks store all z y marks kept
      unfolding taken
      receive_rows n t z y kept k =
          let o = rows_taken q x store m n in
          let held : Stored → Held = λ s. record { end = s.end; marks = marks; store = s.store } in
          let found : all ≡ next o (λ s p. good (held s) p) = by_about ∙ rw t in (
            k.0 ∙ sym (ap verdict_of found ∙ verdict_turned held o),
            k.1 ∙ sym (ap (leaves (λ (h : Held). h.end) x) found ∙ leaves_turned held o (λ (h : Held). h.end) x),
            stays marks o ∙ sym (ap (received_marks marks) found ∙ leaves_turned held o (λ (h : Held). h.marks) marks),
            k.2 ∙ sym (ap (received_store store) found ∙ leaves_turned held o (λ (h : Held). h.store) store),
          )

-- a step that a word speaks of is one of so many, and a relation one of eight
module _ (steps relations second : ℕ) (w : About) (e : w ≡ about_of steps relations second) where
  pub spoken_step : (k : ℕ) → steps ≡ k → (n : ℕ) → w ≡ about.Step n → n < k
  spoken_step k f n t = rw f at (step_below steps relations second n (sym e ∙ t))

  pub spoken_rows : (k : ℕ) → relations ≡ min 8 k → (n : ℕ) → w ≡ about.Rows n → n < 8
  spoken_rows k f n t = omega (arith, rows_below steps relations second n (sym e ∙ t))

-- ---- the whole call

module _ (x : End) (words marks store m : List ℕ) (r : Result Papers Refusal) (k : r ≡ taken_of (usable x words (length marks))) where
  abbrev whole : Outcome Held
  whole = receive_of x words marks store m

  pub receive_refused : (e : Refusal) → r ≡ Err e → Receives x marks store whole (Err e) x marks store
  unfolding receive_of
  receive_refused e h =
      receives_bad x marks store whole e.reason e.position
      (ap (λ (o : Outcome Papers). next o (λ q _. receive_with q x words marks store m)) (value_bad (usable x words (length marks)) r e k h))

  pub receive_goes : (q : Papers) → r ≡ Ok q → (z : Verdict) (y : End) (after kept : List ℕ)
      → Receives x marks store (receive_with q x words marks store m) z y after kept → Receives x marks store whole z y after kept
  unfolding receive_of
  receive_goes q h z y after kept g =
      let (u, papers) = value_good (usable x words (length marks)) r q k h in
      let found : whole ≡ receive_with q x words marks store m =
      ap (λ (o : Outcome Papers). next o (λ q _. receive_with q x words marks store m)) papers in (
        g.0 ∙ ap verdict_of (sym found),
        g.1 ∙ ap (leaves (λ (h : Held). h.end) x) (sym found),
        g.2 ∙ ap (received_marks marks) (sym found),
        g.3 ∙ ap (received_store store) (sym found),
      )
