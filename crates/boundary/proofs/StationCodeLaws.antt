-- The laws of the calls on an end that was opened: each return.
use mathlib.Core.Path.{◌≡◌, refl, sym, ap, ◌∙◌}
use mathlib.Core.List.{List}
use Prim.Native.Nat.{ℕ, ◌≤◌, ◌<◌}
use lib.ListN.{length}
use borrow.Author.Tests.{lt-ltb, le-ltb}
use Rattle.std.specs.Prelude.{Result, Ok, Err}
use Rattle.ground.specs.Outcome.{Outcome, Verdict, taken_of, verdict_of, leaves}
use Rattle.ground.specs.Outcome.Outcome.{bad}
use Rattle.ground.specs.Refusals.{refusal}
use Rattle.ground.specs.declared.refusals.Reason.{Reason}
use Rattle.ground.specs.declared.refusals.Reason.TheVariants.{BeyondLimit}
use Rattle.ground.specs.declared.refusals.Refusal.{Refusal}
use Rattle.ground.proofs.OutcomeLaws.{verdict_bad}
use Rattle.fields.proofs.PutLaws.{Writes}
use Rattle.station.specs.Making.{make_values_of, make_rows_of}
use Rattle.station.specs.Receiving.{Held, receive_of, received_marks, received_store}
use Rattle.ends.specs.declared.ends.End.{End}
use Rattle.answerer.specs.Assembly.{assembled_outcome}
use Rattle.boundary.specs.States.{state_after}
use Rattle.boundary.specs.Given.{end_in}
use Rattle.boundary.specs.Stations.{make_values_from, make_rows_from, receive_given, receive_from, received_state, answer_end_from}
use Rattle.boundary.proofs.CallLaws.{refused_says, taken_says, writes_ends, writes_goes, leaves_same, leaves_taken}

-- ---- a call that writes: making, and answering

module _ (e p s words marks : List ℕ) (n : ℕ) (out : List ℕ) (c : Result End Refusal) (g : c ≡ taken_of (end_in e p s)) where
  abbrev values : End → Outcome (List ℕ)
  values x = make_values_of x words marks n (length out)

  abbrev rows : End → Outcome (List ℕ)
  rows x = make_rows_of x words marks n (length out)

  pub values_refused : (x : Refusal) → c ≡ Err x → Writes 0 out (make_values_from e p s words marks n (length out)) (Err x) out
  unfolding make_values_from
  values_refused = writes_ends (end_in e p s) values out c g

  pub values_made : (x : End) → c ≡ Ok x → (v : Result ℕ Refusal) (after : List ℕ) → Writes 0 out (values x) v after
      → Writes 0 out (make_values_from e p s words marks n (length out)) v after
  unfolding make_values_from
  values_made = writes_goes (end_in e p s) values out c g

  pub rows_refused : (x : Refusal) → c ≡ Err x → Writes 0 out (make_rows_from e p s words marks n (length out)) (Err x) out
  unfolding make_rows_from
  rows_refused = writes_ends (end_in e p s) rows out c g

  pub rows_made : (x : End) → c ≡ Ok x → (v : Result ℕ Refusal) (after : List ℕ) → Writes 0 out (rows x) v after
      → Writes 0 out (make_rows_from e p s words marks n (length out)) v after
  unfolding make_rows_from
  rows_made = writes_goes (end_in e p s) rows out c g

module _ (e p s store out : List ℕ) (c : Result End Refusal) (g : c ≡ taken_of (end_in e p s)) where
  abbrev assembling : End → Outcome (List ℕ)
  assembling x = assembled_outcome x store (length out)

  pub end_answer_refused : (x : Refusal) → c ≡ Err x → Writes 0 out (answer_end_from e p s store (length out)) (Err x) out
  unfolding answer_end_from
  end_answer_refused = writes_ends (end_in e p s) assembling out c g

  pub end_answer_taken : (x : End) → c ≡ Ok x → (v : Result ℕ Refusal) (after : List ℕ) → Writes 0 out (assembling x) v after
      → Writes 0 out (answer_end_from e p s store (length out)) v after
  unfolding answer_end_from
  end_answer_taken = writes_goes (end_in e p s) assembling out c g

-- ---- receiving

module _ (x : End) (s words marks store m : List ℕ) where
  abbrev Receives : Verdict → List ℕ → List ℕ → List ℕ → Type 0
  Receives v last after held =
      (v ≡ verdict_of (receive_given x words marks store m))
      × (last ≡ received_state s (receive_given x words marks store m))
      × (after ≡ received_marks marks (receive_given x words marks store m))
      × (held ≡ received_store store (receive_given x words marks store m))

  receives_bad : (n : Reason) (u : ℕ) → receive_given x words marks store m ≡ bad n u → Receives (Err (refusal n u)) s marks store
  unfolding verdict_of
  receives_bad n u found =
      (ap verdict_of (sym found), leaves_same _ s _ n u found, leaves_same _ marks _ n u found, leaves_same _ store _ n u found)

  pub receive_long : 4294967295 < length store → Receives (Err (refusal BeyondLimit 0)) s marks store
  unfolding receive_given
  receive_long h = receives_bad BeyondLimit 0 (rw (lt-ltb 4294967295 (length store) h) refl)

  module _ (h : length store ≤ 4294967295) (z : Verdict) (y : End) (after held : List ℕ)
      (g : (z ≡ verdict_of (receive_of x words marks store m))
      × (y ≡ leaves (λ (h : Held). h.end) x (receive_of x words marks store m))
      × (after ≡ received_marks marks (receive_of x words marks store m))
      × (held ≡ received_store store (receive_of x words marks store m))) where
    as_received : receive_given x words marks store m ≡ receive_of x words marks store m
    unfolding receive_given
    as_received = rw (le-ltb 4294967295 (length store) h) refl

    verdict_received : z ≡ verdict_of (receive_given x words marks store m)
    verdict_received = g.0 ∙ ap verdict_of (sym as_received)

    pub receive_refused : (r : Refusal) → z ≡ Err r → Receives (Err r) s after held
    receive_refused r t = (
      sym t ∙ verdict_received,
      leaves_same _ s _ r.reason r.position (verdict_bad _ z r verdict_received t),
      g.2 ∙ ap (received_marks marks) (sym as_received),
      g.3 ∙ ap (received_store store) (sym as_received),
    )

    pub receive_taken : z ≡ Ok (tt {0}) → (last : List ℕ) → last ≡ state_after y s → Receives (Ok (tt {0})) last after held
    receive_taken t last l = (
      sym t ∙ verdict_received,
      l
          ∙ ap (λ (y : End). state_after y s) g.1
          ∙ leaves_taken (λ (y : End). state_after y s) (λ (h : Held). h.end) x s (receive_of x words marks store m) (sym g.0 ∙ t)
          ∙ ap (received_state s) (sym as_received),
      g.2 ∙ ap (received_marks marks) (sym as_received),
      g.3 ∙ ap (received_store store) (sym as_received),
    )

module _ (e p s words marks store m : List ℕ) (c : Result End Refusal) (g : c ≡ taken_of (end_in e p s)) where
  abbrev Receiving : Verdict → List ℕ → List ℕ → List ℕ → Outcome Held → Type 0
  Receiving v last after held o =
      (v ≡ verdict_of o) × (last ≡ received_state s o) × (after ≡ received_marks marks o) × (held ≡ received_store store o)

  abbrev receiving : End → Outcome Held
  receiving x = receive_given x words marks store m

  pub all_refused : (x : Refusal) → c ≡ Err x → Receiving (Err x) s marks store (receive_from e p s words marks store m)
  unfolding receive_from verdict_of leaves
  all_refused x h = refused_says (end_in e p s) receiving c g (Receiving (Err x) s marks store) x h (refl, refl, refl, refl)

  pub all_taken : (x : End) → c ≡ Ok x → (v : Verdict) (last after held : List ℕ) → Receiving v last after held (receiving x)
      → Receiving v last after held (receive_from e p s words marks store m)
  unfolding receive_from
  all_taken x h v last after held l = taken_says (end_in e p s) receiving c g (Receiving v last after held) x h l
