-- The laws of an envelope's parts: a list of a kind read into an array, once for all four lists, and the envelope with it.
use mathlib.Core.Path.{◌≡◌, ap}
use Prim.Native.Nat.{ℕ}
use mathlib.Core.List.{List}
use lib.ListN.{length}
use Rattle.std.specs.Prelude.{Result, Ok, Err}
use Rattle.ground.specs.Lists.{padded}
use Rattle.ground.specs.Outcome.{Outcome, read_of}
use Rattle.ground.specs.Outcome.Outcome.{good}
use Rattle.ground.specs.declared.refusals.Refusal.{Refusal}
use Rattle.fields.specs.Lists.{counted}
use Rattle.fields.proofs.ListCodeLaws.{list_refused, list_taken}
use Rattle.envelopes.specs.Envelope.{filled, list_into}
use Rattle.contents.specs.declared.envelope.Envelope.{Envelope}

module _ {A : Type 0} (low size : ℕ) (z : A) (put : List A → Envelope → Envelope) (item : ℕ → Outcome A) (s : List ℕ) (at : ℕ) (e : Envelope)
    (r : Result ((ℕ × List A) × ℕ) Refusal) (g : r ≡ read_of (counted low size z item s at)) where
  abbrev with_list : ℕ → List A → ℕ → Outcome Envelope
  with_list n vs q = good (put vs e) q

  pub part_refused : (x : Refusal) → r ≡ Err x → Err x ≡ read_of (list_into low size put item s at e)
  unfolding list_into filled
  part_refused x h = list_refused low size z item s at with_list r g x h

  pub part_is : (n : ℕ) (l : List A) (q : ℕ) (x : Envelope) → r ≡ Ok ((n, l), q)
      → ((vs : List A) → n ≡ length vs → l ≡ padded size z vs → x ≡ put vs e) → Ok (x, q) ≡ read_of (list_into low size put item s at e)
  unfolding list_into filled read_of
  part_is n l q x h y =
      let (vs, count, list, is) = list_taken low size z item s at with_list r g n l q h in
      rw is (ap (λ (f : Envelope). Ok (f, q)) (y vs count list))
