-- A column is read exactly as it is written. Relations are read from an array with places behind them that are not in
-- use; what is in range is not read from there.
use mathlib.Core.Path.{◌≡◌, refl, ap}
use mathlib.Core.List.{List, append-nil}
use Prim.Native.Nat.{ℕ, ◌≤◌, ◌<◌}
use native.Mathlib.Omega.{arith}
use lib.ListN.{length, get_or}
use Rattle.ground.specs.Lists.{padded}
use Rattle.ground.proofs.CollectingLaws.{padded_inside}
use Rattle.fields.specs.Exact.{Exact}
use Rattle.fields.proofs.ExactReading.{chained, done, restated}
use Rattle.fields.proofs.ExactNumbers.{below_exact}
use Rattle.entries.specs.Relations.{past_relation, no_relation, column_count}
use Rattle.entries.specs.Places.{place, place_at, place_bytes}
use Rattle.envelopes.specs.Rules.{PlaceWithin}
use Rattle.entries.specs.declared.places.Place.{Place}
use Rattle.entries.specs.declared.relations.Relation.{Relation}

-- a relation of the count, and a column of that relation
abbrev pub Named : ℕ → List Relation → Place → Type 0
Named count relations a = (a.relation < count) × (a.column < column_count (get_or relations a.relation past_relation))

pub place_exact : (count : ℕ) → count ≤ 256 → (relations : List Relation) (s : List ℕ) (at : ℕ)
    → Exact s at (place_at count relations s at) place_bytes (Named count relations)
unfolding place_at place_bytes
place_exact count small relations s at =
    restated s at (λ a _ _. simp append-nil) (λ a _ h. (h.0, h.1.0)) (λ a _ h. (h.0, (h.1, refl)))
    (chained s at (λ a. a.relation) (below_exact 1 s at count small)
    (λ r p _. chained s p (λ a. a.column)
    (below_exact 1 s p (column_count (get_or relations r past_relation)) (omega arith))
    (λ c q _. done s q (place r c))
    (λ c a q _ e. ap (λ (x : Place). x.column) e))
    (λ r a q _ h. ap (λ (x : Place). x.relation) h.1))

-- the same where the relations stand in an array
pub named_exact : (size : ℕ) (relations : List Relation) → length relations ≤ 256 → (s : List ℕ) (at : ℕ)
    → Exact s at (place_at (length relations) (padded size no_relation relations) s at) place_bytes (PlaceWithin relations)
named_exact size relations small s at =
    restated s at (λ _ _ _. refl)
    (λ a _ h. record { relation = h.0; column = rw (is a h.0) at h.1 })
    (λ a _ h. (h.relation, rw (is a h.relation) h.column))
    (place_exact (length relations) small (padded size no_relation relations) s at)
  where
    is : (a : Place) → a.relation < length relations
        → get_or (padded size no_relation relations) a.relation past_relation ≡ get_or relations a.relation past_relation
    is a h = padded_inside size no_relation relations a.relation past_relation h
