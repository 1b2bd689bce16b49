-- The laws of places: what equality of two says, and each return of the functions that read one.
use mathlib.Core.Path.{◌≡◌, refl, ◌∙◌}
use Prim.Native.Nat.{ℕ, ◌<◌}
use native.Mathlib.Omega.{arith}
use mathlib.Core.List.{List}
use mathlib.Core.Bool.{Bool, ◌&&◌}
use lib.Dec.{eqb}
use lib.ListN.{get_or}
use Rattle.std.specs.Prelude.{Result, Ok, Err}
use Rattle.ground.specs.Outcome.{read_of}
use Rattle.ground.specs.declared.refusals.Refusal.{Refusal}
use Rattle.ground.proofs.OutcomeLaws.{passes_on, goes_on}
use Rattle.fields.specs.Numbers.{number_below}
use Rattle.fields.proofs.NumberLaws.{read_below}
use Rattle.entries.specs.Relations.{past_relation, column_count}
use Rattle.entries.specs.Places.{place, same_place, place_at}
use Rattle.entries.specs.declared.places.Place.{Place}
use Rattle.entries.specs.declared.relations.Relation.{Relation}

-- what the derived equality of places answers is what specs say of two
pub same_is : (a b : Place) (t : Bool) → t ≡ (eqb a.relation b.relation && eqb a.column b.column) → t ≡ same_place a b
unfolding same_place
same_is a b t e = e

-- ---- each return of read_place

module _ (count : ℕ) (relations : List Relation) (s : List ℕ) (at : ℕ) (r : Result (ℕ × ℕ) Refusal)
    (e : r ≡ read_of (number_below 1 count s at)) where
  pub place_no_relation : (x : Refusal) → r ≡ Err x → Err x ≡ read_of (place_at count relations s at)
  unfolding place_at
  place_no_relation x g = passes_on (number_below 1 count s at) _ r e x g

  module _ (v p : ℕ) (g : r ≡ Ok (v, p)) (k : ℕ) (h : k ≡ column_count (get_or relations v past_relation))
      (r' : Result (ℕ × ℕ) Refusal) (e' : r' ≡ read_of (number_below 1 k s p)) where
    second : r' ≡ read_of (number_below 1 (column_count (get_or relations v past_relation)) s p)
    second = e' ∙ simp h

    pub place_no_column : (x : Refusal) → r' ≡ Err x → Err x ≡ read_of (place_at count relations s at)
    unfolding place_at
    place_no_column x g' =
        goes_on (number_below 1 count s at) _ r e v p _ g
        (passes_on (number_below 1 (column_count (get_or relations v past_relation)) s p) _ r' second x g')

    pub place_is : (c q : ℕ) → r' ≡ Ok (c, q) → Ok (place v c, q) ≡ read_of (place_at count relations s at)
    unfolding place_at read_of
    place_is c q g' =
        goes_on (number_below 1 count s at) _ r e v p _ g
        (goes_on (number_below 1 (column_count (get_or relations v past_relation)) s p) _ r' second c q _ g' refl)

    -- a column that was read is below 8
    pub column_few : (c q : ℕ) → r' ≡ Ok (c, q) → c < 8
    column_few c q g' = omega (arith, read_below 1 s p r' c q g' (column_count (get_or relations v past_relation)) second)
