-- A column named by its relation, "relation 1, column 1": in clauses, targets and steps.
use Rattle.std.specs.Prelude.{ℕ, List, ◌++◌, Bool, ◌&&◌, slice_index_or, nat_eq}
use Rattle.ground.specs.Outcome.{Outcome, next}
use Rattle.ground.specs.Outcome.Outcome.{good}
use Rattle.ground.specs.Bytes.{bytes_of}
use Rattle.fields.specs.Numbers.{number_below}
use Rattle.entries.specs.Relations.{no_column, past_relation, column_count}
use Rattle.entries.specs.declared.places.Place.{Place}
use Rattle.entries.specs.declared.relations.Column.{Column}
use Rattle.entries.specs.declared.relations.Relation.{Relation}

abbrev pub place : ℕ → ℕ → Place
place r c = record { relation = r; column = c }

abbrev pub no_place : Place
no_place = place 0 0

unfoldable pub same_place : Place → Place → Bool
same_place a b = nat_eq a.relation b.relation && nat_eq a.column b.column

-- the column that a place names: the empty one where there is no such relation or no such place in its array
abbrev pub named_column : List Relation → Place → Column
named_column relations a = slice_index_or (slice_index_or relations a.relation past_relation).columns a.column no_column

-- a relation of the count, and a column of that relation
unfoldable pub place_at : ℕ → List Relation → List ℕ → ℕ → Outcome Place
place_at count relations s at =
    next (number_below 1 count s at)
    (λ r p. next (number_below 1 (column_count (slice_index_or relations r past_relation)) s p)
    (λ c q. good (place r c) q))

unfoldable pub place_bytes : Place → List ℕ
place_bytes a = bytes_of 1 a.relation ++ bytes_of 1 a.column
