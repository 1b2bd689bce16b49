-- "Kept columns are those in a clause or target." Refusal 9: "relation with no kept column", "lowest such".
use Rattle.std.specs.Prelude.{Option, Some, None, ℕ, List, Bool, ◌||◌, length, nat_lt}
use Rattle.ground.specs.Tests.{pick}
use Rattle.ground.specs.Lists.{filter, any, empty, below, padded}
use Rattle.ground.specs.Searching.{first_from}
use Rattle.entries.specs.Places.{place, same_place}
use Rattle.contents.specs.Parts.{clauses_of, targets_of, relation_count, columns_in}
use Rattle.entries.specs.declared.places.Place.{Place}
use Rattle.entries.specs.declared.clauses.Clause.{Clause}
use Rattle.entries.specs.declared.clauses.ClauseKind.{ClauseKind}
use Rattle.entries.specs.declared.clauses.ClauseKind.TheVariants.{Selection, Join}
use Rattle.contents.specs.declared.envelope.Envelope.{Envelope}
use Rattle.contents.specs.declared.kept.Columns.{Columns}

-- a clause names a column
unfoldable pub names : ClauseKind → Place → Bool
names (Selection a v) x = same_place a x
names (Join a b) x = same_place a x || same_place b x

-- a column stands in a clause or target
unfoldable pub kept : Envelope → Place → Bool
kept e x = any (λ (c : Clause). names c.kind x) (clauses_of e) || any (λ (t : Place). same_place t x) (targets_of e)

-- the kept columns of a relation, by number
unfoldable pub kept_columns : Envelope → ℕ → List ℕ
kept_columns e r = filter (λ c. kept e (place r c)) (below (columns_in e r))

-- the lowest relation with no kept column, or the number of relations
unfoldable pub first_bare : Envelope → ℕ
first_bare e = first_from (λ r. empty (kept_columns e r)) 0 (relation_count e)

-- what the functions answer
abbrev pub shown_columns : List ℕ → Columns
shown_columns l = record { count = length l; numbers = padded 8 0 l }

abbrev pub lowest_bare : Envelope → Option ℕ
lowest_bare e = pick (nat_lt (first_bare e) (relation_count e)) (Some (first_bare e)) None
