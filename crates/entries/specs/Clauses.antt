-- "A clause is either a selection or a join: byte 1, relation, column, value (4 bytes), or byte 2, relation, column,
-- relation, column." "Within a clause or step the range of each number comes first, then 5, 6 or 8; a column joined with
-- itself gives 6."
use Rattle.std.specs.Prelude.{ℕ, List, ◌++◌, nat_eq}
use Rattle.ground.specs.Tests.{pick}
use Rattle.ground.specs.Outcome.{Outcome, next}
use Rattle.ground.specs.Outcome.Outcome.{good, bad}
use Rattle.ground.specs.Bytes.{bytes_of}
use Rattle.ground.specs.declared.refusals.Reason.TheVariants.{TwoDomains, SameColumn}
use Rattle.fields.specs.Numbers.{number_at, number_in}
use Rattle.entries.specs.Places.{no_place, same_place, named_column, place_at, place_bytes}
use Rattle.entries.specs.declared.places.Place.{Place}
use Rattle.entries.specs.declared.relations.Relation.{Relation}
use Rattle.entries.specs.declared.clauses.Clause.{Clause}
use Rattle.entries.specs.declared.clauses.ClauseKind.{ClauseKind}
use Rattle.entries.specs.declared.clauses.ClauseKind.TheVariants.{Selection, Join}

abbrev pub clause : ClauseKind → Clause
clause k = record { kind = k }

abbrev pub no_clause : Clause
no_clause = clause (Selection no_place 0)

-- the domain of a column; 0, which is a domain's number too, where there is no such relation or no such place in its array
unfoldable pub domain_of : List Relation → Place → ℕ
domain_of relations a = (named_column relations a).domain

-- a column, and a value of 32 bits
unfoldable pub selection_at : ℕ → List Relation → List ℕ → ℕ → Outcome Clause
selection_at count relations s at =
    next (place_at count relations s at)
    (λ a p. next (number_at 4 s p)
    (λ v q. good (clause (Selection a v)) q))

-- two columns that are in range: of one domain, and not the same; else the refusal has the clause's start
unfoldable pub joined : List Relation → ℕ → Place → Place → ℕ → Outcome Clause
joined relations start a b q =
    pick (nat_eq (domain_of relations a) (domain_of relations b))
    (pick (same_place a b) (bad SameColumn start) (good (clause (Join a b)) q))
    (bad TwoDomains start)

unfoldable pub join_at : ℕ → List Relation → List ℕ → ℕ → ℕ → Outcome Clause
join_at count relations s start at =
    next (place_at count relations s at)
    (λ a p. next (place_at count relations s p)
    (λ b q. joined relations start a b q))

-- byte 1, a selection; byte 2, a join
unfoldable pub clause_at : ℕ → List Relation → List ℕ → ℕ → Outcome Clause
clause_at count relations s at =
    next (number_in 1 1 2 s at)
    (λ kind p. pick (nat_eq kind 1) (selection_at count relations s p) (join_at count relations s at p))

unfoldable pub kind_bytes : ClauseKind → List ℕ
kind_bytes (Selection a v) = bytes_of 1 1 ++ place_bytes a ++ bytes_of 4 v
kind_bytes (Join a b) = bytes_of 1 2 ++ place_bytes a ++ place_bytes b

abbrev pub clause_bytes : Clause → List ℕ
clause_bytes c = kind_bytes c.kind
