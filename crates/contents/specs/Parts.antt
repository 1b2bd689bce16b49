-- "Domain count ..; sizes ..; relation count ..; clause count ..; clauses; target count ..; targets": an envelope and its parts, what
-- its arrays have in use by these counts, and an envelope with one part replaced.
use Rattle.std.specs.Prelude.{ℕ, min, List, length, take, slice_index_or, replicate}
use Rattle.ground.specs.Lists.{padded}
use Rattle.entries.specs.Relations.{no_relation, past_relation, column_count}
use Rattle.entries.specs.Places.{no_place}
use Rattle.entries.specs.Clauses.{no_clause}
use Rattle.entries.specs.declared.places.Place.{Place}
use Rattle.entries.specs.declared.relations.Relation.{Relation}
use Rattle.entries.specs.declared.clauses.Clause.{Clause}
use Rattle.contents.specs.declared.envelope.Envelope.{Envelope}

-- what is in use: as many as the counts say
unfoldable pub sizes_of : Envelope → List ℕ
sizes_of e = take e.domain_count e.sizes

unfoldable pub relations_of : Envelope → List Relation
relations_of e = take e.relation_count e.relations

unfoldable pub clauses_of : Envelope → List Clause
clauses_of e = take e.clause_count e.clauses

unfoldable pub targets_of : Envelope → List Place
targets_of e = take e.target_count e.targets

-- how many relations an envelope has: its count, and no more than the array has
abbrev pub relation_count : Envelope → ℕ
relation_count e = min 8 e.relation_count

-- a relation of it, with no column where there is none; how many columns a relation has
abbrev pub relation_in : Envelope → ℕ → Relation
relation_in e r = slice_index_or (relations_of e) r past_relation

unfoldable pub columns_in : Envelope → ℕ → ℕ
columns_in e r = column_count (relation_in e r)

-- ---- one part replaced; behind it the array holds zeros

abbrev pub no_envelope : Envelope
no_envelope =
    record {
      version = 0;
      domain_count = 0;
      sizes = replicate 16 0;
      relation_count = 0;
      relations = replicate 8 no_relation;
      clause_count = 0;
      clauses = replicate 12 no_clause;
      target_count = 0;
      targets = replicate 16 no_place;
    }

unfoldable pub with_version : ℕ → Envelope → Envelope
with_version v e =
    record {
      version = v;
      domain_count = e.domain_count;
      sizes = e.sizes;
      relation_count = e.relation_count;
      relations = e.relations;
      clause_count = e.clause_count;
      clauses = e.clauses;
      target_count = e.target_count;
      targets = e.targets;
    }

unfoldable pub with_sizes : List ℕ → Envelope → Envelope
with_sizes sizes e =
    record {
      version = e.version;
      domain_count = length sizes;
      sizes = padded 16 0 sizes;
      relation_count = e.relation_count;
      relations = e.relations;
      clause_count = e.clause_count;
      clauses = e.clauses;
      target_count = e.target_count;
      targets = e.targets;
    }

unfoldable pub with_relations : List Relation → Envelope → Envelope
with_relations relations e =
    record {
      version = e.version;
      domain_count = e.domain_count;
      sizes = e.sizes;
      relation_count = length relations;
      relations = padded 8 no_relation relations;
      clause_count = e.clause_count;
      clauses = e.clauses;
      target_count = e.target_count;
      targets = e.targets;
    }

unfoldable pub with_clauses : List Clause → Envelope → Envelope
with_clauses clauses e =
    record {
      version = e.version;
      domain_count = e.domain_count;
      sizes = e.sizes;
      relation_count = e.relation_count;
      relations = e.relations;
      clause_count = length clauses;
      clauses = padded 12 no_clause clauses;
      target_count = e.target_count;
      targets = e.targets;
    }

unfoldable pub with_targets : List Place → Envelope → Envelope
with_targets targets e =
    record {
      version = e.version;
      domain_count = e.domain_count;
      sizes = e.sizes;
      relation_count = e.relation_count;
      relations = e.relations;
      clause_count = e.clause_count;
      clauses = e.clauses;
      target_count = length targets;
      targets = padded 16 no_place targets;
    }
