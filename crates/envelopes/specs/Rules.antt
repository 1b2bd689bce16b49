-- "Sizes", as statements: what holds of every envelope that is taken, and of no other.
-- "Domains 1 to 16, each of size 1 to 16,777,215. Relations 1 to 8, columns 1 to 8 each, sites 0 to 7. Estimated rows 0
-- to 1,000,000. Column width 1 to 255. Distinct count at most the rows and at most the domain size, and 0 exactly when
-- rows are 0. Clauses 0 to 12, target columns 1 to 16 .. Table and selection values are any 32-bit number."
-- With these: clauses and targets name columns that exist, a join has one domain and two columns, and each relation has
-- a kept column.
use Rattle.std.specs.Prelude.{ℕ, ◌≤◌, ◌<◌, ◌^◌, ◌≡◌, false, List, map, length, slice_index, slice_index_or}
use Rattle.ground.specs.Lists.{Every, below, empty}
use Rattle.entries.specs.Relations.{past_relation, column_count, columns_of, relation_with}
use Rattle.entries.specs.Places.{same_place}
use Rattle.entries.specs.Clauses.{domain_of}
use Rattle.contents.specs.Parts.{sizes_of, relations_of, clauses_of, targets_of, no_envelope, with_version, with_sizes, with_relations, with_clauses, with_targets}
use Rattle.contents.specs.Kept.{kept_columns}
use Rattle.entries.specs.declared.places.Place.{Place}
use Rattle.entries.specs.declared.relations.Column.{Column}
use Rattle.entries.specs.declared.relations.Relation.{Relation}
use Rattle.entries.specs.declared.clauses.Clause.{Clause}
use Rattle.entries.specs.declared.clauses.ClauseKind.{ClauseKind}
use Rattle.entries.specs.declared.clauses.ClauseKind.TheVariants.{Selection, Join}
use Rattle.contents.specs.declared.envelope.Envelope.{Envelope}

abbrev pub Between : ℕ → ℕ → ℕ → Type 0
Between low high v = (low ≤ v) × (v ≤ high)

pub record ColumnWithin (sizes : List ℕ) (rows : ℕ) (c : Column) : Type 0 where
  pub domain : c.domain < length sizes
  pub width : Between 1 255 c.width
  pub few : c.distinct ≤ rows
  pub inside : c.distinct ≤ slice_index sizes c.domain
  -- with few: 0 exactly when rows are 0
  pub zero : c.distinct ≡ 0 → rows ≡ 0

pub record RelationWithin (sizes : List ℕ) (r : Relation) : Type 0 where
  pub site : r.site ≤ 7
  pub count : Between 1 8 r.column_count
  pub rows : r.rows ≤ 1000000
  pub columns : Every (ColumnWithin sizes r.rows) (columns_of r)
  pub whole : length (columns_of r) ≡ r.column_count

-- a column that exists
pub record PlaceWithin (relations : List Relation) (a : Place) : Type 0 where
  pub relation : a.relation < length relations
  pub column : a.column < column_count (slice_index_or relations a.relation past_relation)

abbrev pub KindWithin : List Relation → ClauseKind → Type 0
KindWithin relations (Selection a v) = PlaceWithin relations a × (v < 2 ^ 32)
KindWithin relations (Join a b) =
    PlaceWithin relations a × PlaceWithin relations b × (domain_of relations a ≡ domain_of relations b) × (same_place a b ≡ false)

abbrev pub ClauseWithin : List Relation → Clause → Type 0
ClauseWithin relations c = KindWithin relations c.kind

-- the sizes and rules; whole says that each array is as long as its count asks
pub record Within (e : Envelope) : Type 0 where
  pub version : e.version ≡ 1
  pub domains : Between 1 16 e.domain_count
  pub sizes : Every (Between 1 16777215) (sizes_of e)
  pub relations : Between 1 8 e.relation_count
  pub each : Every (RelationWithin (sizes_of e)) (relations_of e)
  pub clauses : e.clause_count ≤ 12
  pub rules : Every (ClauseWithin (relations_of e)) (clauses_of e)
  pub targets : Between 1 16 e.target_count
  pub named : Every (PlaceWithin (relations_of e)) (targets_of e)
  pub kept : Every (λ (r : ℕ). empty (kept_columns e r) ≡ false) (below (length (relations_of e)))
  pub whole_sizes : length (sizes_of e) ≡ e.domain_count
  pub whole_relations : length (relations_of e) ≡ e.relation_count
  pub whole_clauses : length (clauses_of e) ≡ e.clause_count
  pub whole_targets : length (targets_of e) ≡ e.target_count

-- the same relation, the same envelope, with zeros where the arrays are not in use
unfoldable pub tidy_relation : Relation → Relation
tidy_relation r = relation_with r.site r.column_count r.rows (columns_of r)

unfoldable pub tidy : Envelope → Envelope
tidy e =
    with_targets (targets_of e)
    (with_clauses (clauses_of e)
    (with_relations (map tidy_relation (relations_of e))
    (with_sizes (sizes_of e)
    (with_version e.version no_envelope))))
