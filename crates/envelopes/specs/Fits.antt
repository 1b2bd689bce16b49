-- What the types of the fields say of a struct, whatever is in it: each number fits its bytes, each array has its size.
use Rattle.std.specs.Prelude.{ℕ, ◌<◌, ◌^◌, ◌≡◌, length}
use Rattle.ground.specs.Lists.{Every}
use Rattle.entries.specs.declared.places.Place.{Place}
use Rattle.entries.specs.declared.relations.Column.{Column}
use Rattle.entries.specs.declared.relations.Relation.{Relation}
use Rattle.entries.specs.declared.clauses.Clause.{Clause}
use Rattle.entries.specs.declared.clauses.ClauseKind.{ClauseKind}
use Rattle.entries.specs.declared.clauses.ClauseKind.TheVariants.{Selection, Join}
use Rattle.contents.specs.declared.envelope.Envelope.{Envelope}

pub record PlaceFits (a : Place) : Type 0 where
  pub relation : a.relation < 256
  pub column : a.column < 256

pub record ColumnFits (c : Column) : Type 0 where
  pub domain : c.domain < 256
  pub width : c.width < 256
  pub distinct : c.distinct < 2 ^ 32

pub record RelationFits (r : Relation) : Type 0 where
  pub site : r.site < 256
  pub count : r.column_count < 256
  pub rows : r.rows < 2 ^ 32
  pub columns : Every ColumnFits r.columns
  pub long : length r.columns ≡ 8

abbrev pub KindFits : ClauseKind → Type 0
KindFits (Selection a v) = PlaceFits a × (v < 2 ^ 32)
KindFits (Join a b) = PlaceFits a × PlaceFits b

abbrev pub ClauseFits : Clause → Type 0
ClauseFits c = KindFits c.kind

pub record Fits (e : Envelope) : Type 0 where
  pub version : e.version < 2 ^ 16
  pub domains : e.domain_count < 256
  pub sizes : Every (λ (n : ℕ). n < 2 ^ 32) e.sizes
  pub long_sizes : length e.sizes ≡ 16
  pub relations : e.relation_count < 256
  pub each : Every RelationFits e.relations
  pub long_relations : length e.relations ≡ 8
  pub clauses : e.clause_count < 256
  pub rules : Every ClauseFits e.clauses
  pub long_clauses : length e.clauses ≡ 12
  pub targets : e.target_count < 256
  pub named : Every PlaceFits e.targets
  pub long_targets : length e.targets ≡ 16
