-- What is written is bytes, whatever is in the struct that is written.
use native.Mathlib.Omega.{arith}
use Rattle.ground.specs.Bytes.{Bytes}
use Rattle.ground.proofs.ByteLaws.{bytes_bytes, bytes_append, bytes_each}
use Rattle.entries.specs.Relations.{column_bytes, relation_bytes}
use Rattle.entries.specs.Places.{place_bytes}
use Rattle.entries.specs.Clauses.{kind_bytes, clause_bytes}
use Rattle.envelopes.specs.Envelope.{CPN, envelope_bytes}
use Rattle.entries.specs.declared.places.Place.{Place}
use Rattle.entries.specs.declared.relations.Column.{Column}
use Rattle.entries.specs.declared.relations.Relation.{Relation}
use Rattle.entries.specs.declared.clauses.Clause.{Clause}
use Rattle.entries.specs.declared.clauses.ClauseKind.{ClauseKind}
use Rattle.entries.specs.declared.clauses.ClauseKind.TheVariants.{Selection, Join}
use Rattle.contents.specs.declared.envelope.Envelope.{Envelope}

pub place_bytes_lem : (a : Place) → Bytes (place_bytes a)
unfolding place_bytes
place_bytes_lem a = search (bytes_append, bytes_bytes)

column_bytes_lem : (c : Column) → Bytes (column_bytes c)
unfolding column_bytes
column_bytes_lem c = search (bytes_append, bytes_bytes)

relation_bytes_lem : (r : Relation) → Bytes (relation_bytes r)
unfolding relation_bytes
relation_bytes_lem r = search (bytes_append, bytes_bytes, bytes_each, column_bytes_lem)

kind_bytes_lem : (k : ClauseKind) → Bytes (kind_bytes k)
unfolding kind_bytes
kind_bytes_lem (Selection a v) = search (bytes_append, bytes_bytes, place_bytes_lem)
kind_bytes_lem (Join a b) = search (bytes_append, bytes_bytes, place_bytes_lem)

clause_bytes_lem : (c : Clause) → Bytes (clause_bytes c)
clause_bytes_lem c = kind_bytes_lem c.kind

letters : Bytes CPN
letters = omega arith

pub envelope_bytes_lem : (e : Envelope) → Bytes (envelope_bytes e)
unfolding envelope_bytes
envelope_bytes_lem e = search (bytes_append, bytes_bytes, bytes_each, relation_bytes_lem, clause_bytes_lem, place_bytes_lem, letters) depth 12
