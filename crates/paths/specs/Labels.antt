-- How the code finds out what is on a path: each node of an envelope has a number, each number a label, and along each
-- edge the two ends' labels are made one. The law labels_path says that the labels of two nodes of an envelope that was taken are
-- equal exactly where a path joins them; in another struct a clause may name a column 8, which has the number of another node.
use Rattle.std.specs.Prelude.{◌≡◌, Bool, true, false, ◌&&◌, ℕ, ◌+◌, ◌*◌, ◌<◌, min, nat_eq, slice_index, slice_index_or}
use mathlib.Core.List.{List, [], ◌∷◌, map, Memᴰ}
use Rattle.ground.specs.Tests.{pick}
use Rattle.ground.specs.Lists.{below}
use Rattle.ground.specs.Searching.{first_from}
use Rattle.entries.specs.Clauses.{no_clause, domain_of}
use Rattle.contents.specs.Parts.{clauses_of}
use Rattle.entries.specs.declared.clauses.Clause.{Clause}
use Rattle.entries.specs.declared.clauses.ClauseKind.{ClauseKind}
use Rattle.entries.specs.declared.clauses.ClauseKind.TheVariants.{Selection, Join}
use Rattle.entries.specs.declared.relations.Relation.{Relation}
use Rattle.contents.specs.declared.envelope.Envelope.{Envelope}
use Rattle.paths.specs.Paths.{Node, column, constant, Edge, edges}

-- a clause selects a constant of a domain
unfoldable pub selects : List Relation → ℕ → ℕ → ClauseKind → Bool
selects relations d v (Selection a u) = nat_eq (domain_of relations a) d && nat_eq u v
selects relations d v (Join a b) = false

-- a node of an envelope: one of the 8 columns of one of the 8 relations that it can have, or a constant that one of its
-- clauses selects
abbrev pub NodeOf : Envelope → Node → Type 0
NodeOf e (column a) = (a.relation < 8) × (a.column < 8)
NodeOf e (constant d v) = (c : Clause) × Memᴰ c (clauses_of e) × (selects e.relations d v c.kind ≡ true)

-- columns 8 to a relation, then constants by the first clause that selects them
unfoldable pub number_of : Envelope → Node → ℕ
number_of e (column a) = 8 * a.relation + a.column
number_of e (constant d v) =
    64 + first_from (λ i. selects e.relations d v (slice_index_or e.clauses i no_clause).kind) 0 (min 12 e.clause_count)

-- every label a becomes b
unfoldable pub relabel : ℕ → ℕ → List ℕ → List ℕ
relabel a b l = map (λ (x : ℕ). pick (nat_eq x a) b x) l

-- the labels of two numbers made one
unfoldable pub united : ℕ → ℕ → List ℕ → List ℕ
united x y l = relabel (slice_index l x) (slice_index l y) l

-- a label of its own for each of the 76 numbers, then edge by edge, the last first
unfoldable pub labelled : Envelope → List Edge → List ℕ
labelled e [] = below 76
labelled e (g ∷ gs) = united (number_of e g.from) (number_of e g.to) (labelled e gs)

unfoldable pub labels_of : Envelope → List ℕ
labels_of e = labelled e (edges e)

-- the test for a path by labels
unfoldable pub by_labels : List ℕ → Envelope → Node → Node → Bool
by_labels l e x y = nat_eq (slice_index l (number_of e x)) (slice_index l (number_of e y))
