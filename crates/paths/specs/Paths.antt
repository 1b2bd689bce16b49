-- "Columns and constants are nodes, clauses are edges. H: a constant belongs to its column's domain, so 5 in two domains is
-- two nodes. Everything joined by a path is equal".
use Rattle.std.specs.Prelude.{Bool, false, ◌&&◌, ◌||◌, ◌≡◌, ℕ, nat_eq}
use mathlib.Core.List.{List, [], ◌∷◌, map, Memᴰ}
use Rattle.entries.specs.Places.{same_place}
use Rattle.entries.specs.Clauses.{domain_of}
use Rattle.contents.specs.Parts.{clauses_of}
use Rattle.entries.specs.declared.places.Place.{Place}
use Rattle.entries.specs.declared.relations.Relation.{Relation}
use Rattle.entries.specs.declared.clauses.Clause.{Clause}
use Rattle.entries.specs.declared.clauses.ClauseKind.{ClauseKind}
use Rattle.entries.specs.declared.clauses.ClauseKind.TheVariants.{Selection, Join}
use Rattle.contents.specs.declared.envelope.Envelope.{Envelope}

-- a column, or a constant of a domain
pub data Node : Type 0 where
  column : Place → Node
  constant : ℕ → ℕ → Node

abbrev pub same_node : Node → Node → Bool
same_node (column a) (column b) = same_place a b
same_node (column a) (constant d v) = false
same_node (constant d v) (column b) = false
same_node (constant d v) (constant c u) = nat_eq d c && nat_eq v u

pub record Edge : Type 0 where
  pub from : Node
  pub to : Node

abbrev pub edge_of : List Relation → ClauseKind → Edge
edge_of relations (Selection a v) = record { from = column a; to = constant (domain_of relations a) v }
edge_of relations (Join a b) = record { from = column a; to = column b }

unfoldable pub edges : Envelope → List Edge
edges e = map (λ (c : Clause). edge_of e.relations c.kind) (clauses_of e)

-- a path: from a node to itself, or along an edge, either way, and on
pub data PathBetween (es : List Edge) : Node → Node → Type 0 where
  stay : {x y : Node} → x ≡ y → PathBetween es x y
  along : {x y : Node} (e : Edge) → Memᴰ e es → x ≡ e.from → PathBetween es e.to y → PathBetween es x y
  back : {x y : Node} (e : Edge) → Memᴰ e es → x ≡ e.to → PathBetween es e.from y → PathBetween es x y

-- the test for a path: with one edge more, two nodes are linked if they were, or if each was linked to another end of it
abbrev pub linked : List Edge → Node → Node → Bool
linked [] x y = same_node x y
linked (e ∷ es) x y =
    linked es x y || (linked es x e.from && linked es e.to y || linked es x e.to && linked es e.from y)

-- a path of the envelope's clauses joins two nodes
unfoldable pub on_path : Envelope → Node → Node → Bool
on_path e x y = linked (edges e) x y
