-- "Implied: every selection R.A = k, every R.A = R.B, both local and always applied at the start." "Opening sets 1 where an own
-- row passes the local operations and 0 elsewhere." "Bytes past the last row stay." "Opening: 10, .. 11."
use Rattle.std.specs.Prelude.{ℕ, ◌<◌, ◌≡◌, Bool, ◌&&◌, List, map, length, nat_eq}
use Rattle.std.proofs.lemmas.List.Edits.{sets}
use Rattle.ground.specs.Tests.{pick}
use Rattle.ground.specs.Lists.{all, each, below}
use Rattle.ground.specs.Outcome.{Outcome, next}
use Rattle.ground.specs.Outcome.Outcome.{good}
use Rattle.ground.specs.Refusing.{judged}
use Rattle.entries.specs.Places.{place}
use Rattle.contents.specs.Parts.{relation_count, columns_in}
use Rattle.envelopes.specs.Envelope.{check_envelope}
use Rattle.contents.specs.declared.envelope.Envelope.{Envelope}
use Rattle.paths.specs.Paths.{column, constant, PathBetween, edges}
use Rattle.paths.specs.Labels.{NodeOf}
use Rattle.paths.specs.Implied.{implied_selections, implied_equalities}
use Rattle.paths.specs.Meaning.{Row, word_in}
use Rattle.paths.specs.declared.implied.Selected.{Selected}
use Rattle.paths.specs.declared.implied.Equal.{Equal}
use Rattle.tables.specs.Offsets.{rows_at}
use Rattle.tables.specs.Shape.{marks_tests}

-- a row passes some selections and equalities; all that are implied for its relation
unfoldable pub passes_by : List Selected → List Equal → Row → Bool
passes_by selections equalities row =
    all (λ (s : Selected). nat_eq (word_in row s.column) s.value) selections
    && all (λ (s : Equal). nat_eq (word_in row s.left) (word_in row s.right)) equalities

unfoldable pub passes : Envelope → ℕ → Row → Bool
passes e r row = passes_by (implied_selections e r) (implied_equalities e r) row

-- the same as a statement: a column on a path with a constant that a clause selects has that value, and two columns on a path have
-- one value
pub record Passing (e : Envelope) (r : ℕ) (row : Row) : Type 0 where
  pub selections : (c d v : ℕ) → c < columns_in e r → NodeOf e (constant d v) → PathBetween (edges e) (column (place r c)) (constant d v)
      → word_in row c ≡ v
  pub equalities : (a b : ℕ) → a < b → b < columns_in e r → PathBetween (edges e) (column (place r a)) (column (place r b))
      → word_in row a ≡ word_in row b

-- the mark of a row, by whether its relation is here: 1 where it is and the row passes, else 0; of each row of a relation
unfoldable pub opening_mark : Bool → List Selected → List Equal → Row → ℕ
opening_mark here selections equalities row = pick (here && passes_by selections equalities row) 1 0

unfoldable pub opened_at : Envelope → List ℕ → Bool → ℕ → List ℕ
opened_at e words here r = map (opening_mark here (implied_selections e r) (implied_equalities e r)) (rows_at e words r)

-- the marks of all rows, by which relations are here
unfoldable pub opened : Envelope → List ℕ → (ℕ → Bool) → List ℕ
opened e words here = each (λ r. opened_at e words (here r) r) (below (relation_count e))

-- lent marks with these in front
unfoldable pub opened_in : Envelope → List ℕ → (ℕ → Bool) → List ℕ → List ℕ
opened_in e words here marks = sets marks 0 (opened e words here)

-- the envelope is checked, then 10, 11
unfoldable pub open_outcome : Envelope → List ℕ → (ℕ → Bool) → List ℕ → Outcome (List ℕ)
open_outcome e words here marks =
    next (check_envelope e) (λ e _. judged (marks_tests e words (length marks)) (good (opened_in e words here marks) 0))
