-- "An end has one mark byte per true row of the lent tables, in table order; nonzero is kept." One row at an extent, its word and its
-- mark; and the rows whose mark is kept: of one table, of a relation, of every relation.
use Rattle.std.specs.Prelude.{ℕ, ◌≡◌, Bool, not, List, [], ◌∷◌, map, slice_index, slice_index_or, nat_eq}
use Rattle.ground.specs.Lists.{cons_if, below}
use Rattle.entries.specs.declared.places.Place.{Place}
use Rattle.contents.specs.Parts.{relation_count, clauses_of, targets_of}
use Rattle.contents.specs.declared.envelope.Envelope.{Envelope}
use Rattle.paths.specs.Meaning.{Row, Table, word_in, answer_on}
use Rattle.tables.specs.Offsets.{rows_over, marks_over, rows_at, marks_at}
use Rattle.tables.specs.declared.offsets.Extent.{Extent}

abbrev pub is_kept : ℕ → Bool
is_kept mark = not (nat_eq mark 0)

-- the word of a row in a column, 0 where there is none; whether a row is kept, and none is that is not there
abbrev pub word_over : Extent → List ℕ → ℕ → ℕ → ℕ
word_over x words i c = word_in (slice_index_or (rows_over x words) i []) c

abbrev pub kept_over : Extent → List ℕ → ℕ → Bool
kept_over x marks i = is_kept (slice_index (marks_over x marks) i)

-- row i of a relation, a column of it, and whether marks keep it: past the last row there is none that is kept
abbrev pub row_of : Envelope → List ℕ → ℕ → ℕ → Row
row_of e words r i = slice_index_or (rows_at e words r) i []

abbrev pub word_of : Envelope → List ℕ → Place → ℕ → ℕ
word_of e words a i = word_in (row_of e words a.relation i) a.column

abbrev pub kept_at : Envelope → List ℕ → List ℕ → ℕ → ℕ → Bool
kept_at e words marks r i = is_kept (slice_index (marks_at e words r marks) i)

-- two tables have the same rows of a relation, as a station's and those of all stations have
abbrev pub SameRows : Envelope → ℕ → List ℕ → List ℕ → Type 0
SameRows e r words others = rows_at e words r ≡ rows_at e others r

-- the rows whose mark is kept
unfoldable pub kept_of : List ℕ → Table → Table
kept_of [] rows = []
kept_of (m ∷ ms) [] = []
kept_of (m ∷ ms) (row ∷ rows) = cons_if (is_kept m) row (kept_of ms rows)

unfoldable pub kept_rows : Envelope → List ℕ → List ℕ → ℕ → Table
kept_rows e words marks r = kept_of (marks_at e words r marks) (rows_at e words r)

abbrev pub kept_tables : Envelope → List ℕ → List ℕ → List Table
kept_tables e words marks = map (kept_rows e words marks) (below (relation_count e))

-- the answer on the rows that marks keep
abbrev pub answer_kept : Envelope → List ℕ → List ℕ → List Row
answer_kept e words marks = answer_on (clauses_of e) (targets_of e) (kept_tables e words marks)
