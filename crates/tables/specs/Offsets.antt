-- Where things lie in the words of tables, "a row count per relation, then the rows, relation by relation, all columns",
-- and in the marks, "one mark byte per true row of the lent tables, in table order". No other place adds up row counts. Where
-- one relation lies is one value, its extent; its rows and its part of the marks are what lies there.
use Rattle.std.specs.Prelude.{ℕ, ◌+◌, ◌*◌, List, map, slice_index, take, drop}
use Rattle.ground.specs.Lists.{below, sum}
use Rattle.contents.specs.Parts.{relation_count, columns_in}
use Rattle.contents.specs.declared.envelope.Envelope.{Envelope}
use Rattle.paths.specs.Meaning.{Table, rows_in, counts_of}
use Rattle.tables.specs.declared.offsets.Extent.{Extent}

-- the row count of a relation
unfoldable pub count_in : Envelope → List ℕ → ℕ → ℕ
count_in e words r = slice_index (counts_of e words) r

-- the words of the rows of the first n relations, and how many rows those have
unfoldable pub words_before : Envelope → List ℕ → ℕ → ℕ
words_before e words n = sum (map (λ r. count_in e words r * columns_in e r) (below n))

unfoldable pub rows_before : Envelope → List ℕ → ℕ → ℕ
rows_before e words n = sum (map (count_in e words) (below n))

-- the first word of a relation's rows, and its first mark
unfoldable pub first_word : Envelope → List ℕ → ℕ → ℕ
first_word e words r = relation_count e + words_before e words r

abbrev pub first_mark : Envelope → List ℕ → ℕ → ℕ
first_mark e words r = rows_before e words r

-- all rows
abbrev pub row_count : Envelope → List ℕ → ℕ
row_count e words = rows_before e words (relation_count e)

-- where a relation lies
abbrev pub extent_of : Envelope → List ℕ → ℕ → Extent
extent_of e words r =
    record { columns = columns_in e r; rows = count_in e words r; word = first_word e words r; mark = first_mark e words r }

-- the rows and the part of the marks at an extent; those of a relation
unfoldable pub rows_over : Extent → List ℕ → Table
rows_over x words = rows_in x.columns x.rows (drop x.word words)

unfoldable pub marks_over : Extent → List ℕ → List ℕ
marks_over x marks = take x.rows (drop x.mark marks)

unfoldable pub rows_at : Envelope → List ℕ → ℕ → Table
rows_at e words r = rows_over (extent_of e words r) words

unfoldable pub marks_at : Envelope → List ℕ → ℕ → List ℕ → List ℕ
marks_at e words r marks = marks_over (extent_of e words r) marks
