-- "Per relation: site 1, column count 1, rows 4, then per column domain 1, width 1, distinct 4."
-- "Relations 1 to 8, columns 1 to 8 each, sites 0 to 7. Estimated rows 0 to 1,000,000. Column width 1 to 255. Distinct
-- count at most the rows and at most the domain size, and 0 exactly when rows are 0."
use Rattle.std.specs.Prelude.{ℕ, min, List, [], ◌++◌, slice_index, take, replicate}
use Rattle.ground.specs.Lists.{each, padded}
use Rattle.ground.specs.Outcome.{Outcome, next, many}
use Rattle.ground.specs.Outcome.Outcome.{good}
use Rattle.ground.specs.Bytes.{bytes_of}
use Rattle.fields.specs.Numbers.{number_in, number_below}
use Rattle.entries.specs.declared.relations.Column.{Column}
use Rattle.entries.specs.declared.relations.Relation.{Relation}

abbrev pub no_column : Column
no_column = record { domain = 0; width = 0; distinct = 0 }

abbrev pub no_relation : Relation
no_relation = record { site = 0; column_count = 0; rows = 0; columns = replicate 8 no_column }

-- what an index past the end of a list of relations reads
abbrev pub past_relation : Relation
past_relation = record { site = 0; column_count = 0; rows = 0; columns = [] }

-- how many columns a relation has: its count, and no more than the array has
abbrev pub column_count : Relation → ℕ
column_count r = min 8 r.column_count

unfoldable pub columns_of : Relation → List Column
columns_of r = take r.column_count r.columns

-- a domain of the count; a width; a distinct count from 1, or from 0 without rows, to the rows and the domain's size
unfoldable pub column_at : ℕ → List ℕ → ℕ → List ℕ → ℕ → Outcome Column
column_at count sizes rows s at =
    next (number_below 1 count s at)
    (λ d p. next (number_in 1 1 255 s p)
    (λ w q. next (number_in 4 (min 1 rows) (min rows (slice_index sizes d)) s q)
    (λ n u. good (record { domain = d; width = w; distinct = n }) u)))

unfoldable pub column_bytes : Column → List ℕ
column_bytes c = bytes_of 1 c.domain ++ bytes_of 1 c.width ++ bytes_of 4 c.distinct

-- a relation with its columns in an array of 8
abbrev pub relation_with : ℕ → ℕ → ℕ → List Column → Relation
relation_with site k rows columns = record { site = site; column_count = k; rows = rows; columns = padded 8 no_column columns }

-- the columns of a relation whose site, count and rows were read
unfoldable pub columns_then : ℕ → List ℕ → List ℕ → ℕ → ℕ → ℕ → ℕ → Outcome Relation
columns_then count sizes s site k rows at =
    next (many (column_at count sizes rows s) k at) (λ columns p. good (relation_with site k rows columns) p)

-- a site, a count of columns, the rows, and the columns
unfoldable pub relation_at : ℕ → List ℕ → List ℕ → ℕ → Outcome Relation
relation_at count sizes s at =
    next (number_in 1 0 7 s at)
    (λ site p. next (number_in 1 1 8 s p)
    (λ k q. next (number_in 4 0 1000000 s q)
    (λ rows u. columns_then count sizes s site k rows u)))

unfoldable pub relation_bytes : Relation → List ℕ
relation_bytes r =
    bytes_of 1 r.site ++ bytes_of 1 r.column_count ++ bytes_of 4 r.rows ++ each column_bytes (columns_of r)
