-- "Width of a relation: the sum of its kept columns' widths." And what the envelope says of a column.
use Rattle.std.specs.Prelude.{ℕ, map, slice_index}
use Rattle.ground.specs.Lists.{sum}
use Rattle.entries.specs.Places.{place, named_column}
use Rattle.contents.specs.Parts.{relations_of, sizes_of}
use Rattle.contents.specs.Kept.{kept_columns}
use Rattle.entries.specs.declared.places.Place.{Place}
use Rattle.entries.specs.declared.relations.Column.{Column}
use Rattle.contents.specs.declared.envelope.Envelope.{Envelope}

-- what the envelope says of a column: the empty column where there is no such relation, and what its array holds also behind
-- the last column, which is the empty one in an envelope that was taken
unfoldable pub column_of : Envelope → Place → Column
column_of e a = named_column (relations_of e) a

unfoldable pub domain_size : Envelope → Place → ℕ
domain_size e a = slice_index (sizes_of e) (column_of e a).domain

unfoldable pub width_of : Envelope → ℕ → ℕ
width_of e r = sum (map (λ c. (column_of e (place r c)).width) (kept_columns e r))
