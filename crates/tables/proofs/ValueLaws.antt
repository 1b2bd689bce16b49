-- The values of a column are those of its kept rows; the rising list has the same values, each once.
use mathlib.Core.Path.{◌≡◌, sym, ap, ◌∙◌}
use mathlib.Core.Bool.{true}
use mathlib.Core.List.{List, map}
use mathlib.Core.Logic.{◌↔◌}
use Prim.Native.Nat.{ℕ, ◌≤◌}
use lib.ListN.{length}
use lib.Dec.{eqb}
use borrow.Author.Tests.{eqb-true, eq-eqb}
use Rattle.ground.specs.Rising.{Rises}
use Rattle.ground.proofs.ListLaws.{any_from, any_of, map_from, map_mem}
use Rattle.ground.proofs.RisingLaws.{rising_rises, rising_any}
use Rattle.entries.specs.declared.places.Place.{Place}
use Rattle.contents.specs.declared.envelope.Envelope.{Envelope}
use Rattle.paths.specs.Meaning.{Row, word_in}
use Rattle.tables.specs.Offsets.{count_in, extent_of, rows_at, marks_at}
use Rattle.tables.specs.Rows.{word_of, kept_at, kept_rows}
use Rattle.tables.specs.Rising.{among}
use Rattle.tables.specs.Values.{values_over, values_of, rising_values}
use Rattle.tables.proofs.OffsetLaws.{rows_at_length}
use Rattle.tables.proofs.RowLaws.{kept_mem, kept_from, kept_inside}
use Rattle.tables.proofs.ValueCodeLaws.{values_few}

module _ (e : Envelope) (words marks : List ℕ) (b : Place) where
  column : Row → ℕ
  column row = word_in row b.column

  pub values_of_lem : (v i : ℕ) → kept_at e words marks b.relation i ≡ true → word_of e words b i ≡ v → among (values_of e words marks b) v ≡ true
  unfolding values_of values_over kept_rows marks_at rows_at column
  values_of_lem v i k w =
      any_of (λ x. eqb x v)
      (map_mem column
      (kept_mem (marks_at e words b.relation marks) (rows_at e words b.relation) i
      (rw (rows_at_length e words b.relation) (kept_inside e words marks b.relation i k)) k))
      (eq-eqb _ v w)

  pub values_from_lem : (v : ℕ) → among (values_of e words marks b) v ≡ true
      → (i : ℕ) × (kept_at e words marks b.relation i ≡ true) × (word_of e words b i ≡ v)
  unfolding values_of values_over kept_rows marks_at rows_at column
  values_from_lem v t =
      let (x, m, p) = any_from (λ x. eqb x v) (map column (kept_rows e words marks b.relation)) t in
      let (row, n, q) = map_from column (kept_rows e words marks b.relation) m in
      let (i, h, k, w) = kept_from (marks_at e words b.relation marks) (rows_at e words b.relation) n in
      (i, k, ap column w ∙ sym q ∙ eqb-true x v p)

  -- a column's values are those of its kept rows
  pub values_are : (v : ℕ)
      → (among (values_of e words marks b) v ≡ true) ↔ ((i : ℕ) × (kept_at e words marks b.relation i ≡ true) × (word_of e words b i ≡ v))
  values_are v = (values_from_lem v, λ (i, k, w). values_of_lem v i k w)

  -- the list of distinct values has the same values, rises, and is no longer than there are rows
  pub same_values : (v : ℕ) → among (rising_values e words marks b) v ≡ among (values_of e words marks b) v
  unfolding rising_values
  same_values v = rising_any (λ x. eqb x v) (values_of e words marks b)

  pub values_rise : Rises 0 (rising_values e words marks b)
  unfolding rising_values
  values_rise = rising_rises (values_of e words marks b)

  pub no_more_values : length (rising_values e words marks b) ≤ count_in e words b.relation
  unfolding rising_values values_of
  no_more_values = values_few (extent_of e words b.relation) b.column words marks
