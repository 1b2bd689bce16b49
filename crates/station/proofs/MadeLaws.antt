-- What an end makes is what an end takes: a value message that is made is sound, a row message has the rows that were sent.
use mathlib.Core.Path.{◌≡◌, ap, ◌∙◌}
use mathlib.Core.Bool.{true}
use mathlib.Core.List.{List}
use Prim.Native.Nat.{ℕ, ◌≤◌}
use native.Mathlib.Omega.{arith}
use lib.ListN.{length, length-map}
use Rattle.ground.proofs.EveryLaws.{every_of, every_mapped}
use Rattle.entries.specs.declared.places.Place.{Place}
use Rattle.contents.specs.Kept.{kept_columns}
use Rattle.contents.specs.declared.envelope.Envelope.{Envelope}
use Rattle.paths.specs.Meaning.{Row}
use Rattle.tables.specs.Shape.{shaped}
use Rattle.tables.specs.Values.{rising_values}
use Rattle.tables.specs.Rows.{SameRows}
use Rattle.tables.proofs.ShapeLaws.{shaped_shape}
use Rattle.tables.proofs.RowLaws.{same_counts}
use Rattle.tables.proofs.RisingLaws.{rising_exact}
use Rattle.tables.proofs.ValueLaws.{values_rise, no_more_values}
use Rattle.ends.specs.Messages.{value_message, row_message, counted, sound_values, rows_of}
use Rattle.station.specs.Making.{sent_rows}
use Rattle.ends.proofs.MessageLaws.{Wide, value_sound, row_counted, row_rows}
use Rattle.station.proofs.RowCodeLaws.{chosen, chosen_few, row_words, row_width, sent_by}

module _ (e : Envelope) (words marks : List ℕ) where
  pub values_sound : shaped e words ≡ true → (run n : ℕ) (b : Place) → sound_values (value_message run n (rising_values e words marks b)) ≡ true
  values_sound shape run n b =
      value_sound run n (rising_values e words marks b)
      (omega (arith, no_more_values e words marks b, (shaped_shape e words shape).few b.relation))
      ((rising_exact (rising_values e words marks b)).1 (values_rise e words marks b))

  -- a row that is sent has the kept columns
  wide : (r : ℕ) → Wide (length (kept_columns e r)) (sent_rows e words marks r)
  wide r =
      rw (sent_by e words marks r)
      (every_mapped (λ (row : Row). length row ≡ length (kept_columns e r)) (row_words e words marks r) (chosen e words marks r)
      (every_of _ (chosen e words marks r) (λ i _. row_width e words marks r i)))

  pub rows_understood : (r run : ℕ) → rows_of (length (kept_columns e r)) (row_message run r (sent_rows e words marks r)) ≡ sent_rows e words marks r
  rows_understood r run = row_rows run r (sent_rows e words marks r) (length (kept_columns e r)) (wide r)

  -- and there are no more than a relation may have, where the rows are those of tables within the sizes
  module _ (whole : List ℕ) (shape : shaped e whole ≡ true) (r : ℕ) (same : SameRows e r words whole) where
    few : length (sent_rows e words marks r) ≤ 4096
    few =
        omega (
          arith,
          ap (λ (l : List Row). length l) (sent_by e words marks r) ∙ length-map (chosen e words marks r) (row_words e words marks r),
          chosen_few e words marks r,
          same_counts e words whole r same,
          (shaped_shape e whole shape).few r,
        )

    pub rows_counted : (run : ℕ) → counted (length (kept_columns e r)) (row_message run r (sent_rows e words marks r)) ≡ true
    rows_counted run = row_counted run r (sent_rows e words marks r) (length (kept_columns e r)) (wide r) few
