-- What a check takes is the envelope with zeros where its arrays are not in use. It has the same offsets, shape and values of a
-- column as the struct that was checked.
use mathlib.Core.Path.{◌≡◌, ap}
use mathlib.Core.List.{List}
use Prim.Native.Nat.{ℕ, ◌+◌, ◌*◌}
use lib.Dec.{leb}
use Rattle.ground.specs.Lists.{below, sum}
use Rattle.ground.proofs.ListLaws.{map_alike, all_alike}
use Rattle.contents.specs.Parts.{relation_count, columns_in}
use Rattle.envelopes.specs.Rules.{Within, tidy}
use Rattle.entries.specs.declared.places.Place.{Place}
use Rattle.contents.specs.declared.envelope.Envelope.{Envelope}
use Rattle.envelopes.proofs.TidyLaws.{tidy_relation_count, tidy_columns_in}
use Rattle.tables.specs.Offsets.{count_in, words_before, rows_before, first_word, row_count, rows_at, extent_of, rows_over}
use Rattle.tables.specs.Shape.{shaped}
use Rattle.tables.specs.Values.{values_of, values_over}
use Rattle.tables.specs.declared.offsets.Extent.{Extent}

module _ (e : Envelope) (within : Within e) where
  -- ---- offsets

  pub tidy_count : (words : List ℕ) (r : ℕ) → count_in (tidy e) words r ≡ count_in e words r
  unfolding count_in
  tidy_count words r = rw (tidy_relation_count e within)

  pub tidy_rows_before : (words : List ℕ) (n : ℕ) → rows_before (tidy e) words n ≡ rows_before e words n
  unfolding rows_before
  tidy_rows_before words n = ap sum (map_alike (count_in (tidy e) words) (count_in e words) (below n) (λ r m. tidy_count words r))

  pub tidy_row_count : (words : List ℕ) → row_count (tidy e) words ≡ row_count e words
  tidy_row_count words = rw (tidy_relation_count e within) (tidy_rows_before words (relation_count e))

  pub tidy_first_word : (words : List ℕ) (r : ℕ) → first_word (tidy e) words r ≡ first_word e words r
  unfolding first_word words_before
  tidy_first_word words r =
      rw (tidy_relation_count e within)
      (ap (λ (l : List ℕ). relation_count e + sum l)
      (map_alike (λ q. count_in (tidy e) words q * columns_in (tidy e) q) (λ q. count_in e words q * columns_in e q) (below r)
      (λ q m. rw (tidy_count words q, tidy_columns_in e q))))

  pub tidy_extent : (words : List ℕ) (r : ℕ) → extent_of (tidy e) words r ≡ extent_of e words r
  tidy_extent words r = rw (tidy_columns_in e r, tidy_count words r, tidy_first_word words r, tidy_rows_before words r)

  pub tidy_rows_at : (words : List ℕ) (r : ℕ) → rows_at (tidy e) words r ≡ rows_at e words r
  unfolding rows_at
  tidy_rows_at words r = ap (λ (x : Extent). rows_over x words) (tidy_extent words r)

  -- ---- shape and values

  pub tidy_shaped : (words : List ℕ) → shaped (tidy e) words ≡ shaped e words
  unfolding shaped
  tidy_shaped words =
      rw (
        tidy_relation_count e within,
        all_alike (λ r. leb (count_in (tidy e) words r) 4096) (λ r. leb (count_in e words r) 4096) (below (relation_count e))
            (λ r m. rw (tidy_count words r)),
        tidy_first_word words (relation_count e),
      )

  pub tidy_values : (words marks : List ℕ) (a : Place) → values_of (tidy e) words marks a ≡ values_of e words marks a
  unfolding values_of
  tidy_values words marks a = ap (λ (x : Extent). values_over x a.column words marks) (tidy_extent words a.relation)
