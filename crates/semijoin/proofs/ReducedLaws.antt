-- The marks of all relations after one step: those of its relation are sieved, and nothing else changes.
use mathlib.Core.Path.{◌≡◌, sym, ap, ◌∙◌}
use mathlib.Core.List.{List, []}
use Prim.Native.Nat.{ℕ, ◌+◌, ◌<◌}
use native.Mathlib.Omega.{arith}
use lib.ListN.{length, get_or, take, drop}
use lib.Seq.{sets, length-sets}
use Rattle.ground.specs.Tests.{pick}
use Rattle.ground.specs.Lists.{filter}
use Rattle.ground.proofs.CountLaws.{split}
use Rattle.contents.specs.Parts.{relation_count}
use Rattle.entries.specs.declared.places.Place.{Place}
use Rattle.contents.specs.declared.envelope.Envelope.{Envelope}
use Rattle.tables.specs.Offsets.{count_in, first_mark, row_count, rows_at, marks_at, marks_over}
use Rattle.tables.specs.Rising.{among}
use Rattle.tables.specs.Rows.{kept_of, kept_rows}
use Rattle.semijoin.specs.Marks.{sieved, reduced_by, removed_by, sieved_over, removed_over}
use Rattle.ground.proofs.ListPartLaws.{none, part_stand, part_before, part_behind}
use Rattle.tables.proofs.OffsetLaws.{count_outside, marks_end, rows_at_length}
use Rattle.semijoin.proofs.MarkLaws.{occurs, sieved_length, sieved_at, kept_sieved, removed_kept, sieved_alike}

module _ (e : Envelope) (words : List ℕ) where
  -- ---- marks written with as many as a relation has of them

  module _ (marks : List ℕ) (a : ℕ) (new : List ℕ) (same : length new ≡ length (marks_at e words a marks)) where
    pub own_written : marks_at e words a (sets marks (first_mark e words a) new) ≡ new
    unfolding marks_at marks_over
    own_written = part_stand marks (first_mark e words a) (count_in e words a) new same

    pub other_stays : (r : ℕ) → (r ≡ a → ⊥) → marks_at e words r (sets marks (first_mark e words a) new) ≡ marks_at e words r marks
    unfolding marks_at marks_over
    other_stays r differ =
        split a r
        (λ h.
        let later : a < r = omega (arith, differ) in
        ap (take (count_in e words r))
        (part_behind marks (first_mark e words a) (count_in e words a) new same (first_mark e words r) (marks_end e words a r later)))
        (λ h.
        part_before marks (first_mark e words a) (count_in e words a) new same (first_mark e words r) (count_in e words r)
        (marks_end e words r a h))

    pub past_stays : drop (row_count e words) (sets marks (first_mark e words a) new) ≡ drop (row_count e words) marks
    unfolding marks_at marks_over
    past_stays =
        split (relation_count e) a
        (λ h. rw (none new (rw (count_outside e words a h) at same)))
        (λ h.
        part_behind marks (first_mark e words a) (count_in e words a) new same (row_count e words) (marks_end e words a (relation_count e) h))

  -- ---- a step

  module _ (values : List ℕ) (a : Place) (marks : List ℕ) where
    after : List ℕ
    after = sieved values a.column (marks_at e words a.relation marks) (rows_at e words a.relation)

    long : length after ≡ length (marks_at e words a.relation marks)
    unfolding after
    long = sieved_length values a.column (marks_at e words a.relation marks) (rows_at e words a.relation)

    pub reduced_length : length (reduced_by e words values a marks) ≡ length marks
    unfolding reduced_by sieved_over marks_at rows_at after
    reduced_length = length-sets marks (first_mark e words a.relation) after

    pub reduced_own : marks_at e words a.relation (reduced_by e words values a marks)
        ≡ sieved values a.column (marks_at e words a.relation marks) (rows_at e words a.relation)
    unfolding reduced_by sieved_over marks_at rows_at after
    reduced_own = own_written marks a.relation after long

    -- a removed row has 0, every other byte stays
    pub reduced_byte : (i : ℕ) → i < count_in e words a.relation
        → get_or (marks_at e words a.relation (reduced_by e words values a marks)) i 0
        ≡ pick (occurs values a.column (get_or (rows_at e words a.relation) i [])) (get_or (marks_at e words a.relation marks) i 0) 0
    reduced_byte i h =
        ap (λ (ms : List ℕ). get_or ms i 0) reduced_own
        ∙ sieved_at values a.column (marks_at e words a.relation marks) (rows_at e words a.relation) i
        (rw (rows_at_length e words a.relation) h)

    pub reduced_other : (r : ℕ) → (r ≡ a.relation → ⊥) → marks_at e words r (reduced_by e words values a marks) ≡ marks_at e words r marks
    unfolding reduced_by sieved_over marks_at rows_at after
    reduced_other r differ = other_stays marks a.relation after long r differ

    pub reduced_past : drop (row_count e words) (reduced_by e words values a marks) ≡ drop (row_count e words) marks
    unfolding reduced_by sieved_over marks_at rows_at after
    reduced_past = past_stays marks a.relation after long

    -- of the kept rows exactly those whose column is among the values, in their order
    pub rows_reduced : kept_rows e words (reduced_by e words values a marks) a.relation
        ≡ filter (occurs values a.column) (kept_rows e words marks a.relation)
    unfolding kept_rows
    rows_reduced =
        ap (λ (ms : List ℕ). kept_of ms (rows_at e words a.relation)) reduced_own
        ∙ kept_sieved values a.column (marks_at e words a.relation marks) (rows_at e words a.relation)

    pub rows_others : (r : ℕ) → (r ≡ a.relation → ⊥) → kept_rows e words (reduced_by e words values a marks) r ≡ kept_rows e words marks r
    unfolding kept_rows
    rows_others r differ = ap (λ (ms : List ℕ). kept_of ms (rows_at e words r)) (reduced_other r differ)

    -- the rows that were kept are those that still are, and those removed
    pub removed_rows : length (kept_rows e words marks a.relation)
        ≡ length (kept_rows e words (reduced_by e words values a marks) a.relation) + removed_by e words values a marks
    unfolding kept_rows removed_by removed_over marks_at rows_at
    removed_rows =
        removed_kept values a.column (marks_at e words a.relation marks) (rows_at e words a.relation)
        ∙ ap (λ (ms : List ℕ). length (kept_of ms (rows_at e words a.relation)) + removed_by e words values a marks) (sym reduced_own)

  pub reduced_alike : (values others : List ℕ) (a : Place) (marks : List ℕ) → ((v : ℕ) → among values v ≡ among others v)
      → reduced_by e words values a marks ≡ reduced_by e words others a marks
  unfolding reduced_by sieved_over marks_at rows_at
  reduced_alike values others a marks h =
      ap (sets marks (first_mark e words a.relation))
      (sieved_alike values others a.column h (marks_at e words a.relation marks) (rows_at e words a.relation))
