-- The laws that the code of columns goes by: what holds at the head of the loop over widths.
use mathlib.Core.Path.{◌≡◌, sym, ap, ◌∙◌}
use mathlib.Core.List.{List}
use Prim.Native.Nat.{ℕ, ◌+◌, ◌*◌, ◌≤◌, ◌<◌}
use native.Mathlib.Omega.{arith}
use lib.ListN.{length, get_or, take}
use Rattle.ground.proofs.CollectingLaws.{padded_take}
use Rattle.entries.specs.Places.{place}
use Rattle.contents.specs.Kept.{kept_columns, shown_columns}
use Rattle.entries.specs.declared.relations.Column.{Column}
use Rattle.contents.specs.declared.envelope.Envelope.{Envelope}
use Rattle.contents.specs.declared.kept.Columns.{Columns}
use Rattle.contents.proofs.KeptLaws.{kept_most}
use Rattle.estimates.specs.Columns.{column_of, width_of}
use Rattle.ground.proofs.SummingLaws.{Summing, summing_start, summing_more, summing_done}

-- ---- the width of a relation

abbrev pub width_in : Envelope → ℕ → ℕ → ℕ
width_in e r c = (column_of e (place r c)).width

-- of its kept columns i are added up
pub record Widening (e : Envelope) (r : ℕ) (numbers : List ℕ) (i total : ℕ) : Type 0 where
  pub few : length numbers ≤ 8
  pub small : total ≤ 255 * i
  pub whole : numbers ≡ kept_columns e r
  pub sum : Summing 255 (width_in e r) numbers i total

module _ (e : Envelope) (r : ℕ) where
  pub widening_start : (k : Columns) → k ≡ shown_columns (kept_columns e r) → (numbers : List ℕ) → numbers ≡ take k.count k.numbers
      → Widening e r numbers 0 0
  widening_start k g numbers f =
      let t : numbers ≡ kept_columns e r = f ∙ rw g (padded_take 8 0 (kept_columns e r)) in
      record {
        few = rw t (kept_most e r);
        small = omega arith;
        whole = t;
        sum = summing_start 255 (width_in e r) numbers;
      }

  module _ (numbers : List ℕ) (i total : ℕ) (w : Widening e r numbers i total) where
    pub widening_more : i < length numbers → (c : Column) → c ≡ column_of e (place r (get_or numbers i 0)) → c.width < 256
        → Widening e r numbers (i + 1) (total + c.width)
    widening_more h c g b =
        record {
          few = w.few;
          small = omega (arith, w.small);
          whole = w.whole;
          sum = summing_more 255 (width_in e r) numbers i total w.sum 0 h c.width (ap (λ (x : Column). x.width) g) (omega arith);
        }

    pub widening_done : length numbers ≤ i → total ≡ width_of e r
    unfolding width_of
    widening_done h = rw w.whole at (summing_done 255 (width_in e r) numbers i total w.sum h)
