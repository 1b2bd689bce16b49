-- Tables of the envelope's shape: every word and every mark that the offsets speak of is there, and how many there can be.
use mathlib.Core.Path.{◌≡◌}
use mathlib.Core.Bool.{true, ◌&&◌}
use mathlib.Core.List.{List}
use Prim.Native.Nat.{ℕ, ◌+◌, ◌*◌, ◌≤◌, ◌<◌}
use native.Mathlib.Omega.{arith}
use lib.ListN.{length}
use lib.Dec.{eqb, leb, ltb}
use borrow.Author.Tests.{leb-true, le-leb, ltb-true, eqb-true, eq-eqb}
use Rattle.ground.specs.Lists.{all, below}
use Rattle.ground.proofs.TestLaws.{and_left, and_right, and_both}
use Rattle.ground.proofs.CountLaws.{split}
use Rattle.ground.proofs.ListLaws.{all_at, all_of}
use Rattle.ground.proofs.NumbersLaws.{below_mem}
use Rattle.contents.specs.Parts.{relation_count, columns_in}
use Rattle.contents.specs.declared.envelope.Envelope.{Envelope}
use Rattle.entries.specs.declared.places.Place.{Place}
use Rattle.paths.specs.Steps.{is_place}
use Rattle.tables.specs.Offsets.{count_in, first_word, row_count, extent_of}
use Rattle.tables.specs.Shape.{shaped}
use Rattle.tables.specs.declared.offsets.Extent.{Extent}
use Rattle.tables.proofs.OffsetLaws.{count_outside, words_end, marks_end}

-- a column of the envelope
module _ (e : Envelope) (a : Place) (t : is_place e a ≡ true) where
  pub place_relation : a.relation < relation_count e
  unfolding is_place
  place_relation = ltb-true _ _ (and_left _ _ t)

  pub place_column : a.column < columns_in e a.relation
  unfolding is_place
  place_column = ltb-true _ _ (and_right (ltb a.relation (relation_count e)) _ t)

-- the shape as a statement
pub record Shape (e : Envelope) (words : List ℕ) : Type 0 where
  pub few : (r : ℕ) → count_in e words r ≤ 4096
  pub whole : length words ≡ first_word e words (relation_count e)
  pub within : length words ≤ 16384

module _ (e : Envelope) (words : List ℕ) where
  pub shaped_shape : shaped e words ≡ true → Shape e words
  unfolding shaped
  shaped_shape t =
      record {
        few = λ r.
            split (relation_count e) r
            (λ h. rw (count_outside e words r h) (omega arith))
            (λ h. leb-true _ _ (all_at (λ q. leb (count_in e words q) 4096) (below (relation_count e)) (and_left _ _ (and_left _ _ t)) (below_mem r (relation_count e) h)));
        whole = eqb-true _ _ (and_right (all (λ r. leb (count_in e words r) 4096) (below (relation_count e))) _ (and_left _ _ t));
        within = leb-true _ _ (and_right (all (λ r. leb (count_in e words r) 4096) (below (relation_count e)) && eqb (length words) (first_word e words (relation_count e))) _ t);
      }

  pub shape_shaped : Shape e words → shaped e words ≡ true
  unfolding shaped
  shape_shaped s =
      let few : all (λ r. leb (count_in e words r) 4096) (below (relation_count e)) ≡ true =
      all_of _ (below (relation_count e)) λ r m. le-leb _ _ (s.few r) in
      and_both (and_both few (eq-eqb _ _ s.whole)) (le-leb _ _ s.within)

  -- so the counts are there
  pub shape_counted : Shape e words → relation_count e ≤ length words
  unfolding first_word
  shape_counted s = omega (arith, s.whole)

  module _ (s : Shape e words) where
    pub words_fit : (r : ℕ) → r < relation_count e → first_word e words r + count_in e words r * columns_in e r ≤ length words
    words_fit r h = rw s.whole (words_end e words r (relation_count e) h)

-- so what the extent of a relation covers is there
module _ (e : Envelope) (words : List ℕ) (x : Extent) (r : ℕ) (f : x ≡ extent_of e words r) where
  pub words_there : r < relation_count e → shaped e words ≡ true → x.word + x.rows * x.columns ≤ length words
  words_there h t = rw f (words_fit e words (shaped_shape e words t) r h)

  pub marks_there : r < relation_count e → (n : ℕ) → row_count e words ≤ n → x.mark + x.rows ≤ n
  marks_there h n k = rw f (omega (arith, marks_end e words r (relation_count e) h))

  pub column_there : (c : ℕ) → c < columns_in e r → c < x.columns
  column_there c k = rw f k
