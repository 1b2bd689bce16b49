-- What each return of the functions on row counts, extents and shape answers.
use mathlib.Core.Path.{◌≡◌, refl, sym, ap, ◌∙◌}
use mathlib.Core.Bool.{Bool, false}
use mathlib.Core.List.{List}
use mathlib.Core.Logic.{◌⊎◌, inl, inr}
use Prim.Native.Nat.{ℕ, ◌+◌, ◌*◌, ◌≤◌, ◌<◌, min}
use native.Mathlib.Nat.{mul-le-mul_left}
use native.Mathlib.Omega.{arith}
use lib.ListN.{length, get_or, take, length-take}
use lib.Seq.{get_or-take, length-take-le}
use lib.Dec.{leb}
use borrow.Author.Tests.{leb-true, le-leb}
use Rattle.std.specs.List.{list_all}
use Rattle.std.proofs.lemmas.List.Recursion.{and_at, and_from_places}
use Rattle.ground.proofs.TestLaws.{not_holds, same_test}
use Rattle.ground.proofs.CountLaws.{split}
use Rattle.contents.specs.Parts.{relation_count, columns_in}
use Rattle.contents.specs.declared.envelope.Envelope.{Envelope}
use Rattle.contents.proofs.PartLaws.{columns_few}
use Rattle.tables.specs.Offsets.{count_in, first_word, first_mark, extent_of}
use Rattle.tables.specs.Shape.{shaped}
use Rattle.tables.specs.declared.offsets.Extent.{Extent}
use Rattle.tables.proofs.OffsetLaws.{count_inside, count_outside, rows_none, rows_more, first_none, first_more}
use Rattle.tables.proofs.ShapeLaws.{shaped_shape, shape_shaped, shape_counted}

-- a 32-bit count of rows times at most 8 columns
pub words_most : (n k : ℕ) → n < 4294967296 → k ≤ 8 → n * k ≤ 34359738368
words_most n k h l = let m : n * k ≤ n * 8 = mul-le-mul_left n l in omega arith

pub words_fit_in : (e : Envelope) (i rows columns : ℕ) → columns ≡ columns_in e i → rows < 4294967296 → rows * columns ≤ 34359738368
words_fit_in e i rows columns g h = words_most rows columns h (omega (arith, columns_few e i))

module _ (e : Envelope) (words : List ℕ) where
  module _ (r n : ℕ) (g : n ≡ min 8 e.relation_count) where
    pub count_none : n ≤ r → 0 ≡ count_in e words r
    count_none h = sym (count_outside e words r (omega arith))

    pub count_is : r < n → (m : ℕ) → m ≡ get_or words r 0 → m ≡ count_in e words r
    count_is h m f = f ∙ sym (count_inside e words r (omega arith))

  -- the loop that adds up: what it has at relation i
  abbrev pub Adding : ℕ → ℕ → ℕ → Type 0
  Adding i word mark =
      (word ≡ first_word e words i) × (mark ≡ first_mark e words i) × (word ≤ 8 + 34359738368 * i) × (mark ≤ 4294967296 * i)

  pub adding_start : (n : ℕ) → n ≡ min 8 e.relation_count → Adding 0 n 0
  adding_start n g = (g ∙ sym (first_none e words), sym (rows_none e words), omega arith, omega arith)

  pub adding_more : (i word mark columns rows : ℕ) → Adding i word mark → columns ≡ columns_in e i → rows ≡ count_in e words i
      → rows < 4294967296 → Adding (i + 1) (word + rows * columns) (mark + rows)
  adding_more i word mark columns rows a g f h =
      let m : rows * columns ≤ 34359738368 = words_most rows columns h (omega (arith, columns_few e i)) in (
        rw (a.0, g, f) (sym (first_more e words i)),
        rw (a.1, f) (sym (rows_more e words i)),
        omega (arith, a.2),
        omega (arith, a.3),
      )

  -- ---- shape

  pub shape_beyond : (n : ℕ) → n ≡ min 8 e.relation_count → (length words < n) ⊎ ((n ≤ length words) × (16384 < length words))
      → false ≡ shaped e words
  shape_beyond n g (inl h) = sym (not_holds (shaped e words) λ t. omega (arith, shape_counted e words (shaped_shape e words t)))
  shape_beyond n g (inr (k, h)) = sym (not_holds (shaped e words) λ t. omega (arith, (shaped_shape e words t).within))

  module _ (n : ℕ) (x : Extent) (g : n ≡ min 8 e.relation_count) (f : x ≡ extent_of e words n) where
    ends : x.word ≡ first_word e words (relation_count e)
    ends = ap (λ (y : Extent). y.word) f ∙ ap (first_word e words) g

    pub shape_other : (x.word ≡ length words → ⊥) → false ≡ shaped e words
    shape_other h = sym (not_holds (shaped e words) λ t. h (ends ∙ sym (shaped_shape e words t).whole))

    small : ℕ → Bool
    small c = leb c 4096

    pub shape_counts : n ≤ length words → length words ≤ 16384 → x.word ≡ length words → (b : Bool)
        → b ≡ list_all (λ c. leb c 4096) (take n words) → b ≡ shaped e words
    unfolding small
    shape_counts l m w b q =
        let long : (i : ℕ) → i < n → i < length (take n words) = λ i a. omega (arith, length-take n words) in
        let count : (i : ℕ) → i < n → get_or (take n words) i 0 ≡ count_in e words i =
        λ i a. get_or-take n words i 0 a ∙ count_is i n g a (get_or words i 0) refl in
        q
        ∙ same_test (list_all small (take n words)) (shaped e words)
        (λ t.
        shape_shaped e words
        (record {
          few = λ r.
              split n r (λ a. omega (arith, count_none r n g a))
              (λ a. omega (arith, count r a, leb-true _ _ (and_at (list_all small) small refl (λ _ _. refl) (take n words) r 0 (long r a) t)));
          whole = sym w ∙ ends;
          within = m;
        }))
        (λ t.
        and_from_places (list_all small) small refl (λ _ _. refl) (take n words) 0 λ i h.
        let a : i < n = omega (arith, length-take-le n words) in
        le-leb _ _ (omega (arith, count i a, (shaped_shape e words t).few i)))
