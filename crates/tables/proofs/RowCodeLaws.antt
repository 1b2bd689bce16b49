-- One row by any extent: its word and its mark, and that there is none past the last row, the last column or the end.
use mathlib.Core.Path.{◌≡◌, sym, ap, ◌∙◌}
use mathlib.Core.Bool.{false}
use mathlib.Core.List.{List, []}
use mathlib.Core.Logic.{◌⊎◌, inl, inr}
use Prim.Native.Nat.{ℕ, ◌+◌, ◌-◌, ◌*◌, ◌^◌, ◌≤◌, ◌<◌, min}
use native.Mathlib.Omega.{arith}
use lib.ListN.{length, get_or, drop, length-drop, get_or-eq_default}
use lib.Seq.{take_all, get_or-drop}
use Rattle.std.specs.List.{slice_range}
use Rattle.ground.proofs.CountLaws.{split}
use Rattle.ground.proofs.UsedLaws.{used_outside}
use Rattle.paths.specs.Meaning.{Row, word_in}
use Rattle.tables.specs.Rows.{is_kept, word_over, kept_over}
use Rattle.tables.specs.Offsets.{rows_over, marks_over}
use Rattle.tables.specs.declared.offsets.Extent.{Extent}
use Rattle.tables.proofs.OffsetLaws.{rows_at_lem}
use Rattle.tables.proofs.RowLaws.{rows_over_lem, word_over_lem, mark_over}

-- a slice from a place on is what is left there
take_rest : (l : List ℕ) (n : ℕ) → slice_range l n (length l) ≡ drop n l
take_rest l n = take_all (length l - n) (drop n l) (omega (arith, length-drop n l))

-- a column past the last reads as 0
pub word_outside : (x : Extent) (words : List ℕ) (i c : ℕ) → i < x.rows → x.columns ≤ c → 0 ≡ word_in (get_or (rows_over x words) i []) c
unfolding rows_over
word_outside x words i c h k =
    sym
    (ap (λ (row : Row). word_in row c) (rows_at_lem x.columns x.rows (drop x.word words) i h)
    ∙ used_outside (drop (i * x.columns) (drop x.word words)) x.columns c 0 k)

module _ (x : Extent) (words : List ℕ) (i c : ℕ) where
  pub word_no_row : x.rows ≤ i → 0 ≡ word_over x words i c
  word_no_row h =
      let l : length (rows_over x words) ≤ i = omega (arith, rows_over_lem x words) in
      sym (ap (λ (row : Row). word_in row c) (get_or-eq_default (rows_over x words) [] l))

  pub word_beyond : (x.rows ≤ i) ⊎ ((i < x.rows) × (x.columns ≤ c)) → 0 ≡ word_over x words i c
  word_beyond (inl h) = word_no_row h
  word_beyond (inr (h, k)) = word_outside x words i c h k

  module _ (h : i < x.rows) (k : c < x.columns) where
    pub word_past : length words ≤ x.word + i * x.columns + c → 0 ≡ word_over x words i c
    word_past l = sym (get_or-eq_default words 0 l) ∙ word_over_lem x words i c h k

    pub word_no_word : length words ≤ x.word → 0 ≡ word_over x words i c
    word_no_word l = word_past (omega arith)

    pub word_before : length words < x.word → 0 ≡ word_over x words i c
    word_before l = word_no_word (omega arith)

    -- a place that is too large for a number of 64 bits ends at the greatest, where no slice has a word
    pub word_found : (left : List ℕ) → left ≡ slice_range words x.word (length words) → length words < 2 ^ 64 → (at : ℕ)
        → at ≡ min (min (i * x.columns) (2 ^ 64 - 1) + c) (2 ^ 64 - 1) → (w : ℕ) → w ≡ get_or left at 0 → w ≡ word_over x words i c
    word_found left f l at g w q =
        q
        ∙ split (length words) (x.word + i * x.columns + c)
        (λ m.
        let past : length left ≤ at = omega (arith, ap length f, ap length (take_rest words x.word), length-drop x.word words) in
        get_or-eq_default left 0 past ∙ word_past m)
        (λ m.
        let e : at ≡ i * x.columns + c = omega arith in
        ap (λ (w : List ℕ). get_or w at 0) (f ∙ take_rest words x.word)
        ∙ get_or-drop x.word words at 0
        ∙ ap (λ (n : ℕ). get_or words n 0) (omega arith)
        ∙ word_over_lem x words i c h k)

module _ (x : Extent) (marks : List ℕ) (i : ℕ) where
  pub mark_no_row : x.rows ≤ i → false ≡ kept_over x marks i
  unfolding marks_over
  mark_no_row h = ap is_kept (sym (used_outside (drop x.mark marks) x.rows i 0 h))

  pub mark_past : i < x.rows → length marks ≤ x.mark + i → false ≡ kept_over x marks i
  mark_past h l = ap is_kept (sym (get_or-eq_default marks 0 l) ∙ mark_over x marks i h)

  pub mark_before : i < x.rows → length marks < x.mark → false ≡ kept_over x marks i
  mark_before h l = mark_past h (omega arith)

  pub mark_found : i < x.rows → (left : List ℕ) → left ≡ slice_range marks x.mark (length marks) → (m : ℕ) → m ≡ get_or left i 0
      → is_kept m ≡ kept_over x marks i
  mark_found h left f m g =
      ap is_kept
      (g ∙ ap (λ (l : List ℕ). get_or l i 0) (f ∙ take_rest marks x.mark) ∙ get_or-drop x.mark marks i 0 ∙ mark_over x marks i h)
