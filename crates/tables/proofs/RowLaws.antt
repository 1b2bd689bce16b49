-- One row at an extent, its word and its mark; and marks beside the rows of one table: which rows are kept.
use mathlib.Core.Path.{◌≡◌, refl, sym, ap, ◌∙◌}
use mathlib.Core.Bool.{Bool, true, false, false≢true}
use mathlib.Core.List.Memᴰ
use mathlib.Core.List.{List, [], ◌∷◌, map, Memᴰ}
use mathlib.Core.Logic.{◌⊎◌, inl, inr}
use Prim.Native.Nat.{ℕ, zero, suc, ◌+◌, ◌*◌, ◌≤◌, ◌<◌, zero-le, suc-le-suc}
use native.Mathlib.Nat.{le_of_suc-le-suc, not-suc-le-zero, zero-add, add-zero}
use native.Mathlib.Omega.{arith}
use lib.ListN.{length, get_or, take, drop}
use lib.Seq.{drop-drop, get_or-take, get_or-drop}
use Rattle.ground.specs.Tests.{pick}
use Rattle.ground.specs.Lists.{cons_if, filter, below, numbers_from}
use Rattle.ground.proofs.CountLaws.{split}
use Rattle.ground.proofs.UsedLaws.{used_outside}
use Rattle.entries.specs.declared.places.Place.{Place}
use Rattle.contents.specs.declared.envelope.Envelope.{Envelope}
use Rattle.paths.specs.Meaning.{Row, Table, word_in}
use Rattle.tables.specs.Offsets.{count_in, first_mark, extent_of, rows_over, marks_over, rows_at, marks_at}
use Rattle.tables.specs.Rows.{is_kept, word_over, kept_over, row_of, word_of, kept_at, SameRows, kept_of, kept_rows}
use Rattle.tables.specs.declared.offsets.Extent.{Extent}
use Rattle.ground.proofs.ListPartLaws.{part_length, part_get_d}
use Rattle.tables.proofs.OffsetLaws.{rows_length, rows_at_lem, rows_at_length}

-- ---- one row's word and mark

module _ (x : Extent) where
  pub rows_over_lem : (words : List ℕ) → length (rows_over x words) ≡ x.rows
  unfolding rows_over
  rows_over_lem words = rows_length x.columns x.rows (drop x.word words)

  pub marks_over_lem : (marks : List ℕ) → x.mark + x.rows ≤ length marks → length (marks_over x marks) ≡ x.rows
  unfolding marks_over
  marks_over_lem marks h = part_length x.mark x.rows marks h

  pub word_over_lem : (words : List ℕ) (i c : ℕ) → i < x.rows → c < x.columns
      → get_or words (x.word + i * x.columns + c) 0 ≡ word_in (get_or (rows_over x words) i []) c
  unfolding rows_over
  word_over_lem words i c h k =
      sym
      (ap (λ (row : Row). word_in row c)
      (rows_at_lem x.columns x.rows (drop x.word words) i h ∙ ap (take x.columns) (drop-drop (i * x.columns) x.word words))
      ∙ get_or-take x.columns (drop (x.word + i * x.columns) words) c 0 k
      ∙ get_or-drop (x.word + i * x.columns) words c 0)

  pub mark_over : (marks : List ℕ) (i : ℕ) → i < x.rows → get_or marks (x.mark + i) 0 ≡ get_or (marks_over x marks) i 0
  unfolding marks_over
  mark_over marks i h = sym (part_get_d x.mark x.rows marks i 0 h)

-- ---- kept rows

-- the row at a kept mark
pub kept_mem : (ms : List ℕ) (t : Table) (i : ℕ) → i < length t → is_kept (get_or ms i 0) ≡ true → Memᴰ (get_or t i []) (kept_of ms t)
unfolding kept_of
kept_mem [] t i h k = absurd (false≢true k)
kept_mem (m ∷ ms) [] i h k = absurd (not-suc-le-zero h)
kept_mem (m ∷ ms) (row ∷ t) zero h k = rw k (Memᴰ.head refl)
kept_mem (m ∷ ms) (row ∷ t) (suc i) h k = go (is_kept m) (kept_mem ms t i (le_of_suc-le-suc h) k)
  where
    go : (b : Bool) → Memᴰ (get_or t i []) (kept_of ms t) → Memᴰ (get_or t i []) (cons_if b row (kept_of ms t))
    go true n = Memᴰ.tail n
    go false n = n

pub kept_from : {row : Row} (ms : List ℕ) (t : Table) → Memᴰ row (kept_of ms t)
    → (i : ℕ) × (i < length t) × (is_kept (get_or ms i 0) ≡ true) × (get_or t i [] ≡ row)
unfolding kept_of
kept_from [] t n = elim n [ ]
kept_from (m ∷ ms) [] n = elim n [ ]
kept_from {row} (m ∷ ms) (first ∷ t) n = go (kept_from ms t) (is_kept m) refl n
  where
    Later : Type 0
    Later = Memᴰ row (kept_of ms t) → (i : ℕ) × (i < length t) × (is_kept (get_or ms i 0) ≡ true) × (get_or t i [] ≡ row)

    Found : Type 0
    Found = (i : ℕ) × (i < suc (length t)) × (is_kept (get_or (m ∷ ms) i 0) ≡ true) × (get_or (first ∷ t) i [] ≡ row)

    later : Later → Memᴰ row (kept_of ms t) → Found
    later ih n = let (i, h, k, e) = ih n in (suc i, suc-le-suc h, k, e)

    here : Later → is_kept m ≡ true → (row ≡ first) ⊎ Memᴰ row (kept_of ms t) → Found
    here ih k (inl e) = (0, suc-le-suc zero-le, k, sym e)
    here ih k (inr n) = later ih n

    go : Later → (b : Bool) → is_kept m ≡ b → Memᴰ row (cons_if b first (kept_of ms t)) → Found
    go ih true k n = here ih k (Memᴰ.cases_cons n)
    go ih false k n = later ih n

pub kept_length : (ms : List ℕ) (t : Table) → length (kept_of ms t) ≤ length t
unfolding kept_of
kept_length [] t = zero-le
kept_length (m ∷ ms) [] = zero-le
kept_length (m ∷ ms) (row ∷ t) = go (is_kept m) (kept_length ms t)
  where
    go : (b : Bool) → length (kept_of ms t) ≤ length t → length (cons_if b row (kept_of ms t)) ≤ suc (length t)
    go true h = suc-le-suc h
    go false h = omega arith

-- the kept rows by their numbers, in order
pub kept_numbers : (ms : List ℕ) (t : Table) (k : ℕ) (row : ℕ → Row) (kept : ℕ → Bool) → ((i : ℕ) → row (k + i) ≡ get_or t i [])
    → ((i : ℕ) → kept (k + i) ≡ is_kept (get_or ms i 0)) → kept_of ms t ≡ map row (filter kept (numbers_from k (length t)))
unfolding kept_of numbers_from
kept_numbers [] [] k row kept f g = refl
kept_numbers (m ∷ ms) [] k row kept f g = refl
kept_numbers [] (x ∷ t) k row kept f g =
    let none : kept k ≡ false = ap kept (sym (add-zero k)) ∙ g 0 in
    rw none
    (kept_numbers [] t (k + 1) row kept
    (λ i. let s : k + 1 + i ≡ k + suc i = omega arith in ap row s ∙ f (suc i))
    (λ i. let s : k + 1 + i ≡ k + suc i = omega arith in ap kept s ∙ g (suc i)))
kept_numbers (m ∷ ms) (x ∷ t) k row kept f g =
    let here : kept k ≡ is_kept m = ap kept (sym (add-zero k)) ∙ g 0 in
    let first : row k ≡ x = ap row (sym (add-zero k)) ∙ f 0 in
    rw here
    (go (is_kept m) first
    (kept_numbers ms t (k + 1) row kept
    (λ i. let s : k + 1 + i ≡ k + suc i = omega arith in ap row s ∙ f (suc i))
    (λ i. let s : k + 1 + i ≡ k + suc i = omega arith in ap kept s ∙ g (suc i))))
  where
    go : (b : Bool) → row k ≡ x → kept_of ms t ≡ map row (filter kept (numbers_from (k + 1) (length t)))
        → cons_if b x (kept_of ms t) ≡ map row (cons_if b k (filter kept (numbers_from (k + 1) (length t))))
    go true e ih = rw (e, ih)
    go false e ih = ih

-- marks by a test keep the rows that pass it
pub kept_test : (p : Row → Bool) (t : Table) → kept_of (map (λ (row : Row). pick (p row) 1 0) t) t ≡ filter p t
unfolding kept_of
kept_test p [] = refl
kept_test p (row ∷ t) = go (p row) (kept_test p t)
  where
    rest : List ℕ
    rest = map (λ (r : Row). pick (p r) 1 0) t

    go : (b : Bool) → kept_of rest t ≡ filter p t → cons_if (is_kept (pick b 1 0)) row (kept_of rest t) ≡ cons_if b row (filter p t)
    go true e = rw e
    go false e = e

-- ---- the rows of a relation, by their numbers

module _ (e : Envelope) where
  pub past_last : (words marks : List ℕ) (r i : ℕ) → count_in e words r ≤ i → get_or (marks_at e words r marks) i 0 ≡ 0
  unfolding marks_at marks_over
  past_last words marks r i h = used_outside (drop (first_mark e words r) marks) (count_in e words r) i 0 h

  -- a row that is kept is one of the relation's rows
  pub kept_inside : (words marks : List ℕ) (r i : ℕ) → kept_at e words marks r i ≡ true → i < count_in e words r
  kept_inside words marks r i t =
      split (count_in e words r) i (λ h. absurd (false≢true (rw (past_last words marks r i h) at t))) (λ h. h)

  -- tables with the same rows of a relation have as many
  pub same_counts : (words others : List ℕ) (r : ℕ) → SameRows e r words others → count_in e words r ≡ count_in e others r
  same_counts words others r same = sym (rows_at_length e words r) ∙ ap length same ∙ rows_at_length e others r

  -- the kept rows of a relation are those of its rows that are kept, in table order
  pub kept_are : (words marks : List ℕ) (r : ℕ)
      → kept_rows e words marks r ≡ map (row_of e words r) (filter (kept_at e words marks r) (below (count_in e words r)))
  unfolding kept_rows
  kept_are words marks r =
      kept_numbers (marks_at e words r marks) (rows_at e words r) 0 (row_of e words r) (kept_at e words marks r)
      (λ i. ap (row_of e words r) (zero-add i)) (λ i. ap (kept_at e words marks r) (zero-add i))
      ∙ ap (λ (n : ℕ). map (row_of e words r) (filter (kept_at e words marks r) (below n))) (rows_at_length e words r)

-- one row, by its relation's extent
module _ (e : Envelope) (words : List ℕ) (x : Extent) (i : ℕ) where
  pub word_by : (a : Place) → x ≡ extent_of e words a.relation → (w : ℕ) → w ≡ word_over x words i a.column → w ≡ word_of e words a i
  unfolding rows_at
  word_by a f w g = g ∙ ap (λ (y : Extent). word_over y words i a.column) f

  pub kept_by_lem : (r : ℕ) → x ≡ extent_of e words r → (marks : List ℕ) (b : Bool) → b ≡ kept_over x marks i → b ≡ kept_at e words marks r i
  unfolding marks_at
  kept_by_lem r f marks b g = g ∙ ap (λ (y : Extent). kept_over y marks i) f
