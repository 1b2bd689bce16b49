-- Where a relation's words and marks lie: one relation more, what lies before what, and that the rows found there are the
-- tables that the meaning speaks of.
use mathlib.Core.Path.{◌≡◌, refl, sym, ap, ◌∙◌}
use mathlib.Core.List.{List, [], ◌∷◌, map}
use Prim.Native.Nat.{ℕ, zero, suc, ◌+◌, ◌*◌, ◌≤◌, ◌<◌}
use native.Mathlib.Nat.{not-suc-le-zero, le_of_suc-le-suc, zero-mul, suc-mul, add-zero}
use native.Mathlib.Omega.{arith}
use lib.ListN.{length, get_or, take, drop, length-map, get_or-eq_default}
use lib.Seq.{drop-drop, get_or-take, get_or-drop}
use Rattle.ground.specs.Lists.{below, numbers_from}
use Rattle.ground.proofs.UsedLaws.{used_inside, used_outside}
use Rattle.ground.proofs.NumbersLaws.{below_length, below_get_d}
use Rattle.ground.proofs.ListLaws.{get_d_map}
use Rattle.ground.proofs.CountLaws.{split}
use Rattle.contents.specs.Parts.{relation_count, columns_in}
use Rattle.contents.specs.declared.envelope.Envelope.{Envelope}
use Rattle.paths.specs.Meaning.{Row, Table, word_in, rows_in, tables_in, counts_of, tables_of}
use Rattle.tables.specs.Offsets.{count_in, words_before, rows_before, first_word, first_mark, rows_over, rows_at}
use Rattle.ground.proofs.SumLaws.{sum_none, sum_below, sum_end}

-- ---- rows cut from words

pub rows_length : (k n : ℕ) (ws : List ℕ) → length (rows_in k n ws) ≡ n
unfolding rows_in
rows_length k zero ws = refl
rows_length k (suc n) ws = ap suc (rows_length k n (drop k ws))

pub rows_at_lem : (k n : ℕ) (ws : List ℕ) (i : ℕ) → i < n → get_or (rows_in k n ws) i [] ≡ take k (drop (i * k) ws)
unfolding rows_in
rows_at_lem k zero ws i h = absurd (not-suc-le-zero h)
rows_at_lem k (suc n) ws zero h = rw (zero-mul k)
rows_at_lem k (suc n) ws (suc i) h =
    let s : k + i * k ≡ suc i * k = rw (suc-mul i k) (omega arith) in
    rows_at_lem k n (drop k ws) i (le_of_suc-le-suc h) ∙ ap (take k) (drop-drop (i * k) k ws ∙ ap (λ (j : ℕ). drop j ws) s)

tables_cons : (k : ℕ) (ks ns ws : List ℕ)
    → tables_in (k ∷ ks) ns ws ≡ rows_in k (get_or ns 0 0) ws ∷ tables_in ks (drop 1 ns) (drop (get_or ns 0 0 * k) ws)
unfolding tables_in rows_in
tables_cons k ks [] ws = rw (zero-mul k)
tables_cons k ks (n ∷ ns) ws = refl

module _ (e : Envelope) (words : List ℕ) where
  -- ---- counts

  pub count_inside : (r : ℕ) → r < relation_count e → count_in e words r ≡ get_or words r 0
  unfolding count_in
  count_inside r h = used_inside words (relation_count e) r 0 h

  pub count_outside : (r : ℕ) → relation_count e ≤ r → count_in e words r ≡ 0
  unfolding count_in
  count_outside r h = used_outside words (relation_count e) r 0 h

  -- ---- one relation more

  pub words_none : words_before e words 0 ≡ 0
  unfolding words_before
  words_none = sum_none (λ r. count_in e words r * columns_in e r)

  pub words_more : (r : ℕ) → words_before e words (r + 1) ≡ words_before e words r + count_in e words r * columns_in e r
  unfolding words_before
  words_more r = sum_below (λ q. count_in e words q * columns_in e q) r

  pub rows_none : rows_before e words 0 ≡ 0
  unfolding rows_before
  rows_none = sum_none (count_in e words)

  pub rows_more : (r : ℕ) → rows_before e words (r + 1) ≡ rows_before e words r + count_in e words r
  unfolding rows_before
  rows_more r = sum_below (count_in e words) r

  pub first_none : first_word e words 0 ≡ relation_count e
  unfolding first_word
  first_none = rw words_none (add-zero (relation_count e))

  pub first_more : (r : ℕ) → first_word e words (r + 1) ≡ first_word e words r + count_in e words r * columns_in e r
  unfolding first_word
  first_more r = rw (words_more r) (omega arith)

  -- ---- a relation's words and marks end before those of a later one begin

  pub words_end : (r n : ℕ) → r < n → first_word e words r + count_in e words r * columns_in e r ≤ first_word e words n
  unfolding first_word words_before
  words_end r n h = omega (arith, sum_end (λ q. count_in e words q * columns_in e q) r n h)

  pub marks_end : (r n : ℕ) → r < n → first_mark e words r + count_in e words r ≤ rows_before e words n
  unfolding rows_before
  marks_end r n h = sum_end (count_in e words) r n h

  -- ---- the rows

  pub rows_at_length : (r : ℕ) → length (rows_at e words r) ≡ count_in e words r
  unfolding rows_at rows_over
  rows_at_length r = rows_length (columns_in e r) (count_in e words r) (drop (first_word e words r) words)

  pub rows_outside : (r : ℕ) → relation_count e ≤ r → rows_at e words r ≡ []
  unfolding rows_at rows_over rows_in
  rows_outside r h = rw (count_outside r h)

  pub row_is : (r i : ℕ) → i < count_in e words r
      → get_or (rows_at e words r) i [] ≡ take (columns_in e r) (drop (first_word e words r + i * columns_in e r) words)
  unfolding rows_at rows_over
  row_is r i h =
      rows_at_lem (columns_in e r) (count_in e words r) (drop (first_word e words r) words) i h
      ∙ ap (take (columns_in e r)) (drop-drop (i * columns_in e r) (first_word e words r) words)

  -- the word of row i, column c
  pub word_at : (r i c : ℕ) → i < count_in e words r → c < columns_in e r
      → word_in (get_or (rows_at e words r) i []) c ≡ get_or words (first_word e words r + i * columns_in e r + c) 0
  word_at r i c h k =
      ap (λ (row : Row). word_in row c) (row_is r i h)
      ∙ get_or-take (columns_in e r) (drop (first_word e words r + i * columns_in e r) words) c 0 k
      ∙ get_or-drop (first_word e words r + i * columns_in e r) words c 0

  -- the tables that the meaning speaks of are the rows found there, relation by relation
  tables_from_lem : (i n : ℕ)
      → tables_in (map (columns_in e) (numbers_from i n)) (drop i (counts_of e words)) (drop (first_word e words i) words)
      ≡ map (rows_at e words) (numbers_from i n)
  unfolding tables_in numbers_from rows_at rows_over count_in
  tables_from_lem i zero = refl
  tables_from_lem i (suc n) =
      tables_cons (columns_in e i) (map (columns_in e) (numbers_from (i + 1) n)) (drop i (counts_of e words)) (drop (first_word e words i) words)
      ∙ rw (
        get_or-drop i (counts_of e words) 0 0,
        add-zero i,
        drop-drop 1 i (counts_of e words),
        drop-drop (count_in e words i * columns_in e i) (first_word e words i) words,
        ← first_more i,
      )
      (ap (λ (ts : List Table). rows_at e words i ∷ ts) (tables_from_lem (i + 1) n))

  pub tables_are : tables_of e words ≡ map (rows_at e words) (below (relation_count e))
  unfolding tables_of
  tables_are = rw first_none at (tables_from_lem 0 (relation_count e))

  pub tables_length : length (tables_of e words) ≡ relation_count e
  tables_length = ap length tables_are ∙ length-map (below (relation_count e)) (rows_at e words) ∙ below_length (relation_count e)

  pub table_at : (r : ℕ) → get_or (tables_of e words) r [] ≡ rows_at e words r
  table_at r =
      split (relation_count e) r
      (λ h. get_or-eq_default (tables_of e words) [] (rw tables_length h) ∙ sym (rows_outside r h))
      (λ h.
      let long : r < length (below (relation_count e)) = rw (below_length (relation_count e)) h in
      ap (λ (ts : List Table). get_or ts r []) tables_are
      ∙ get_d_map (rows_at e words) (below (relation_count e)) r 0 [] long
      ∙ ap (rows_at e words) (below_get_d (relation_count e) r 0 h))
