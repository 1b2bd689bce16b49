-- Marks that keep every row which stands in a combination that meets all clauses leave the answer as it is, and its order:
-- no such combination is lost, and combinations come in the same order from fewer rows.
use mathlib.Core.Path.{◌≡◌, refl, sym, ap, ◌∙◌}
use mathlib.Core.Bool.{Bool, true, false}
use mathlib.Core.List.Memᴰ
use mathlib.Core.List.{List, [], ◌∷◌, map, map-map, Memᴰ}
use mathlib.Core.Logic.{◌⊎◌, inl, inr}
use Prim.Native.Nat.{ℕ, suc, ◌<◌, zero-le, suc-le-suc}
use native.Mathlib.Omega.{arith}
use lib.ListN.{length, get_or, length-map}
use Rattle.ground.specs.Tests.{pick}
use Rattle.ground.specs.Lists.{cons_if, filter, all, combinations, below}
use Rattle.ground.proofs.ListLaws.{all_index, filter_map, filter_implied, map_mem, map_alike, get_d_map}
use Rattle.ground.proofs.NumbersLaws.{below_length, below_get_d, below_from}
use Rattle.ground.proofs.CountLaws.{split}
use Rattle.ground.proofs.CombinationLaws.{combinations_from_lem, combinations_length, combinations_filters, combinations_map}
use Rattle.contents.specs.Parts.{relation_count, clauses_of, targets_of}
use Rattle.contents.specs.declared.envelope.Envelope.{Envelope}
use Rattle.paths.specs.Meaning.{Row, Table, meets_all, target_row, answer_on, answer_rows}
use Rattle.tables.specs.Offsets.{count_in, rows_at, marks_at}
use Rattle.tables.specs.Rows.{is_kept, row_of, kept_at, SameRows, kept_of, kept_rows}
use Rattle.semijoin.specs.Promise.{NeededIn, Needed, Covers}
use Rattle.tables.proofs.OffsetLaws.{count_outside, rows_at_length, tables_are}
use Rattle.tables.proofs.RowLaws.{kept_test}

-- ---- a list for each number

module _ {A : Type 0} (f : ℕ → List A) (n : ℕ) where
  pub listed_length : length (map f (below n)) ≡ n
  listed_length = length-map (below n) f ∙ below_length n

  pub listed_at : (r : ℕ) → r < n → get_or (map f (below n)) r [] ≡ f r
  listed_at r h =
      let few : r < length (below n) = rw (below_length n) h in
      get_d_map f (below n) r 0 [] few ∙ ap f (below_get_d n r 0 h)

-- ---- a table's rows with their marks beside them; a row without one has 0

record Marked : Type 0 where
  mark : ℕ
  row : Row

abbrev marked : ℕ → Row → Marked
marked m row = record { mark = m; row = row }

abbrev is_on : Marked → Bool
is_on x = is_kept x.mark

abbrev row_in : Marked → Row
row_in x = x.row

abbrev beside : List ℕ → Table → List Marked
beside ms [] = []
beside [] (row ∷ t) = marked 0 row ∷ beside [] t
beside (m ∷ ms) (row ∷ t) = marked m row ∷ beside ms t

kept_beside : (ms : List ℕ) (t : Table) → kept_of ms t ≡ map row_in (filter is_on (beside ms t))
unfolding kept_of
kept_beside [] [] = refl
kept_beside (m ∷ ms) [] = refl
kept_beside [] (row ∷ t) = kept_beside [] t
kept_beside (m ∷ ms) (row ∷ t) = go (is_kept m) (kept_beside ms t)
  where
    go : (b : Bool) → kept_of ms t ≡ map row_in (filter is_on (beside ms t))
        → cons_if b row (kept_of ms t) ≡ map row_in (cons_if b (marked m row) (filter is_on (beside ms t)))
    go true e = rw e
    go false e = e

rows_beside : (ms : List ℕ) (t : Table) → map row_in (beside ms t) ≡ t
rows_beside ms [] = refl
rows_beside [] (row ∷ t) = rw (rows_beside [] t)
rows_beside (m ∷ ms) (row ∷ t) = rw (rows_beside ms t)

-- one of them is the row and the mark at some place
beside_from : {x : Marked} (ms : List ℕ) (t : Table) → Memᴰ x (beside ms t)
    → (i : ℕ) × (i < length t) × (x ≡ marked (get_or ms i 0) (get_or t i []))
beside_from ms [] n = elim n [ ]
beside_from {x} [] (row ∷ t) n = go (Memᴰ.cases_cons n) (beside_from [] t)
  where
    go : (x ≡ marked 0 row) ⊎ Memᴰ x (beside [] t)
        → (Memᴰ x (beside [] t) → (i : ℕ) × (i < length t) × (x ≡ marked 0 (get_or t i [])))
        → (i : ℕ) × (i < suc (length t)) × (x ≡ marked 0 (get_or (row ∷ t) i []))
    go (inl e) ih = (0, suc-le-suc zero-le, e)
    go (inr k) ih = let (i, h, e) = ih k in (suc i, suc-le-suc h, e)
beside_from {x} (m ∷ ms) (row ∷ t) n = go (Memᴰ.cases_cons n) (beside_from ms t)
  where
    go : (x ≡ marked m row) ⊎ Memᴰ x (beside ms t)
        → (Memᴰ x (beside ms t) → (i : ℕ) × (i < length t) × (x ≡ marked (get_or ms i 0) (get_or t i [])))
        → (i : ℕ) × (i < suc (length t)) × (x ≡ marked (get_or (m ∷ ms) i 0) (get_or (row ∷ t) i []))
    go (inl e) ih = (0, suc-le-suc zero-le, e)
    go (inr k) ih = let (i, h, e) = ih k in (suc i, suc-le-suc h, e)

-- ---- the same combinations meet all clauses

module _ (e : Envelope) (tables : ℕ → Table) (marks : ℕ → List ℕ)
    (covers : (r i : ℕ) → i < length (tables r) → NeededIn e (map tables (below (relation_count e))) r (get_or (tables r) i [])
    → is_kept (get_or (marks r) i 0) ≡ true) where
  abbrev tables_by : List Table
  tables_by = map (λ r. kept_of (marks r) (tables r)) (below (relation_count e))

  abbrev all_tables : List Table
  all_tables = map tables (below (relation_count e))

  abbrev pairs : ℕ → List Marked
  pairs r = beside (marks r) (tables r)

  abbrev paired : List (List Marked)
  paired = map pairs (below (relation_count e))

  tables_paired : tables_by ≡ map (map row_in) (map (filter is_on) paired)
  tables_paired =
      map_alike _ (λ r. map row_in (filter is_on (pairs r))) (below (relation_count e)) (λ r m. kept_beside (marks r) (tables r))
      ∙ sym (ap (map (map row_in)) (map-map (filter is_on) pairs (below (relation_count e)))
      ∙ map-map (map row_in) (λ r. filter is_on (pairs r)) (below (relation_count e)))

  plain : map (map row_in) (combinations paired) ≡ combinations all_tables
  plain =
      sym (combinations_map row_in paired)
      ∙ ap combinations
      (map-map (map row_in) pairs (below (relation_count e))
      ∙ map_alike _ tables (below (relation_count e)) (λ r m. rows_beside (marks r) (tables r)))

  paired_at : (r : ℕ) → r < length paired → get_or paired r [] ≡ pairs r
  paired_at r h = listed_at pairs (relation_count e) r (rw (listed_length pairs (relation_count e)) at h)

  -- a combination that meets all clauses has kept rows only
  only_kept : (c : List Marked) → Memᴰ c (combinations paired) → meets_all (clauses_of e) (map row_in c) ≡ true → all is_on c ≡ true
  only_kept c n met = all_index is_on (marked 0 []) c λ r l.
      let long : r < length paired = rw (combinations_length paired n) at l in
      let (i, k, w) = beside_from (marks r) (tables r) (rw (paired_at r long) at (combinations_from_lem (marked 0 []) paired r long n)) in
      kept r i l k w
    where
      kept : (r i : ℕ) → r < length c → i < length (tables r)
          → get_or c r (marked 0 []) ≡ marked (get_or (marks r) i 0) (get_or (tables r) i [])
          → is_on (get_or c r (marked 0 [])) ≡ true
      kept r i l k w =
          let row : get_or (map row_in c) r [] ≡ get_or (tables r) i [] = get_d_map row_in c r (marked 0 []) [] l ∙ ap row_in w in
          ap is_on w ∙ covers r i k (map row_in c, rw plain at (map_mem (map row_in) n), met, row)

  met_alike : filter (meets_all (clauses_of e)) (combinations tables_by) ≡ filter (meets_all (clauses_of e)) (combinations all_tables)
  met_alike =
      rw (tables_paired, combinations_map row_in, combinations_filters, filter_map)
      (ap (map (map row_in))
      (filter_implied (λ (c : List Marked). meets_all (clauses_of e) (map row_in c)) (all is_on) (combinations paired) only_kept)
      ∙ sym (filter_map (meets_all (clauses_of e)) (map row_in) (combinations paired))
      ∙ ap (filter (meets_all (clauses_of e))) plain)

  answer_covered : answer_on (clauses_of e) (targets_of e) tables_by ≡ answer_on (clauses_of e) (targets_of e) (map tables (below (relation_count e)))
  unfolding answer_on
  answer_covered = ap (map (target_row (targets_of e))) met_alike

-- ---- rows that pass a test, where every needed row passes, give the same answer

module _ (e : Envelope) (tables : ℕ → Table) (passes : ℕ → Row → Bool)
    (needed : (r : ℕ) (row : Row) → NeededIn e (map tables (below (relation_count e))) r row → passes r row ≡ true) where
  abbrev mark_of : ℕ → Row → ℕ
  mark_of r row = pick (passes r row) 1 0

  pub answer_filtered : answer_on (clauses_of e) (targets_of e) (map (λ r. filter (passes r) (tables r)) (below (relation_count e)))
      ≡ answer_on (clauses_of e) (targets_of e) (map tables (below (relation_count e)))
  answer_filtered =
      ap (answer_on (clauses_of e) (targets_of e))
      (map_alike (λ r. filter (passes r) (tables r)) (λ r. kept_of (map (mark_of r) (tables r)) (tables r)) (below (relation_count e))
      (λ r m. sym (kept_test (passes r) (tables r))))
      ∙ answer_covered e tables (λ r. map (mark_of r) (tables r)) λ r i h n.
      ap is_kept
      (get_d_map (mark_of r) (tables r) i [] 0 h ∙ ap (λ (b : Bool). pick b 1 0) (needed r (get_or (tables r) i []) n))

-- ---- the tables of kept rows, each relation's where its rows and marks are, give the answer on all tables

module _ (e : Envelope) (whole : List ℕ) (words marks : ℕ → List ℕ) (same : (r : ℕ) → r < relation_count e → SameRows e r (words r) whole)
    (covers : (r : ℕ) → r < relation_count e → Covers e whole (words r) (marks r) r) where
  own_marks : (r i : ℕ) → i < length (rows_at e whole r) → Needed e whole r (row_of e whole r i) → kept_at e (words r) (marks r) r i ≡ true
  own_marks r i h n =
      let there : i < count_in e whole r = omega (arith, rows_at_length e whole r) in
      split (relation_count e) r
      (λ k. let none : count_in e whole r ≡ 0 = count_outside e whole r k in absurd (omega arith))
      (λ k.
      let l : i < count_in e (words r) r = omega (arith, ap length (same r k), rows_at_length e whole r, rows_at_length e (words r) r) in
      covers r k i l (rw (ap (λ (t : Table). get_or t i []) (same r k)) n))

  pub delivered : answer_on (clauses_of e) (targets_of e) (map (λ r. kept_rows e (words r) (marks r) r) (below (relation_count e))) ≡ answer_rows e whole
  unfolding kept_rows answer_rows
  delivered =
      ap (answer_on (clauses_of e) (targets_of e))
      (map_alike (λ r. kept_rows e (words r) (marks r) r) (λ r. kept_of (marks_at e (words r) r (marks r)) (rows_at e whole r)) (below (relation_count e))
      (λ r m. rw (same r (below_from (relation_count e) m))))
      ∙ answer_covered e (rows_at e whole) (λ r. marks_at e (words r) r (marks r)) (λ r i h n. own_marks r i h (rw (tables_are e whole) n))
      ∙ ap (answer_on (clauses_of e) (targets_of e)) (sym (tables_are e whole))
