-- The laws of columns and relations: each return of the functions that read them, and their bytes.
use mathlib.Core.Path.{◌≡◌, refl, ap, ◌∙◌}
use Prim.Native.Nat.{ℕ, ◌*◌, ◌≤◌, min}
use native.Mathlib.Omega.{arith}
use mathlib.Core.List.{List, ◌++◌}
use lib.ListN.{length, get_or, take, length-take}
use Rattle.std.specs.Prelude.{Result, Ok, Err}
use Rattle.ground.specs.Outcome.{Outcome, next, many, read_of}
use Rattle.ground.specs.Outcome.Outcome.{good, bad}
use Rattle.ground.specs.declared.refusals.Refusal.{Refusal}
use Rattle.ground.proofs.OutcomeLaws.{passes_on, goes_on}
use Rattle.fields.specs.Numbers.{number_in, number_below}
use Rattle.ground.specs.Lists.{each}
use Rattle.ground.specs.Bytes.{bytes_of}
use Rattle.fields.specs.Lists.{arrayed}
use Rattle.fields.specs.Puts.{Puts}
use Rattle.fields.proofs.PartLaws.{then_part, wider_part}
use Rattle.entries.specs.Relations.{no_column, column_at, column_bytes, columns_of, relation_with, columns_then, relation_at, relation_bytes}
use Rattle.entries.specs.declared.relations.Column.{Column}
use Rattle.entries.specs.declared.relations.Relation.{Relation}

-- ---- a column

module _ (count : ℕ) (sizes : List ℕ) (rows : ℕ) (s : List ℕ) (at : ℕ) (r : Result (ℕ × ℕ) Refusal)
    (e : r ≡ read_of (number_below 1 count s at)) where
  pub column_no_domain : (x : Refusal) → r ≡ Err x → Err x ≡ read_of (column_at count sizes rows s at)
  unfolding column_at
  column_no_domain x g = passes_on (number_below 1 count s at) _ r e x g

  module _ (d u : ℕ) (g : r ≡ Ok (d, u)) (r' : Result (ℕ × ℕ) Refusal) (e' : r' ≡ read_of (number_in 1 1 255 s u)) where
    pub column_no_width : (x : Refusal) → r' ≡ Err x → Err x ≡ read_of (column_at count sizes rows s at)
    unfolding column_at
    column_no_width x g' = goes_on (number_below 1 count s at) _ r e d u _ g (passes_on (number_in 1 1 255 s u) _ r' e' x g')

    module _ (w v : ℕ) (g' : r' ≡ Ok (w, v)) (r'' : Result (ℕ × ℕ) Refusal)
        (e'' : r'' ≡ read_of (number_in 4 (min 1 rows) (min rows (get_or sizes d 0)) s v)) where
      pub column_no_distinct : (x : Refusal) → r'' ≡ Err x → Err x ≡ read_of (column_at count sizes rows s at)
      unfolding column_at
      column_no_distinct x g'' =
          goes_on (number_below 1 count s at) _ r e d u _ g
          (goes_on (number_in 1 1 255 s u) _ r' e' w v _ g'
          (passes_on (number_in 4 (min 1 rows) (min rows (get_or sizes d 0)) s v) _ r'' e'' x g''))

      pub column_is : (k q : ℕ) → r'' ≡ Ok (k, q)
          → Ok (record { domain = d; width = w; distinct = k }, q) ≡ read_of (column_at count sizes rows s at)
      unfolding column_at read_of
      column_is k q g'' =
          goes_on (number_below 1 count s at) _ r e d u _ g
          (goes_on (number_in 1 1 255 s u) _ r' e' w v _ g'
          (goes_on (number_in 4 (min 1 rows) (min rows (get_or sizes d 0)) s v) _ r'' e'' k q _ g'' refl))

-- ---- the columns of a relation

module _ (count : ℕ) (sizes : List ℕ) (rows : ℕ) (s : List ℕ) (site k at : ℕ) (z : Column) (f : z ≡ no_column)
    (r : Result (List Column × ℕ) Refusal) (e : r ≡ read_of (arrayed 8 z (many (column_at count sizes rows s) k at))) where
  abbrev with_columns : List Column → ℕ → Outcome Relation
  with_columns l p = good (record { site = site; column_count = k; rows = rows; columns = l }) p

  columns_by : (o : Outcome (List Column)) → next (arrayed 8 z o) with_columns ≡ next o (λ l p. good (relation_with site k rows l) p)
  columns_by (good l p) = rw f refl
  columns_by (bad n p) = refl

  pub columns_bad : (x : Refusal) → r ≡ Err x → Err x ≡ read_of (columns_then count sizes s site k rows at)
  unfolding columns_then
  columns_bad x g = passes_on _ with_columns r e x g ∙ ap read_of (columns_by (many (column_at count sizes rows s) k at))

  pub columns_are : (l : List Column) (p : ℕ) → r ≡ Ok (l, p)
      → Ok (record { site = site; column_count = k; rows = rows; columns = l }, p) ≡ read_of (columns_then count sizes s site k rows at)
  unfolding columns_then read_of
  columns_are l p g = goes_on _ with_columns r e l p _ g refl ∙ ap read_of (columns_by (many (column_at count sizes rows s) k at))

-- ---- a relation

module _ (count : ℕ) (sizes s : List ℕ) (at : ℕ) (r : Result (ℕ × ℕ) Refusal) (e : r ≡ read_of (number_in 1 0 7 s at)) where
  pub relation_no_site : (x : Refusal) → r ≡ Err x → Err x ≡ read_of (relation_at count sizes s at)
  unfolding relation_at
  relation_no_site x g = passes_on (number_in 1 0 7 s at) _ r e x g

  module _ (site u : ℕ) (g : r ≡ Ok (site, u)) (r' : Result (ℕ × ℕ) Refusal) (e' : r' ≡ read_of (number_in 1 1 8 s u)) where
    pub relation_no_count : (x : Refusal) → r' ≡ Err x → Err x ≡ read_of (relation_at count sizes s at)
    unfolding relation_at
    relation_no_count x g' = goes_on (number_in 1 0 7 s at) _ r e site u _ g (passes_on (number_in 1 1 8 s u) _ r' e' x g')

    module _ (k v : ℕ) (g' : r' ≡ Ok (k, v)) (r'' : Result (ℕ × ℕ) Refusal) (e'' : r'' ≡ read_of (number_in 4 0 1000000 s v)) where
      pub relation_no_rows : (x : Refusal) → r'' ≡ Err x → Err x ≡ read_of (relation_at count sizes s at)
      unfolding relation_at
      relation_no_rows x g'' =
          goes_on (number_in 1 0 7 s at) _ r e site u _ g
          (goes_on (number_in 1 1 8 s u) _ r' e' k v _ g' (passes_on (number_in 4 0 1000000 s v) _ r'' e'' x g''))

      pub relation_is : (rows q : ℕ) (t : Result (Relation × ℕ) Refusal) → r'' ≡ Ok (rows, q)
          → t ≡ read_of (columns_then count sizes s site k rows q) → t ≡ read_of (relation_at count sizes s at)
      unfolding relation_at
      relation_is rows q t g'' h =
          goes_on (number_in 1 0 7 s at) _ r e site u t g
          (goes_on (number_in 1 1 8 s u) _ r' e' k v t g' (goes_on (number_in 4 0 1000000 s v) _ r'' e'' rows q t g'' h))

-- ---- the bytes of a relation

pub relation_put : (x : Relation) (o c d : List ℕ) (at u r : ℕ) (l : List Column) → l ≡ take x.column_count x.columns → length x.columns ≡ 8
    → Puts o at 6 (bytes_of 1 x.site ++ bytes_of 1 x.column_count ++ bytes_of 4 x.rows) u c → Puts c u (6 * length l) (each column_bytes l) r d
    → Puts o at 54 (relation_bytes x) r d
unfolding relation_bytes columns_of
relation_put x o c d at u r l e long front columns =
    let few : length (take x.column_count x.columns) ≤ 8 = omega (arith, length-take x.column_count x.columns) in
    let same : Puts c u (6 * length (take x.column_count x.columns)) (each column_bytes (take x.column_count x.columns)) r d = rw e at columns in
    wider_part _ _ _ _ _ _ (then_part _ _ _ _ 6 _ front _ _ _ _ same) 54 (omega arith)
