-- Columns and relations are read exactly as they are written: a relation comes with zeros in the places not in use.
use mathlib.Core.Path.{◌≡◌, refl, sym, ap, ◌∙◌}
use mathlib.Core.List.{List, append_assoc, append-nil}
use Prim.Native.Nat.{ℕ, zero, suc, ◌≤◌, min}
use native.Mathlib.Omega.{arith}
use lib.ListN.{length, get_or}
use lib.Seq.{take_at}
use Rattle.ground.specs.Lists.{padded}
use Rattle.ground.proofs.CollectingLaws.{padded_inside}
use Rattle.fields.specs.Exact.{Exact}
use Rattle.fields.proofs.ExactReading.{chained, done, restated, numbered_exact}
use Rattle.fields.proofs.ExactNumbers.{below_exact, in_exact}
use Rattle.entries.specs.Relations.{columns_of, column_at, column_bytes, relation_with, columns_then, relation_at, relation_bytes}
use Rattle.envelopes.specs.Rules.{ColumnWithin, RelationWithin, tidy_relation}
use Rattle.entries.specs.declared.relations.Column.{Column}
use Rattle.entries.specs.declared.relations.Relation.{Relation}

-- "0 exactly when rows are 0" is a lower limit
lower : (rows distinct : ℕ) → (distinct ≡ 0 → rows ≡ 0) → min 1 rows ≤ distinct
lower rows zero h = omega (arith, h refl)
lower rows (suc n) h = omega arith

pub columns_of_with : (site k rows : ℕ) (columns : List Column) → length columns ≡ k → columns_of (relation_with site k rows columns) ≡ columns
unfolding columns_of padded
columns_of_with site k rows columns h = take_at columns _ k h

module _ (size : ℕ) (sizes : List ℕ) (small : length sizes ≤ 256) (s : List ℕ) where
  pub column_exact : (rows : ℕ) → rows ≤ 1000000 → (at : ℕ)
      → Exact s at (column_at (length sizes) (padded size 0 sizes) rows s at) column_bytes (ColumnWithin sizes rows)
  unfolding column_at column_bytes
  column_exact rows few at =
      restated s at (λ c _ _. simp (append_assoc, append-nil))
      (λ c _ h.
      let in-range : get_or (padded size 0 sizes) c.domain 0 ≡ get_or sizes c.domain 0 = padded_inside size 0 sizes c.domain 0 h.0 in
      record {
        domain = h.0;
        width = h.1.0;
        few = omega (arith, h.1.1.0.1);
        inside = omega (arith, h.1.1.0.1, in-range);
        zero = λ e. omega (arith, h.1.1.0.0);
      })
      (λ c _ h.
      let in-range : get_or (padded size 0 sizes) c.domain 0 ≡ get_or sizes c.domain 0 = padded_inside size 0 sizes c.domain 0 h.domain in
      (h.domain, (h.width, ((lower rows c.distinct h.zero, omega (arith, h.few, h.inside, in-range)), refl))))
      (chained s at (λ c. c.domain) (below_exact 1 s at (length sizes) small)
      (λ d p _. chained s p (λ c. c.width) (in_exact 1 s p 1 255 (omega arith))
      (λ w q _. chained s q (λ c. c.distinct) (in_exact 4 s q (min 1 rows) (min rows (get_or (padded size 0 sizes) d 0)) (omega arith))
      (λ n u _. done s u (record { domain = d; width = w; distinct = n }))
      (λ n c q _ e. ap (λ (x : Column). x.distinct) e))
      (λ w c q _ h. ap (λ (x : Column). x.width) h.1))
      (λ d c q _ h. ap (λ (x : Column). x.domain) h.1.1))

  pub relation_exact : (at : ℕ)
      → Exact s at (relation_at (length sizes) (padded size 0 sizes) s at) relation_bytes (λ r. RelationWithin sizes r × (tidy_relation r ≡ r))
  unfolding relation_at columns_then relation_bytes tidy_relation
  relation_exact at =
      restated s at (λ r _ _. simp (append_assoc, append-nil))
      (λ r _ h. (
        record {
          site = h.0.1;
          count = h.1.0;
          rows = h.1.1.0.1;
          columns = h.1.1.1.0.0;
          whole = h.1.1.1.0.1;
        },
        sym h.1.1.1.1,
      ))
      (λ r _ h. ((omega arith, h.0.site), (h.0.count, ((omega arith, h.0.rows), ((h.0.columns, h.0.whole), sym h.1)))))
      (chained s at (λ r. r.site) (in_exact 1 s at 0 7 (omega arith))
      (λ site p _. chained s p (λ r. r.column_count) (in_exact 1 s p 1 8 (omega arith))
      (λ k q _. chained s q (λ r. r.rows) (in_exact 4 s q 0 1000000 (omega arith))
      (λ rows u few. chained s u columns_of
      (numbered_exact s (λ _. column_at (length sizes) (padded size 0 sizes) rows s) column_bytes (ColumnWithin sizes rows)
      (λ _. column_exact rows few.1) 0 k u)
      (λ columns z _. done s z (relation_with site k rows columns))
      (λ columns r q fine e. ap columns_of e ∙ columns_of_with site k rows columns fine.1))
      (λ rows r q _ h. ap (λ (x : Relation). x.rows) h.1))
      (λ k r q _ h. ap (λ (x : Relation). x.column_count) h.1.1))
      (λ site r q _ h. ap (λ (x : Relation). x.site) h.1.1.1))
