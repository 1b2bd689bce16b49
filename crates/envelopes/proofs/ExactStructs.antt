-- What the bytes of a struct tell: as its numbers fit their bytes and its arrays have their sizes, the bytes tell what is
-- in use.
use mathlib.Core.Path.{◌≡◌, sym, ap, ap₂, ◌∙◌}
use mathlib.Core.List.{List, ◌++◌, append_assoc}
use Prim.Native.Nat.{ℕ, ◌≤◌}
use native.Mathlib.Omega.{arith}
use lib.ListN.{length}
use lib.Seq.{length-take-le}
use Rattle.ground.specs.Lists.{each}
use Rattle.ground.specs.Bytes.{bytes_of}
use Rattle.ground.proofs.EveryLaws.{every_map, every_take}
use Rattle.ground.proofs.ByteLaws.{Tells, number_tells, all_tell}
use Rattle.entries.specs.Relations.{columns_of, column_bytes, relation_with, relation_bytes}
use Rattle.entries.specs.Places.{place, place_bytes}
use Rattle.entries.specs.Clauses.{clause, kind_bytes, clause_bytes}
use Rattle.envelopes.specs.Rules.{ColumnWithin, RelationWithin, PlaceWithin, KindWithin, tidy_relation}
use Rattle.envelopes.specs.Fits.{PlaceFits, ColumnFits, RelationFits, KindFits, ClauseFits}
use Rattle.entries.specs.declared.places.Place.{Place}
use Rattle.entries.specs.declared.relations.Column.{Column}
use Rattle.entries.specs.declared.relations.Relation.{Relation}
use Rattle.entries.specs.declared.clauses.ClauseKind.{ClauseKind}
use Rattle.entries.specs.declared.clauses.ClauseKind.TheVariants.{Selection, Join}

pub place_tells : Tells place_bytes PlaceFits PlaceFits (λ a. a)
unfolding place_bytes
place_tells a b x y h k e =
    let (r, e₁) = number_tells 1 a.relation b.relation (bytes_of 1 a.column ++ x) (bytes_of 1 b.column ++ y) h.relation k.relation
    (simp append_assoc at e) in
    let (c, e₂) = number_tells 1 a.column b.column x y h.column k.column e₁ in
    (ap₂ place r c, e₂)

column_tells : Tells column_bytes ColumnFits ColumnFits (λ c. c)
unfolding column_bytes
column_tells a b x y h k e =
    let (d, e₁) = number_tells 1 a.domain b.domain (bytes_of 1 a.width ++ (bytes_of 4 a.distinct ++ x))
    (bytes_of 1 b.width ++ (bytes_of 4 b.distinct ++ y)) h.domain k.domain (simp append_assoc at e) in
    let (w, e₂) = number_tells 1 a.width b.width (bytes_of 4 a.distinct ++ x) (bytes_of 4 b.distinct ++ y) h.width k.width e₁ in
    let (n, e₃) = number_tells 4 a.distinct b.distinct x y h.distinct k.distinct e₂ in
    (λ i. record { domain = d i; width = w i; distinct = n i }, e₃)

kind_tells : (j k : ClauseKind) (x y : List ℕ) → KindFits j → KindFits k → kind_bytes j ++ x ≡ kind_bytes k ++ y → (j ≡ k) × (x ≡ y)
unfolding kind_bytes
kind_tells (Selection a v) (Selection b u) x y h k e =
    let (_, e₁) = number_tells 1 1 1 (place_bytes a ++ (bytes_of 4 v ++ x)) (place_bytes b ++ (bytes_of 4 u ++ y)) (omega arith) (omega arith)
    (simp append_assoc at e) in
    let (p, e₂) = place_tells a b (bytes_of 4 v ++ x) (bytes_of 4 u ++ y) h.0 k.0 e₁ in
    let (n, e₃) = number_tells 4 v u x y h.1 k.1 e₂ in
    (ap₂ Selection p n, e₃)
kind_tells (Selection a v) (Join b c) x y h k e =
    let (no_way, _) = number_tells 1 1 2 (place_bytes a ++ (bytes_of 4 v ++ x)) (place_bytes b ++ (place_bytes c ++ y)) (omega arith) (omega arith)
    (simp append_assoc at e) in
    absurd (omega arith)
kind_tells (Join a d) (Selection b u) x y h k e =
    let (no_way, _) = number_tells 1 2 1 (place_bytes a ++ (place_bytes d ++ x)) (place_bytes b ++ (bytes_of 4 u ++ y)) (omega arith) (omega arith)
    (simp append_assoc at e) in
    absurd (omega arith)
kind_tells (Join a d) (Join b c) x y h k e =
    let (_, e₁) = number_tells 1 2 2 (place_bytes a ++ (place_bytes d ++ x)) (place_bytes b ++ (place_bytes c ++ y)) (omega arith) (omega arith)
    (simp append_assoc at e) in
    let (p, e₂) = place_tells a b (place_bytes d ++ x) (place_bytes c ++ y) h.0 k.0 e₁ in
    let (q, e₃) = place_tells d c x y h.1 k.1 e₂ in
    (ap₂ Join p q, e₃)

pub clause_tells : Tells clause_bytes ClauseFits ClauseFits (λ c. c)
clause_tells a b x y h k e =
    let (same, behind) = kind_tells a.kind b.kind x y h k e in
    (ap clause same, behind)

-- what is within fits
column_within : (sizes : List ℕ) (rows : ℕ) → length sizes ≤ 16 → rows ≤ 1000000 → (c : Column) → ColumnWithin sizes rows c → ColumnFits c
column_within sizes rows short few c h = record { domain = omega (arith, h.domain); width = omega (arith, h.width); distinct = omega (arith, h.few) }

pub place_within : (relations : List Relation) → length relations ≤ 8 → (a : Place) → PlaceWithin relations a → PlaceFits a
place_within relations short a h = record { relation = omega (arith, h.relation); column = omega (arith, h.column) }

pub kind_within : (relations : List Relation) → length relations ≤ 8 → (k : ClauseKind) → KindWithin relations k → KindFits k
kind_within relations short (Selection a v) h = (place_within relations short a h.0, h.1)
kind_within relations short (Join a b) h = (place_within relations short a h.0, place_within relations short b h.1)

pub relation_tells : (sizes : List ℕ) → length sizes ≤ 16 → Tells relation_bytes RelationFits (RelationWithin sizes) tidy_relation
unfolding relation_bytes tidy_relation columns_of
relation_tells sizes short a b x y h k e =
    let (s, e₁) = number_tells 1 a.site b.site (bytes_of 1 a.column_count ++ (bytes_of 4 a.rows ++ (each column_bytes (columns_of a) ++ x)))
    (bytes_of 1 b.column_count ++ (bytes_of 4 b.rows ++ (each column_bytes (columns_of b) ++ y))) h.site (omega (arith, k.site)) (simp append_assoc at e) in
    let (n, e₂) = number_tells 1 a.column_count b.column_count (bytes_of 4 a.rows ++ (each column_bytes (columns_of a) ++ x))
    (bytes_of 4 b.rows ++ (each column_bytes (columns_of b) ++ y)) h.count (omega (arith, k.count)) e₁ in
    let (r, e₃) = number_tells 4 a.rows b.rows (each column_bytes (columns_of a) ++ x) (each column_bytes (columns_of b) ++ y) h.rows
    (omega (arith, k.rows)) e₂ in
    let few : a.column_count ≤ 8 = omega (arith, k.count) in
    let long : length (columns_of a) ≡ length (columns_of b) = length-take-le a.column_count a.columns (omega (arith, h.long)) ∙ n ∙ sym k.whole in
    let (l, e₄) = all_tell column_bytes ColumnFits ColumnFits column_tells (columns_of a) (columns_of b) long x y
    (every_take ColumnFits a.column_count a.columns h.columns)
    (every_map (ColumnWithin sizes b.rows) ColumnFits (columns_of b) (column_within sizes b.rows short k.rows) k.columns) e₃ in
    (λ i. relation_with (s i) (n i) (r i) (l i), e₄)
