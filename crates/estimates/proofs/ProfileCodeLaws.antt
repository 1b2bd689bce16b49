-- The laws that the code of profiles goes by: what each return answers, and what holds at the heads of its loops.
use mathlib.Core.Path.{◌≡◌, sym, ap, ◌∙◌}
use mathlib.Core.List.{List, map}
use Prim.Native.Nat.{ℕ, ◌/◌, ◌%◌, ◌≤◌, ◌<◌}
use native.Mathlib.Omega.{arith}
use borrow.Author.Tests.{eq-eqb, ne_eqb}
use lib.Dec.{eqb}
use lib.ListN.{get_or, set}
use Rattle.ground.specs.Tests.{pick}
use Rattle.ground.specs.Lists.{below}
use Rattle.ground.proofs.ListLaws.{get_d_map, map_alike}
use Rattle.ground.proofs.NumbersLaws.{below_length, below_get_d, below_from}
use Rattle.entries.specs.Relations.{past_relation}
use Rattle.entries.specs.Places.{place}
use Rattle.contents.specs.Parts.{relation_in}
use Rattle.entries.specs.declared.places.Place.{Place}
use Rattle.entries.specs.declared.relations.Column.{Column}
use Rattle.entries.specs.declared.relations.Relation.{Relation}
use Rattle.contents.specs.declared.envelope.Envelope.{Envelope}
use Rattle.contents.proofs.PartLaws.{relation_inside, relation_outside}
use Rattle.estimates.specs.Short.{Y}
use Rattle.estimates.specs.Columns.{column_of, width_of}
use Rattle.estimates.specs.Profile.{estimated_rows, given, shrunk}
use Rattle.estimates.specs.declared.profiles.Profile.{Profile}

-- ---- the envelope's own estimates

abbrev pub rows_in : Envelope → ℕ → ℕ
rows_in e r = (relation_in e r).rows

abbrev pub count_in : Envelope → ℕ → ℕ
count_in e k = (column_of e (place (k / 8) (k % 8))).distinct

module _ (e : Envelope) where
  pub given_whole : (rows counts widths : List ℕ) → rows ≡ map (rows_in e) (below 8) → counts ≡ map (count_in e) (below 64)
      → widths ≡ map (width_of e) (below 8) → ◌≡◌ {A = Profile} (record { rows = rows; counts = counts; widths = widths }) (given e)
  unfolding given
  given_whole rows counts widths f g h = rw (f, g, h)

  -- a column's number is what the cast gives
  pub count_at : (k : ℕ) (c : Column) (x : Place) → c ≡ column_of e x → x ≡ place (k / 8) (k % 8) → c.distinct ≡ count_in e k
  count_at k c x g h = ap (λ (y : Column). y.distinct) (g ∙ ap (column_of e) h)

-- ---- a profile

-- what a count becomes
abbrev pub count_left : Profile → Place → ℕ → ℕ → ℕ → ℕ
count_left p a n count k =
    pick (eqb (k / 8) a.relation)
    (pick (eqb (k % 8) a.column) count (Y (get_or p.counts k 0) (estimated_rows p a.relation) n))
    (get_or p.counts k 0)

module _ (p : Profile) (a : Place) (n count : ℕ) where
  module _ (k : ℕ) (h : k < 64) where
    left_is :
        pick (eqb (k / 8) a.relation)
        (pick (eqb (k % 8) a.column) count (Y (get_or p.counts k 0) (estimated_rows p a.relation) n))
        (get_or p.counts k 0)
        ≡ get_or (shrunk p a n count).counts k 0
    unfolding shrunk
    left_is =
        sym (get_d_map (count_left p a n count) (below 64) k 0 0 (omega (arith, below_length 64)) ∙ ap (count_left p a n count) (below_get_d 64 k 0 h))

    pub left_other : (k / 8 ≡ a.relation → ⊥) → get_or p.counts k 0 ≡ get_or (shrunk p a n count).counts k 0
    left_other d = rw (ne_eqb (k / 8) a.relation d) at left_is

    pub left_same : k / 8 ≡ a.relation → k % 8 ≡ a.column → count ≡ get_or (shrunk p a n count).counts k 0
    left_same e f = rw (eq-eqb (k / 8) a.relation e, eq-eqb (k % 8) a.column f) at left_is

    pub left_short : k / 8 ≡ a.relation → (k % 8 ≡ a.column → ⊥) → (m y : ℕ) → m ≡ estimated_rows p a.relation
        → y ≡ Y (get_or p.counts k 0) m n → y ≡ get_or (shrunk p a n count).counts k 0
    left_short e f m y g w =
        w ∙ ap (λ (x : ℕ). Y (get_or p.counts k 0) x n) g
        ∙ (rw (eq-eqb (k / 8) a.relation e, ne_eqb (k % 8) a.column f) at left_is)

  abbrev pub left_at : ℕ → ℕ
  left_at k = get_or (shrunk p a n count).counts k 0

  counts_whole : map left_at (below 64) ≡ (shrunk p a n count).counts
  unfolding shrunk
  counts_whole =
      map_alike left_at (count_left p a n count) (below 64) (λ k m. sym (left_is k (below_from 64 m)))

  pub shrunk_whole : (counts rows : List ℕ) → counts ≡ map left_at (below 64) → rows ≡ set p.rows a.relation n
      → ◌≡◌ {A = Profile} (record { rows = rows; counts = counts; widths = p.widths }) (shrunk p a n count)
  unfolding shrunk
  shrunk_whole counts rows f g = rw (g, f ∙ counts_whole)
