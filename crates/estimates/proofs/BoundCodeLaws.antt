-- The numbers of a profile of an envelope that was taken have a bound in every place of the arrays, also in those that no
-- column has: such an envelope holds zeros there.
use mathlib.Core.Path.{◌≡◌, sym, ap, ◌∙◌, subst}
use Prim.Native.Nat.{◌-◌, ◌/◌, ◌%◌, ◌≤◌, zero-le}
use native.Mathlib.Nat.{le_trans}
use native.Mathlib.Omega.{arith}
use lib.ListN.{length, replicate}
use Rattle.ground.specs.Lists.{Every, below, padded}
use Rattle.ground.proofs.EveryLaws.{every_map, every_both, every_append, every_replicate, every_mapped, every_of, fixed_map}
use Rattle.entries.specs.Relations.{no_column, past_relation, columns_of}
use Rattle.contents.specs.Parts.{sizes_of, relations_of, relation_in}
use Rattle.envelopes.specs.Rules.{ColumnWithin, RelationWithin, Within, tidy_relation, tidy}
use Rattle.entries.specs.declared.places.Place.{Place}
use Rattle.entries.specs.declared.relations.Column.{Column}
use Rattle.entries.specs.declared.relations.Relation.{Relation}
use Rattle.contents.specs.declared.envelope.Envelope.{Envelope}
use Rattle.envelopes.proofs.TidyLaws.{tidy_relations}
use Rattle.estimates.specs.Columns.{column_of}
use Rattle.estimates.specs.Profile.{given}
use Rattle.estimates.specs.Ready.{Low, Ready, Bounded}
use Rattle.estimates.specs.declared.profiles.Profile.{Profile}
use Rattle.estimates.specs.declared.costs.Costs.{Costs}
use Rattle.estimates.proofs.ProfileLaws.{Inside, get_d_every, rows_most}
use Rattle.estimates.proofs.CostLaws.{widths_most}

abbrev Few : Column → Type 0
Few c = c.distinct ≤ 1000000

module _ (e : Envelope) (w : Within e) (t : tidy e ≡ e) where
  columns_few : (r : Relation) → RelationWithin (sizes_of e) r → tidy_relation r ≡ r → Every Few r.columns
  unfolding tidy_relation padded
  columns_few r h g =
      subst (λ (x : Relation). Every Few x.columns) g
      (every_append Few (columns_of r) (replicate (8 - length (columns_of r)) no_column)
      (every_map (ColumnWithin (sizes_of e) r.rows) Few (columns_of r) (λ c k. omega (arith, k.few, h.rows)) h.columns)
      (every_replicate Few (8 - length (columns_of r)) no_column zero-le))

  relations_few : Every (λ (r : Relation). Every Few r.columns) (relations_of e)
  relations_few =
      every_map (λ (r : Relation). RelationWithin (sizes_of e) r × (tidy_relation r ≡ r)) (λ (r : Relation). Every Few r.columns) (relations_of e)
      (λ r k. columns_few r k.0 k.1)
      (every_both (RelationWithin (sizes_of e)) (λ (r : Relation). tidy_relation r ≡ r) (relations_of e) w.each
      (fixed_map tidy_relation (relations_of e) (sym (tidy_relations e) ∙ ap relations_of t)))

  distinct_most : (a : Place) → (column_of e a).distinct ≤ 1000000
  unfolding column_of
  distinct_most a =
      get_d_every Few no_column zero-le (relation_in e a.relation).columns
      (get_d_every (λ (r : Relation). Every Few r.columns) past_relation tt (relations_of e) relations_few a.relation) a.column

  pub counts_most : (p : Profile) → Inside e p → Low p.counts
  unfolding given
  counts_most p h i =
      le_trans (h.counts i)
      (get_d_every (λ n. n ≤ 1000000) 0 zero-le (given e).counts
      (every_mapped (λ n. n ≤ 1000000) (λ j. (column_of e (record { relation = j / 8; column = j % 8 })).distinct) (below 64)
      (every_of _ (below 64) (λ j _. distinct_most _))) i)

pub inside_bounded : (k : Costs) (e : Envelope) (local : Profile) → Ready k e local → (p : Profile) → Inside e p → Bounded k p
inside_bounded k e local ready p i =
    record {
      prices = ready.cheap;
      rows = rows_most e ready.within p i;
      counts = counts_most e ready.within ready.tidied p i;
      widths = widths_most e ready.within p i;
    }
