-- An envelope with zeros in the places not in use has the same parts in use, the same sites and kept columns, keeps the
-- same rules and has the same bytes.
use mathlib.Core.Path.{◌≡◌, refl, sym, ap, ◌∙◌}
use mathlib.Core.Bool.{false}
use mathlib.Core.List.{List, [], ◌∷◌, map, map-map}
use Prim.Native.Nat.{ℕ, zero, suc, ◌<◌, min}
use native.Mathlib.Omega.{arith}
use lib.ListN.{length, get_or, length-map}
use lib.Seq.{get_or-take}
use Rattle.ground.specs.Lists.{Every, empty, below}
use Rattle.ground.proofs.ListLaws.{any_alike, get_d_map, map_alike, each_map, each_alike}
use Rattle.ground.proofs.EveryLaws.{every_map, every_mapped, every_at, every_get_d}
use Rattle.ground.proofs.CollectingLaws.{padded_take, padded_inside}
use Rattle.entries.specs.Relations.{no_column, no_relation, past_relation, column_count, columns_of, relation_bytes}
use Rattle.entries.specs.Places.{no_place}
use Rattle.entries.specs.Clauses.{no_clause, domain_of}
use Rattle.contents.specs.Parts.{sizes_of, relations_of, clauses_of, targets_of, relation_count, columns_in, no_envelope, with_version, with_sizes, with_relations, with_clauses, with_targets}
use Rattle.contents.specs.Sites.{site_of, is_at, holds}
use Rattle.contents.specs.Kept.{kept, kept_columns}
use Rattle.envelopes.specs.Envelope.{envelope_bytes}
use Rattle.envelopes.specs.Rules.{RelationWithin, PlaceWithin, KindWithin, ClauseWithin, Within, tidy_relation, tidy}
use Rattle.entries.specs.declared.places.Place.{Place}
use Rattle.entries.specs.declared.relations.Column.{Column}
use Rattle.entries.specs.declared.relations.Relation.{Relation}
use Rattle.entries.specs.declared.clauses.Clause.{Clause}
use Rattle.entries.specs.declared.clauses.ClauseKind.{ClauseKind}
use Rattle.entries.specs.declared.clauses.ClauseKind.TheVariants.{Selection, Join}
use Rattle.contents.specs.declared.envelope.Envelope.{Envelope}
use Rattle.contents.proofs.PartLaws.{relation_inside}
use Rattle.envelopes.proofs.ExactRelations.{columns_of_with}
use Rattle.envelopes.proofs.ExactClauses.{domain_padded}

-- ---- one relation

module _ (sizes : List ℕ) (r : Relation) (within : RelationWithin sizes r) where
  tidy_columns : columns_of (tidy_relation r) ≡ columns_of r
  unfolding tidy_relation
  tidy_columns = columns_of_with r.site r.column_count r.rows (columns_of r) within.whole

  tidy_relation_bytes : relation_bytes (tidy_relation r) ≡ relation_bytes r
  unfolding relation_bytes tidy_relation
  tidy_relation_bytes = rw tidy_columns

  tidy_relation_within : RelationWithin sizes (tidy_relation r)
  unfolding tidy_relation
  tidy_relation_within =
      record {
        site = within.site;
        count = within.count;
        rows = within.rows;
        columns = rw tidy_columns within.columns;
        whole = ap length tidy_columns ∙ within.whole;
      }

  tidy_again : tidy_relation (tidy_relation r) ≡ tidy_relation r
  unfolding tidy_relation
  tidy_again = rw tidy_columns

  tidy_column : (c : ℕ) → c < column_count r → get_or (tidy_relation r).columns c no_column ≡ get_or r.columns c no_column
  unfolding tidy_relation columns_of
  tidy_column c h =
      let in_use : c < length (columns_of r) = omega (arith, within.whole) in
      let in_count : c < r.column_count = omega arith in
      padded_inside 8 no_column (columns_of r) c no_column in_use ∙ get_or-take r.column_count r.columns c no_column in_count

-- ---- what names columns of relations

-- what tidying leaves as it is in each relation, it leaves at each place
tidy_same : {B : Type 0} (view : Relation → B) → ((r : Relation) → view (tidy_relation r) ≡ view r) → (relations : List Relation) (i : ℕ)
    → view (get_or (map tidy_relation relations) i past_relation) ≡ view (get_or relations i past_relation)
tidy_same view same [] i = refl
tidy_same view same (r ∷ relations) zero = same r
tidy_same view same (r ∷ relations) (suc i) = tidy_same view same relations i

pub tidy_count : (relations : List Relation) (i : ℕ)
    → column_count (get_or (map tidy_relation relations) i past_relation) ≡ column_count (get_or relations i past_relation)
unfolding tidy_relation
tidy_count = tidy_same column_count (λ r. refl)

tidy_place : (relations : List Relation) (a : Place) → PlaceWithin relations a → PlaceWithin (map tidy_relation relations) a
tidy_place relations a h =
    record {
      relation = simp length-map h.relation;
      column = rw (tidy_count relations a.relation) h.column;
    }

module _ (sizes : List ℕ) (relations : List Relation) (within : Every (RelationWithin sizes) relations) where
  pub tidy_domain : (a : Place) → PlaceWithin relations a → domain_of (map tidy_relation relations) a ≡ domain_of relations a
  unfolding domain_of
  tidy_domain a h =
      let r : Relation = get_or relations a.relation past_relation in
      let there : get_or (map tidy_relation relations) a.relation past_relation ≡ tidy_relation r =
      get_d_map tidy_relation relations a.relation past_relation past_relation h.relation in
      let good : RelationWithin sizes r = every_get_d (RelationWithin sizes) relations a.relation past_relation h.relation within in
      ap (λ (x : Relation). (get_or x.columns a.column no_column).domain) there
      ∙ ap (λ (c : Column). c.domain) (tidy_column sizes r good a.column h.column)

  tidy_kind : (k : ClauseKind) → KindWithin relations k → KindWithin (map tidy_relation relations) k
  tidy_kind (Selection a v) h = (tidy_place relations a h.0, h.1)
  tidy_kind (Join a b) h =
      (tidy_place relations a h.0, tidy_place relations b h.1, tidy_domain a h.0 ∙ h.2 ∙ sym (tidy_domain b h.1), h.3)

-- ---- the envelope's parts

-- an envelope of its parts
abbrev pub made : ℕ → List ℕ → List Relation → List Clause → List Place → Envelope
made version sizes relations clauses targets =
    with_targets targets (with_clauses clauses (with_relations relations (with_sizes sizes (with_version version no_envelope))))

pub tidy_is : (e : Envelope) → tidy e ≡ made e.version (sizes_of e) (map tidy_relation (relations_of e)) (clauses_of e) (targets_of e)
unfolding tidy
tidy_is e = refl

pub tidy_version : (e : Envelope) → (tidy e).version ≡ e.version
unfolding tidy with_targets with_clauses with_relations with_sizes with_version
tidy_version e = refl

pub tidy_sizes : (e : Envelope) → sizes_of (tidy e) ≡ sizes_of e
unfolding tidy with_targets with_clauses with_relations with_sizes with_version sizes_of
tidy_sizes e = padded_take 16 0 (sizes_of e)

pub tidy_relations : (e : Envelope) → relations_of (tidy e) ≡ map tidy_relation (relations_of e)
unfolding tidy with_targets with_clauses with_relations relations_of
tidy_relations e = padded_take 8 no_relation (map tidy_relation (relations_of e))

pub tidy_clauses : (e : Envelope) → clauses_of (tidy e) ≡ clauses_of e
unfolding tidy with_targets with_clauses clauses_of
tidy_clauses e = padded_take 12 no_clause (clauses_of e)

pub tidy_targets : (e : Envelope) → targets_of (tidy e) ≡ targets_of e
unfolding tidy with_targets targets_of
tidy_targets e = padded_take 16 no_place (targets_of e)

pub tidy_columns_in : (e : Envelope) (r : ℕ) → columns_in (tidy e) r ≡ columns_in e r
unfolding columns_in
tidy_columns_in e r = rw (tidy_relations e) (tidy_count (relations_of e) r)

pub tidy_site : (e : Envelope) (r : ℕ) → site_of (tidy e) r ≡ site_of e r
unfolding site_of tidy_relation
tidy_site e r =
    ap (λ (l : List Relation). (get_or l r past_relation).site) (tidy_relations e)
    ∙ tidy_same (λ (x : Relation). x.site) (λ x. refl) (relations_of e) r

pub tidy_kept_columns : (e : Envelope) (r : ℕ) → kept_columns (tidy e) r ≡ kept_columns e r
unfolding kept_columns kept
tidy_kept_columns e r = rw (tidy_columns_in e r, tidy_clauses e, tidy_targets e)

module _ (e : Envelope) (within : Within e) where
  -- the counts are those of what is in use
  tidy_counts : ((tidy e).domain_count ≡ e.domain_count) × ((tidy e).relation_count ≡ e.relation_count)
      × ((tidy e).clause_count ≡ e.clause_count) × ((tidy e).target_count ≡ e.target_count)
  unfolding tidy with_targets with_clauses with_relations with_sizes with_version
  tidy_counts = (within.whole_sizes, simp length-map within.whole_relations, within.whole_clauses, within.whole_targets)

  pub tidy_relation_count : relation_count (tidy e) ≡ relation_count e
  tidy_relation_count = ap (min 8) tidy_counts.1

  pub tidy_holds : (site : ℕ) → holds (tidy e) site ≡ holds e site
  unfolding holds is_at
  tidy_holds site =
      rw tidy_relation_count
      (any_alike (is_at (tidy e) site) (is_at e site) (below (relation_count e)) (λ r _. rw (tidy_relation_count, tidy_site e r)))

  -- the domain of a column of the envelope, as it stands in the array
  pub tidy_domain_of : (a : Place) → PlaceWithin (relations_of e) a → domain_of (tidy e).relations a ≡ domain_of e.relations a
  unfolding tidy with_targets with_clauses with_relations domain_of
  tidy_domain_of a h =
      domain_padded 8 (map tidy_relation (relations_of e)) a (tidy_place (relations_of e) a h)
      ∙ tidy_domain (sizes_of e) (relations_of e) within.each a h
      ∙ ap (λ (r : Relation). (get_or r.columns a.column no_column).domain)
      (relation_inside e a.relation (omega (arith, h.relation, within.whole_relations)))

  pub tidy_bytes : envelope_bytes (tidy e) ≡ envelope_bytes e
  unfolding envelope_bytes
  tidy_bytes =
      rw (
        tidy_sizes e,
        tidy_relations e,
        tidy_clauses e,
        tidy_targets e,
        tidy_version e,
        tidy_counts.0,
        tidy_counts.1,
        tidy_counts.2,
        tidy_counts.3,
        each_map tidy_relation relation_bytes (relations_of e),
        each_alike (λ (r : Relation). relation_bytes (tidy_relation r)) relation_bytes (relations_of e)
            (λ r m. tidy_relation_bytes (sizes_of e) r (every_at (RelationWithin (sizes_of e)) (relations_of e) within.each m)),
      )

  pub tidy_within : Within (tidy e)
  tidy_within =
      record {
        version = tidy_version e ∙ within.version;
        domains = rw tidy_counts.0 within.domains;
        sizes = rw (tidy_sizes e) within.sizes;
        relations = rw tidy_counts.1 within.relations;
        each =
            rw (tidy_sizes e, tidy_relations e)
            (every_mapped (RelationWithin (sizes_of e)) tidy_relation (relations_of e)
            (every_map (RelationWithin (sizes_of e)) (λ (r : Relation). RelationWithin (sizes_of e) (tidy_relation r)) (relations_of e) (tidy_relation_within (sizes_of e)) within.each));
        clauses = rw tidy_counts.2 within.clauses;
        rules =
            rw (tidy_relations e, tidy_clauses e)
            (every_map (ClauseWithin (relations_of e)) (ClauseWithin (map tidy_relation (relations_of e))) (clauses_of e)
            (λ c. tidy_kind (sizes_of e) (relations_of e) within.each c.kind) within.rules);
        targets = rw tidy_counts.3 within.targets;
        named =
            rw (tidy_relations e, tidy_targets e)
            (every_map (PlaceWithin (relations_of e)) (PlaceWithin (map tidy_relation (relations_of e))) (targets_of e) (tidy_place (relations_of e)) within.named);
        kept =
            rw (tidy_relations e, length-map (relations_of e) tidy_relation)
            (every_map (λ (r : ℕ). empty (kept_columns e r) ≡ false) (λ (r : ℕ). empty (kept_columns (tidy e) r) ≡ false)
            (below (length (relations_of e))) (λ r h. rw (tidy_kept_columns e r) h) within.kept);
        whole_sizes = rw (tidy_sizes e, tidy_counts.0) within.whole_sizes;
        whole_relations = rw (tidy_relations e, tidy_counts.1) (simp length-map within.whole_relations);
        whole_clauses = rw (tidy_clauses e, tidy_counts.2) within.whole_clauses;
        whole_targets = rw (tidy_targets e, tidy_counts.3) within.whole_targets;
      }

  pub tidy_tidy : tidy (tidy e) ≡ tidy e
  tidy_tidy =
      tidy_is (tidy e)
      ∙ cc (
        tidy_version e,
        tidy_sizes e,
        tidy_relations e,
        tidy_clauses e,
        tidy_targets e,
        map-map tidy_relation tidy_relation (relations_of e),
        map_alike (λ (r : Relation). tidy_relation (tidy_relation r)) tidy_relation (relations_of e)
            (λ r m. tidy_again (sizes_of e) r (every_at (RelationWithin (sizes_of e)) (relations_of e) within.each m)),
      )
      ∙ sym (tidy_is e)
