-- A profile never grows: whatever local operations and legal steps do, rows and counts are at most the envelope's own, so
-- every number of an estimate has a bound.
use mathlib.Core.Path.{◌≡◌, refl, sym, ap, ◌∙◌, subst}
use mathlib.Core.Bool.{Bool, true, false}
use mathlib.Core.List.Memᴰ
use mathlib.Core.List.{List, [], ◌∷◌, map, Memᴰ}
use Prim.Native.Nat.{ℕ, zero, suc, ◌+◌, ◌*◌, ◌/◌, ◌%◌, ◌≤◌, ◌<◌, zero-le}
use native.Mathlib.Nat.{le_refl, le_trans, mul-le-mul_left, div-add-mod}
use native.Mathlib.Omega.{arith}
use lib.ListN.{length, get_or, set, length-map, length-set, get_or-eq_default}
use lib.Dec.{eqb}
use borrow.Author.Tests.{eqb-true, eqb-false}
use Rattle.ground.specs.Tests.{pick}
use Rattle.ground.specs.Lists.{Every, below}
use Rattle.ground.proofs.CountLaws.{split}
use Rattle.ground.proofs.ListLaws.{get_d_map}
use Rattle.ground.proofs.EveryLaws.{every_map, every_mapped, every_of, every_at, every_get_d}
use Rattle.ground.proofs.NumbersLaws.{below_length, below_get_d}
use Rattle.ground.proofs.UsedLaws.{used_inside}
use Rattle.entries.specs.Relations.{no_column, past_relation, columns_of}
use Rattle.entries.specs.Clauses.{domain_of}
use Rattle.contents.specs.Parts.{sizes_of, relations_of, clauses_of, relation_count, relation_in}
use Rattle.envelopes.specs.Rules.{ColumnWithin, RelationWithin, PlaceWithin, KindWithin, ClauseWithin, Within}
use Rattle.entries.specs.declared.places.Place.{Place}
use Rattle.entries.specs.declared.relations.Relation.{Relation}
use Rattle.entries.specs.declared.clauses.Clause.{Clause}
use Rattle.entries.specs.declared.clauses.ClauseKind.{ClauseKind}
use Rattle.entries.specs.declared.clauses.ClauseKind.TheVariants.{Selection, Join}
use Rattle.contents.specs.declared.envelope.Envelope.{Envelope}
use Rattle.contents.proofs.PartLaws.{relation_inside}
use Rattle.paths.specs.Paths.{Node, column, constant, Edge, edge_of, edges}
use Rattle.paths.specs.Steps.{is_place, legal, LegalStep}
use Rattle.paths.specs.Implied.{implied_selections}
use Rattle.paths.specs.declared.steps.Step.{Step}
use Rattle.paths.specs.declared.implied.Selected.{Selected}
use Rattle.paths.proofs.PathLaws.{path_equal}
use Rattle.paths.proofs.LabelLaws.{place_node, place_within}
use Rattle.paths.proofs.StepLaws.{legal_step}
use Rattle.estimates.specs.Division.{over}
use Rattle.estimates.specs.Short.{Y}
use Rattle.estimates.specs.Columns.{column_of, domain_size}
use Rattle.estimates.specs.Profile.{estimated_rows, distinct_of, given, shrunk, after_selection, remaining, rows_after, count_after, after_step, after_selections, after_relations, local_profile}
use Rattle.estimates.specs.declared.profiles.Profile.{Profile}
use Rattle.estimates.proofs.DivisionLaws.{over_none, over_some, over_most}
use Rattle.estimates.proofs.ShortLaws.{Y_most}

-- at most what the envelope says, at every place, and of its widths
pub record Inside (e : Envelope) (p : Profile) : Type 0 where
  pub rows : (r : ℕ) → estimated_rows p r ≤ estimated_rows (given e) r
  pub counts : (i : ℕ) → get_or p.counts i 0 ≤ get_or (given e).counts i 0
  pub widths : p.widths ≡ (given e).widths
  pub long_rows : length p.rows ≡ 8
  pub long_counts : length p.counts ≡ 64

-- ---- general

set_less : (l : List ℕ) (i j v : ℕ) → v ≤ get_or l i 0 → get_or (set l i v) j 0 ≤ get_or l j 0
set_less [] i j v h = le_refl _
set_less (x ∷ l) zero zero v h = h
set_less (x ∷ l) zero (suc j) v h = le_refl _
set_less (x ∷ l) (suc i) zero v h = le_refl _
set_less (x ∷ l) (suc i) (suc j) v h = set_less l i j v h

-- what holds of every element and of the default holds at every place
pub get_d_every : {A : Type 0} (Q : A → Type 0) (d : A) → Q d → (l : List A) → Every Q l → (i : ℕ) → Q (get_or l i d)
get_d_every Q d q [] h i = q
get_d_every Q d q (x ∷ l) h zero = h.0
get_d_every Q d q (x ∷ l) h (suc i) = get_d_every Q d q l h.1 i

-- a list of 64 counts, place by place
counts_at : (f : ℕ → ℕ) (i : ℕ) → i < 64 → get_or (map f (below 64)) i 0 ≡ f i
counts_at f i h = get_d_map f (below 64) i 0 0 (omega (arith, below_length 64)) ∙ ap f (below_get_d 64 i 0 h)

mapped_length : (f : ℕ → ℕ) (n : ℕ) → length (map f (below n)) ≡ n
mapped_length f n = length-map (below n) f ∙ below_length n

-- ---- a relation that shrinks

module _ (p : Profile) (a : Place) (n count : ℕ) (fewer : n ≤ estimated_rows p a.relation) (less : count ≤ distinct_of p a) where
  abbrev new : ℕ → ℕ
  new i =
      pick (eqb (i / 8) a.relation) (pick (eqb (i % 8) a.column) count (Y (get_or p.counts i 0) (estimated_rows p a.relation) n)) (get_or p.counts i 0)

  new_less : (i : ℕ) → new i ≤ get_or p.counts i 0
  new_less i = go (eqb (i / 8) a.relation) (eqb (i % 8) a.column) refl refl
    where
      go : (b c : Bool) → eqb (i / 8) a.relation ≡ b → eqb (i % 8) a.column ≡ c
          → pick b (pick c count (Y (get_or p.counts i 0) (estimated_rows p a.relation) n)) (get_or p.counts i 0) ≤ get_or p.counts i 0
      go true true s t =
          let u : i / 8 ≡ a.relation = eqb-true _ _ s in
          let v : i % 8 ≡ a.column = eqb-true _ _ t in
          let q : 8 * a.relation + a.column ≡ i = omega (arith, div-add-mod i 8) in
          rw q at less
      go true false s t = Y_most (get_or p.counts i 0) (estimated_rows p a.relation) n
      go false c s t = le_refl _

  counts_less : (i : ℕ) → get_or (map new (below 64)) i 0 ≤ get_or p.counts i 0
  counts_less i =
      split 64 i
      (λ h.
      let long : length (map new (below 64)) ≤ i = rw (mapped_length new 64) h in
      rw (get_or-eq_default (map new (below 64)) 0 long) zero-le)
      (λ h. rw (counts_at new i h) (new_less i))

  pub shrunk_inside : (e : Envelope) → Inside e p → Inside e (shrunk p a n count)
  unfolding shrunk
  shrunk_inside e h =
      record {
        rows = λ r. le_trans (set_less p.rows a.relation r n fewer) (h.rows r);
        counts = λ i. le_trans (counts_less i) (h.counts i);
        widths = h.widths;
        long_rows = length-set p.rows a.relation n ∙ h.long_rows;
        long_counts = mapped_length new 64;
      }

-- ---- local operations

module _ (e : Envelope) where
  pub given_inside : Inside e (given e)
  unfolding given
  given_inside =
      record {
        rows = λ r. le_refl _;
        counts = λ i. le_refl _;
        widths = refl;
        long_rows = mapped_length (λ r. (relation_in e r).rows) 8;
        long_counts = mapped_length (λ i. (column_of e (record { relation = i / 8; column = i % 8 })).distinct) 64;
      }

  pub selection_inside : (p : Profile) (a : Place) → Inside e p → Inside e (after_selection p a)
  unfolding after_selection
  selection_inside p a h = shrunk_inside p a n (pick (eqb n 0) 0 1) few (go (eqb n 0) refl) e h
    where
      n : ℕ
      n = over (estimated_rows p a.relation) (distinct_of p a)

      few : n ≤ estimated_rows p a.relation
      few =
          split 1 (distinct_of p a)
          (λ l. over_most (estimated_rows p a.relation) (estimated_rows p a.relation) (distinct_of p a)
          (omega (arith, mul-le-mul_left (estimated_rows p a.relation) l)))
          (λ l. let z : distinct_of p a ≡ 0 = omega arith in rw (z, over_none (estimated_rows p a.relation)) zero-le)

      go : (b : Bool) → eqb n 0 ≡ b → pick b 0 1 ≤ distinct_of p a
      go true s = zero-le
      go false s = over_some (estimated_rows p a.relation) (distinct_of p a) (eqb-false n 0 s)

  selections_inside : (r : ℕ) (l : List Selected) (p : Profile) → Inside e p → Inside e (after_selections p r l)
  selections_inside r [] p h = h
  selections_inside r (s ∷ l) p h =
      selections_inside r l (after_selection p (record { relation = r; column = s.column }))
      (selection_inside p (record { relation = r; column = s.column }) h)

  relations_inside : (l : List ℕ) (p : Profile) → Inside e p → Inside e (after_relations e p l)
  relations_inside [] p h = h
  relations_inside (r ∷ l) p h =
      relations_inside l (after_selections p r (implied_selections e r)) (selections_inside r (implied_selections e r) p h)

  pub local_inside : Inside e (local_profile e)
  unfolding local_profile
  local_inside = relations_inside (below (relation_count e)) (given e) given_inside

-- ---- what the envelope says

module _ (e : Envelope) (w : Within e) where
  row_most : (r : ℕ) → (relation_in e r).rows ≤ 1000000
  row_most r =
      get_d_every (λ (x : Relation). x.rows ≤ 1000000) past_relation zero-le (relations_of e)
      (every_map (RelationWithin (sizes_of e)) (λ (x : Relation). x.rows ≤ 1000000) (relations_of e) (λ x h. h.rows) w.each) r

  pub column_within : (a : Place) → is_place e a ≡ true
      → ColumnWithin (sizes_of e) (relation_in e a.relation).rows (column_of e a)
  unfolding column_of columns_of
  column_within a t =
      let i : PlaceWithin (relations_of e) a = place_within e w a t in
      let h : RelationWithin (sizes_of e) (relation_in e a.relation) =
      every_get_d (RelationWithin (sizes_of e)) (relations_of e) a.relation past_relation i.relation w.each in
      rw (used_inside (relation_in e a.relation).columns (relation_in e a.relation).column_count
      a.column no_column (omega (arith, i.column))) at
      (every_get_d _ (columns_of (relation_in e a.relation)) a.column no_column
      (omega (arith, i.column, h.whole)) h.columns)

  -- columns on a path have one domain
  domain_used : (a : Place) → PlaceWithin (relations_of e) a → domain_of (relations_of e) a ≡ domain_of e.relations a
  unfolding domain_of
  domain_used a h =
      ap (λ (r : Relation). (get_or r.columns a.column no_column).domain)
      (relation_inside e a.relation (omega (arith, h.relation, w.whole_relations)))

  abbrev domain_at : Node → ℕ
  domain_at (column a) = domain_of e.relations a
  domain_at (constant d v) = d

  abbrev OneDomain : Edge → Type 0
  OneDomain g = domain_at g.from ≡ domain_at g.to

  kind_domain : (c : ClauseKind) → KindWithin (relations_of e) c → OneDomain (edge_of e.relations c)
  kind_domain (Selection a v) h = refl
  kind_domain (Join a b) h = sym (domain_used a h.0) ∙ h.2 ∙ domain_used b h.1

  edge_domain : (g : Edge) → Memᴰ g (edges e) → OneDomain g
  unfolding edges
  edge_domain g m =
      let (c, n, q) = Memᴰ.of_map (λ (c : Clause). edge_of e.relations c.kind) (clauses_of e) m in
      subst OneDomain q (kind_domain c.kind (every_at (ClauseWithin (relations_of e)) (clauses_of e) w.rules n))

  step_domain : (s : Step) → LegalStep e s → domain_size e s.left ≡ domain_size e s.right
  unfolding domain_size column_of domain_of
  step_domain s l =
      ap (λ (d : ℕ). get_or (sizes_of e) d 0)
      (domain_used s.left (place_within e w s.left l.left)
      ∙ path_equal domain_at (edges e) edge_domain l.path
      ∙ sym (domain_used s.right (place_within e w s.right l.right)))

  -- ---- bounds of a profile

  module _ (p : Profile) (i : Inside e p) where
    pub rows_most : (r : ℕ) → estimated_rows p r ≤ 1000000
    unfolding given
    rows_most r =
        le_trans (i.rows r)
        (get_d_every (λ n. n ≤ 1000000) 0 zero-le (given e).rows
        (every_mapped (λ n. n ≤ 1000000) (λ r. (relation_in e r).rows) (below 8) (every_of _ (below 8) (λ r _. row_most r))) r)

    pub count_distinct : (a : Place) → is_place e a ≡ true → distinct_of p a ≤ (column_of e a).distinct
    unfolding given
    count_distinct a t =
        let (h, k) = place_node e a t in
        let u : (8 * a.relation + a.column) / 8 ≡ a.relation = omega arith in
        let v : (8 * a.relation + a.column) % 8 ≡ a.column = omega arith in
        rw (counts_at (λ j. (column_of e (record { relation = j / 8; column = j % 8 })).distinct) (8 * a.relation + a.column) (omega arith), u, v)
        at (i.counts (8 * a.relation + a.column))

    pub count_most : (a : Place) → is_place e a ≡ true → distinct_of p a ≤ 1000000
    count_most a t = omega (arith, count_distinct a t, (column_within a t).few, row_most a.relation)

    count_domain : (a : Place) → is_place e a ≡ true → distinct_of p a ≤ domain_size e a
    unfolding domain_size
    count_domain a t = omega (arith, count_distinct a t, (column_within a t).inside)

    -- ---- a legal step

    module _ (s : Step) (t : legal e s ≡ true) where
      shrinks : (x : ℕ) → remaining e p s x ≤ x
      shrinks x =
          let l : LegalStep e s = legal_step e s t in
          over_most (x * distinct_of p s.right) x (domain_size e s.left)
          (mul-le-mul_left x (rw (step_domain s l) (count_domain s.right l.right)))

      pub rows_after_lem : rows_after e p s ≤ estimated_rows p s.left.relation
      unfolding rows_after
      rows_after_lem = shrinks (estimated_rows p s.left.relation)

      pub count_after_lem : count_after e p s ≤ distinct_of p s.left
      unfolding count_after
      count_after_lem = shrinks (distinct_of p s.left)

      pub step_inside : Inside e (after_step e p s)
      unfolding after_step
      step_inside = shrunk_inside p s.left (rows_after e p s) (count_after e p s) rows_after_lem count_after_lem e i
