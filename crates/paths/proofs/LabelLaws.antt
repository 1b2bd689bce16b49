-- Equal labels are paths: of an envelope within the rules, the labels of two of its nodes are equal exactly where a path
-- joins them. Nodes have numbers of their own, below 76, and to make labels one along an edge is to link its two ends.
use mathlib.Core.Path.{◌≡◌, refl, sym, ap, ap₂, ◌∙◌, subst}
use mathlib.Core.Logic.{◌↔◌}
use mathlib.Core.Bool.{Bool, true, false, ◌&&◌, ◌||◌, false≢true, and-false, and-true, or-false}
use mathlib.Core.List.Memᴰ
use mathlib.Core.List.{List, [], ◌∷◌, Memᴰ}
use Prim.Native.Nat.{ℕ, ◌+◌, ◌<◌, min}
use native.Mathlib.Omega.{arith}
use lib.Dec.{eqb, ltb}
use lib.ListN.{get_or, length, length-map}
use lib.Seq.{get_or-take}
use borrow.Author.Tests.{eqb-true, eqb-false, eq-eqb, ne_eqb, ltb-true, lt-ltb}
use Rattle.ground.specs.Tests.{pick}
use Rattle.ground.specs.Searching.{first_from}
use Rattle.ground.proofs.CountLaws.{split}
use Rattle.ground.proofs.SearchingLaws.{some_from, some_of, some_first, first_holds}
use Rattle.ground.proofs.TestLaws.{and_left, and_right, and_both, same_test}
use Rattle.ground.proofs.EveryLaws.{every_at}
use Rattle.ground.proofs.ListLaws.{mem_get_d, get_d_map}
use Rattle.ground.proofs.NumbersLaws.{below_length, below_get_d}
use Rattle.entries.specs.Places.{place}
use Rattle.entries.specs.Clauses.{no_clause, domain_of}
use Rattle.contents.specs.Parts.{relations_of, clauses_of, relation_count, columns_in}
use Rattle.envelopes.specs.Rules.{PlaceWithin, KindWithin, ClauseWithin, Within}
use Rattle.entries.specs.declared.places.Place.{Place}
use Rattle.entries.specs.declared.clauses.Clause.{Clause}
use Rattle.entries.specs.declared.clauses.ClauseKind.{ClauseKind}
use Rattle.entries.specs.declared.clauses.ClauseKind.TheVariants.{Selection, Join}
use Rattle.contents.specs.declared.envelope.Envelope.{Envelope}
use Rattle.contents.proofs.PartLaws.{columns_outside, columns_few}
use Rattle.paths.specs.Paths.{Node, column, constant, same_node, Edge, edge_of, edges, PathBetween, linked, on_path}
use Rattle.paths.specs.Steps.{is_place}
use Rattle.paths.specs.Labels.{selects, NodeOf, number_of, relabel, united, labelled, labels_of, by_labels}
use Rattle.paths.proofs.PathLaws.{same_node_lem, node_same, on_path_lem}

-- ---- the nodes of the edges

pub place_in : (e : Envelope) (a : Place) → is_place e a ≡ true → (a.relation < relation_count e) × (a.column < columns_in e a.relation)
unfolding is_place
place_in e a t =
    (ltb-true _ _ (and_left _ _ t), ltb-true _ _ (and_right (ltb a.relation (relation_count e)) _ t))

pub in_place : (e : Envelope) (a : Place) → a.relation < relation_count e → a.column < columns_in e a.relation → is_place e a ≡ true
unfolding is_place
in_place e a h k = and_both (lt-ltb _ _ h) (lt-ltb _ _ k)

-- a column of the envelope is a node of it
pub place_node : (e : Envelope) (a : Place) → is_place e a ≡ true → NodeOf e (column a)
place_node e a t = let (h, k) = place_in e a t in (omega arith, omega (arith, columns_few e a.relation))

-- so is the constant of a clause
pub selected_node : (e : Envelope) (c : Clause) (a : Place) (v : ℕ) → c.kind ≡ Selection a v → Memᴰ c (clauses_of e)
    → NodeOf e (constant (domain_of e.relations a) v)
unfolding selects
selected_node e c a v p m = (c, m, rw p (and_both (eq-eqb (domain_of e.relations a) _ refl) (eq-eqb v v refl)))

module _ (e : Envelope) (w : Within e) where
  pub relations_in_use : length (relations_of e) ≡ relation_count e
  relations_in_use = let (low, high) = w.relations in w.whole_relations ∙ omega arith

  -- a column that exists, by the rules and by the test
  pub within_place : (a : Place) → PlaceWithin (relations_of e) a → is_place e a ≡ true
  unfolding columns_in
  within_place a p = in_place e a (rw relations_in_use at p.relation) p.column

  pub place_within : (a : Place) → is_place e a ≡ true → PlaceWithin (relations_of e) a
  unfolding columns_in
  place_within a t = let (h, k) = place_in e a t in record { relation = rw relations_in_use h; column = k }

  -- a column of a relation, by number, is a node: no relation behind the envelope's has one
  pub column_node : (r c : ℕ) → c < columns_in e r → NodeOf e (column (place r c))
  column_node r c h =
      split e.relation_count r
      (λ k. absurd (omega (arith, columns_outside e r k)))
      (λ k. (omega (arith, w.relations), omega (arith, columns_few e r)))

  -- the ends of every edge are nodes of the envelope
  abbrev EndsOf : Edge → Type 0
  EndsOf g = NodeOf e g.from × NodeOf e g.to

  kind_ends : (c : Clause) (k : ClauseKind) → c.kind ≡ k → Memᴰ c (clauses_of e) → KindWithin (relations_of e) k → EndsOf (edge_of e.relations k)
  kind_ends c (Selection a v) p m h = (place_node e a (within_place a h.0), selected_node e c a v p m)
  kind_ends c (Join a b) p m h = (place_node e a (within_place a h.0), place_node e b (within_place b h.1))

  pub edge_ends : (g : Edge) → Memᴰ g (edges e) → NodeOf e g.from × NodeOf e g.to
  unfolding edges
  edge_ends g m =
      let (c, n, p) = Memᴰ.of_map (λ (c : Clause). edge_of e.relations c.kind) (clauses_of e) m in
      subst EndsOf p (kind_ends c c.kind refl n (every_at (ClauseWithin (relations_of e)) (clauses_of e) w.rules n))

  -- ---- numbers

  -- the first clause that selects a constant
  abbrev first : ℕ → ℕ → ℕ
  first d v = first_from (λ i. selects e.relations d v (get_or e.clauses i no_clause).kind) 0 (min 12 e.clause_count)

  first_selects : (d v : ℕ) → NodeOf e (constant d v)
      → (first d v < 12) × (selects e.relations d v (get_or e.clauses (first d v) no_clause).kind ≡ true)
  unfolding clauses_of
  first_selects d v (c, m, t) =
      let (i, h, p) = mem_get_d no_clause m in
      let count : i < e.clause_count = rw w.whole_clauses at h in
      let at : get_or e.clauses i no_clause ≡ c = sym (get_or-take e.clause_count e.clauses i no_clause count) ∙ p in
      let n : ℕ = min 12 e.clause_count in
      let f : ℕ → Bool = λ i. selects e.relations d v (get_or e.clauses i no_clause).kind in
      let some : some_from f 0 n ≡ true = some_of f 0 n i (omega arith) (omega (arith, w.clauses)) (rw at t) in
      let found : first d v < 0 + n = ltb-true _ _ (sym (some_first f 0 n) ∙ some) in
      (omega arith, first_holds f 0 n found)

  pub number_below_lem : (x : Node) → NodeOf e x → number_of e x < 76
  unfolding number_of
  number_below_lem (column a) (h, k) = omega arith
  number_below_lem (constant d v) t = omega (arith, (first_selects d v t).0)

  -- a clause selects one constant
  selects_one : (k : ClauseKind) (d v c u : ℕ) → selects e.relations d v k ≡ true → selects e.relations c u k ≡ true → constant d v ≡ constant c u
  unfolding selects
  selects_one (Selection a n) d v c u s t =
      ap₂ constant
      (sym (eqb-true (domain_of e.relations a) d (and_left _ _ s)) ∙ eqb-true (domain_of e.relations a) c (and_left _ _ t))
      (sym (eqb-true n v (and_right (eqb (domain_of e.relations a) d) _ s)) ∙ eqb-true n u (and_right (eqb (domain_of e.relations a) c) _ t))
  selects_one (Join a b) d v c u s t = absurd (false≢true s)

  -- each node of the envelope has a number of its own
  pub number_one : (x y : Node) → NodeOf e x → NodeOf e y → number_of e x ≡ number_of e y → x ≡ y
  unfolding number_of
  number_one (column a) (column b) s t p =
      let r : a.relation ≡ b.relation = omega arith in
      let c : a.column ≡ b.column = omega arith in
      λ i. column (record { relation = r i; column = c i })
  number_one (column a) (constant d v) s t p = absurd (omega arith)
  number_one (constant d v) (column b) s t p = absurd (omega arith)
  number_one (constant d v) (constant c u) s t p =
      let q : first d v ≡ first c u = omega arith in
      selects_one (get_or e.clauses (first c u) no_clause).kind d v c u (rw q at (first_selects d v s).1) (first_selects c u t).1

  number_same : (x y : Node) → NodeOf e x → NodeOf e y → eqb (number_of e x) (number_of e y) ≡ same_node x y
  number_same x y s t =
      same_test (eqb (number_of e x) (number_of e y)) (same_node x y)
      (λ p. node_same x y (number_one x y s t (eqb-true _ _ p)))
      (λ p. eq-eqb _ _ (ap (number_of e) (same_node_lem x y p)))

-- ---- labels

-- one edge: with a, b the labels of its ends, x and y those of two nodes
one_edge : (a b x y : ℕ) → eqb (pick (eqb x a) b x) (pick (eqb y a) b y) ≡ (eqb x y || (eqb x a && eqb b y || eqb x b && eqb a y))
one_edge a b x y = go (eqb x a) (eqb y a) refl refl
  where
    go : (u v : Bool) → eqb x a ≡ u → eqb y a ≡ v → eqb (pick u b x) (pick v b y) ≡ (eqb x y || (u && eqb b y || eqb x b && eqb a y))
    go true true p q = rw (eq-eqb b b refl, eq-eqb x y (eqb-true x a p ∙ sym (eqb-true y a q)))
    go true false p q =
        rw (ne_eqb x y (λ e. eqb-false y a q (sym e ∙ eqb-true x a p)), ne_eqb a y (λ e. eqb-false y a q (sym e)), and-false, or-false)
    go false true p q =
        rw (ne_eqb x y (λ e. eqb-false x a p (e ∙ eqb-true y a q)), eq-eqb a y (sym (eqb-true y a q)), and-true)
    go false false p q = rw (ne_eqb a y (λ e. eqb-false y a q (sym e)), and-false, or-false)

pub labelled_length : (e : Envelope) (gs : List Edge) → length (labelled e gs) ≡ 76
unfolding labelled united relabel
labelled_length e [] = below_length 76
labelled_length e (g ∷ gs) = simp length-map (labelled_length e gs)

module _ (e : Envelope) (w : Within e) where
  -- equal labels are what linked says, edge by edge
  labels_linked : (gs : List Edge) → ((g : Edge) → Memᴰ g gs → NodeOf e g.from × NodeOf e g.to)
      → (x y : Node) → NodeOf e x → NodeOf e y → by_labels (labelled e gs) e x y ≡ linked gs x y
  unfolding by_labels labelled united relabel
  labels_linked [] h x y s t =
      rw (below_get_d 76 (number_of e x) 0 (number_below_lem e w x s), below_get_d 76 (number_of e y) 0 (number_below_lem e w y t))
      (number_same e w x y s t)
  labels_linked (g ∷ gs) h x y s t = go (labels_linked gs (λ k m. h k (Memᴰ.tail m))) (h g (Memᴰ.head refl))
    where
      label : Node → ℕ
      label z = get_or (labelled e gs) (number_of e z) 0

      renamed : (z : Node) → NodeOf e z → get_or (united (number_of e g.from) (number_of e g.to) (labelled e gs)) (number_of e z) 0
          ≡ pick (eqb (label z) (label g.from)) (label g.to) (label z)
      renamed z n = get_d_map _ (labelled e gs) (number_of e z) 0 0 (rw (labelled_length e gs) (number_below_lem e w z n))

      go : ((a b : Node) → NodeOf e a → NodeOf e b → eqb (label a) (label b) ≡ linked gs a b)
          → NodeOf e g.from × NodeOf e g.to
          → by_labels (labelled e (g ∷ gs)) e x y ≡ linked (g ∷ gs) x y
      go k (p, q) =
          rw (renamed x s, renamed y t)
          (one_edge (label g.from) (label g.to) (label x) (label y)
          ∙ rw (k x y s t, k x g.from s p, k g.to y q t, k x g.to s q, k g.from y p t))

  pub labels_path : (x y : Node) → NodeOf e x → NodeOf e y → by_labels (labels_of e) e x y ≡ on_path e x y
  unfolding labels_of on_path
  labels_path = labels_linked (edges e) (edge_ends e w)

  -- labels are equal exactly where a path joins two nodes
  pub labels_between : (x y : Node) → NodeOf e x → NodeOf e y → (by_labels (labels_of e) e x y ≡ true) ↔ PathBetween (edges e) x y
  labels_between x y s t = rw (labels_path x y s t) (on_path_lem e x y)
