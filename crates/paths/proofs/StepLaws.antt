-- Legal steps: what a legal step is, that it is legal turned round too, and that labels tell it. The list of legal steps
-- has each of them and no other, in order.
use mathlib.Core.Path.{◌≡◌, refl, sym, ◌∙◌}
use mathlib.Core.Bool.{Bool, true, false, ◌&&◌, not}
use mathlib.Core.List.Memᴰ
use mathlib.Core.List.{List, map, Memᴰ}
use mathlib.Core.Logic.{inl, inr, ◌↔◌}
use Prim.Native.Nat.{ℕ, ◌<◌}
use lib.Dec.{eqb}
use borrow.Author.Tests.{eqb-false, ne_eqb, not-true}
use Rattle.ground.specs.Lists.{filter, each, below}
use Rattle.ground.specs.Order.{Ordered}
use Rattle.ground.proofs.TestLaws.{and_left, and_right, same_test}
use Rattle.ground.proofs.ListLaws.{filter_mem, filter_from, each_mem}
use Rattle.ground.proofs.NumbersLaws.{below_mem}
use Rattle.ground.proofs.OrderLaws.{numbers_ordered, ordered_filter, ordered_map, ordered_each}
use Rattle.entries.specs.Places.{place}
use Rattle.contents.specs.Parts.{relation_count, columns_in}
use Rattle.envelopes.specs.Rules.{Within}
use Rattle.entries.specs.declared.places.Place.{Place}
use Rattle.contents.specs.declared.envelope.Envelope.{Envelope}
use Rattle.paths.specs.Paths.{column, on_path}
use Rattle.paths.specs.Labels.{labels_of, by_labels}
use Rattle.paths.specs.Steps.{step, places, is_place, legal_by, legal, LegalStep, legal_steps, PlaceBefore, StepBefore}
use Rattle.paths.specs.declared.steps.Step.{Step}
use Rattle.paths.proofs.PathLaws.{on_path_lem, on_path_symmetric}
use Rattle.paths.proofs.LabelLaws.{place_in, place_node, labels_path}

-- ---- what a legal step is

module _ (e : Envelope) where
  pub legal_step : (s : Step) → legal e s ≡ true → LegalStep e s
  unfolding legal_by
  legal_step s t =
      let places : (is_place e s.left && is_place e s.right) ≡ true = and_left _ _ t in
      let rest : (not (eqb s.left.relation s.right.relation) && on_path e (column s.left) (column s.right)) ≡ true =
      and_right (is_place e s.left && is_place e s.right) _ t in
      record {
        left = and_left _ _ places;
        right = and_right (is_place e s.left) _ places;
        differ = eqb-false _ _ (not-true _ (and_left _ _ rest));
        path = (on_path_lem e (column s.left) (column s.right)).0 (and_right (not (eqb s.left.relation s.right.relation)) _ rest);
      }

  pub step_legal : (s : Step) → LegalStep e s → legal e s ≡ true
  unfolding legal_by
  step_legal s l = rw (l.left, l.right, ne_eqb _ _ l.differ, (on_path_lem e (column s.left) (column s.right)).1 l.path)

  pub legal_symmetric : (a b : Place) → legal e (step a b) ≡ legal e (step b a)
  legal_symmetric a b = same_test (legal e (step a b)) (legal e (step b a)) (turned a b) (turned b a)
    where
      turned : (a b : Place) → legal e (step a b) ≡ true → legal e (step b a) ≡ true
      turned a b t =
          let l : LegalStep e (step a b) = legal_step (step a b) t in
          step_legal (step b a) record {
            left = l.right;
            right = l.left;
            differ = λ p. l.differ (sym p);
            path = (on_path_lem e (column b) (column a)).0 (on_path_symmetric e (column b) (column a) ∙ (on_path_lem e (column a) (column b)).1 l.path);
          }

  -- labels tell whether a step is legal, whatever step it is
  pub legal_by_labels : Within e → (s : Step) → legal_by (by_labels (labels_of e) e) e s ≡ legal e s
  unfolding legal_by
  legal_by_labels w s = go (is_place e s.left) (is_place e s.right) refl refl
    where
      go : (p q : Bool) → is_place e s.left ≡ p → is_place e s.right ≡ q
          → (p && q && (not (eqb s.left.relation s.right.relation) && by_labels (labels_of e) e (column s.left) (column s.right)))
          ≡ (p && q && (not (eqb s.left.relation s.right.relation) && on_path e (column s.left) (column s.right)))
      go true true l r = rw (labels_path e w (column s.left) (column s.right) (place_node e s.left l) (place_node e s.right r))
      go true false l r = refl
      go false q l r = refl

-- ---- the list

-- the columns of a relation; every step of two columns
abbrev columns : Envelope → ℕ → List Place
columns e r = map (place r) (below (columns_in e r))

abbrev steps : Envelope → List Step
steps e = each (λ (a : Place). map (step a) (places e)) (places e)

module _ (e : Envelope) where
  pub places_mem : (a : Place) → is_place e a ≡ true → Memᴰ a (places e)
  unfolding places
  places_mem a t =
      let (h, k) = place_in e a t in
      each_mem (columns e)
      (below_mem a.relation (relation_count e) h)
      (Memᴰ.map (place a.relation) (below_mem a.column (columns_in e a.relation) k))

  -- a step is legal exactly where the list has it
  pub legal_member : (s : Step) → (legal e s ≡ true) ↔ Memᴰ s (legal_steps e)
  unfolding legal_steps
  legal_member s = (into, λ m. (filter_from (legal e) (steps e) m).1)
    where
      into : legal e s ≡ true → Memᴰ s (filter (legal e) (steps e))
      into t =
          let l : LegalStep e s = legal_step e s t in
          filter_mem (legal e)
          (each_mem (λ (a : Place). map (step a) (places e)) (places_mem s.left l.left)
          (Memᴰ.map (step s.left) (places_mem s.right l.right))) t

-- ---- its order: left relation, left column, right relation, right column

module _ (e : Envelope) where
  pub places_ordered : Ordered PlaceBefore (places e)
  unfolding places
  places_ordered =
      ordered_each ◌<◌ PlaceBefore (columns e) (below (relation_count e)) (numbers_ordered 0 (relation_count e))
      (λ r _. ordered_map ◌<◌ PlaceBefore (place r) (λ c d h. inr (refl, h)) (below (columns_in e r)) (numbers_ordered 0 (columns_in e r)))
      λ q r a b h m n.
      let (c, _, p) = Memᴰ.of_map (place q) (below (columns_in e q)) m in
      let (d, _, o) = Memᴰ.of_map (place r) (below (columns_in e r)) n in
      rw (← p, ← o) (inl h)

  pub legal_ordered : Ordered StepBefore (legal_steps e)
  unfolding legal_steps
  legal_ordered =
      ordered_filter StepBefore (legal e) (steps e)
      (ordered_each PlaceBefore StepBefore (λ (a : Place). map (step a) (places e)) (places e) places_ordered
      (λ a _. ordered_map PlaceBefore StepBefore (step a) (λ b c h. inr (refl, h)) (places e) places_ordered)
      λ a b s t h m n.
      let (c, _, p) = Memᴰ.of_map (step a) (places e) m in
      let (d, _, o) = Memᴰ.of_map (step b) (places e) n in
      rw (← p, ← o) (inl h))
