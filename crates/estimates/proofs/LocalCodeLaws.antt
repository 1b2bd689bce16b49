-- The laws that the code of local operations goes by: selections leave numbers that have a bound, and what holds at the
-- heads of the two loops.
use mathlib.Core.Path.{◌≡◌, refl, sym, ap, ◌∙◌}
use mathlib.Core.Bool.{Bool, true, false}
use mathlib.Core.List.{List, [], ◌∷◌}
use Prim.Native.Nat.{ℕ, zero, suc, ◌+◌, ◌-◌, ◌/◌, ◌%◌, ◌≤◌, ◌<◌, zero-le}
use native.Mathlib.Nat.{le_trans, sub-zero}
use native.Mathlib.Numerals.{add-one}
use native.Mathlib.Omega.{arith}
use lib.ListN.{length, get_or, set, take, drop, drop_of_length-le}
use lib.Seq.{drop-cons}
use lib.Dec.{eqb}
use Rattle.ground.specs.Tests.{pick}
use Rattle.ground.specs.Lists.{below, numbers_from}
use Rattle.ground.proofs.CountLaws.{left_suc, left_none}
use Rattle.ground.proofs.EveryLaws.{every_mapped, every_of}
use Rattle.ground.proofs.CollectingLaws.{padded_take}
use Rattle.entries.specs.Places.{place}
use Rattle.contents.specs.Parts.{relation_count}
use Rattle.envelopes.specs.Rules.{Within, tidy}
use Rattle.entries.specs.declared.places.Place.{Place}
use Rattle.contents.specs.declared.envelope.Envelope.{Envelope}
use Rattle.paths.specs.Labels.{labels_of, by_labels}
use Rattle.paths.specs.Implied.{selected, selections_by, implied_selections, shown_selections}
use Rattle.paths.specs.declared.labels.Labels.{Labels}
use Rattle.paths.specs.declared.implied.Selected.{Selected}
use Rattle.paths.specs.declared.implied.Selections.{Selections}
use Rattle.paths.proofs.ImpliedLaws.{selections_by_labels}
use Rattle.estimates.specs.Division.{over}
use Rattle.estimates.specs.Profile.{estimated_rows, distinct_of, given, shrunk, after_selection, after_selections, after_relations, local_profile}
use Rattle.estimates.specs.Ready.{Low}
use Rattle.estimates.specs.declared.profiles.Profile.{Profile}
use Rattle.estimates.proofs.ShortLaws.{Y_most}
use Rattle.estimates.proofs.ProfileLaws.{get_d_every, given_inside, rows_most}
use Rattle.estimates.proofs.StepCodeLaws.{over_itself}
use Rattle.estimates.proofs.BoundCodeLaws.{counts_most}

-- ---- numbers that have a bound

pub record Small (p : Profile) : Type 0 where
  pub rows : Low p.rows
  pub counts : Low p.counts

set_low : (l : List ℕ) (i v : ℕ) → v ≤ 1000000 → Low l → Low (set l i v)
set_low [] i v h k j = k j
set_low (x ∷ l) zero v h k zero = h
set_low (x ∷ l) zero v h k (suc j) = k (suc j)
set_low (x ∷ l) (suc i) v h k zero = k zero
set_low (x ∷ l) (suc i) v h k (suc j) = set_low l i v h (λ n. k (suc n)) j

pick_low : (b : Bool) (x y : ℕ) → x ≤ 1000000 → y ≤ 1000000 → pick b x y ≤ 1000000
pick_low true x y h k = h
pick_low false x y h k = k

shrunk_small : (p : Profile) (a : Place) (n count : ℕ) → n ≤ 1000000 → count ≤ 1000000 → Small p → Small (shrunk p a n count)
unfolding shrunk
shrunk_small p a n count h k s =
    record {
      rows = set_low p.rows a.relation n h s.rows;
      counts =
          get_d_every (λ x. x ≤ 1000000) 0 zero-le (shrunk p a n count).counts
          (every_mapped (λ x. x ≤ 1000000) _ (below 64)
          (every_of _ (below 64)
          (λ i _.
          pick_low (eqb (i / 8) a.relation) _ _
          (pick_low (eqb (i % 8) a.column) _ _ k (le_trans (Y_most (get_or p.counts i 0) (estimated_rows p a.relation) n) (s.counts i)))
          (s.counts i))));
    }

selection_small : (p : Profile) (a : Place) → Small p → Small (after_selection p a)
unfolding after_selection
selection_small p a s =
    shrunk_small p a n (pick (eqb n 0) 0 1) (le_trans (over_itself (estimated_rows p a.relation) (distinct_of p a)) (s.rows a.relation))
    (pick_low (eqb n 0) 0 1 zero-le (omega arith)) s
  where
    n : ℕ
    n = over (estimated_rows p a.relation) (distinct_of p a)

selections_small : (p : Profile) (r : ℕ) (l : List Selected) → Small p → Small (after_selections p r l)
selections_small p r [] s = s
selections_small p r (x ∷ l) s =
    selections_small (after_selection p (place r x.column)) r l (selection_small p (place r x.column) s)

-- ---- the selections of a relation

-- of those i are applied
pub record Applying (p₀ : Profile) (r : ℕ) (all : List Selected) (i : ℕ) (p : Profile) : Type 0 where
  pub within : i ≤ length all
  pub small : Small p
  pub same : after_selections p₀ r all ≡ after_selections p r (drop i all)

module _ (p₀ : Profile) (r : ℕ) (all : List Selected) where
  pub applying_start : Low p₀.rows → Low p₀.counts → Applying p₀ r all 0 p₀
  applying_start m n = record { within = omega arith; small = record { rows = m; counts = n }; same = refl }

  module _ (i : ℕ) (p : Profile) (a : Applying p₀ r all i p) where
    pub applying_more : i < length all → (q : Profile) → q ≡ after_selection p (place r (get_or all i (selected 0 0)).column)
        → Applying p₀ r all (i + 1) q
    applying_more h q e =
        record {
          within = omega arith;
          small = rw e (selection_small p (place r (get_or all i (selected 0 0)).column) a.small);
          same =
              a.same ∙ ap (after_selections p r) (drop-cons all i (selected 0 0) h)
              ∙ ap (λ (y : Profile). after_selections y r (drop (suc i) all)) (sym e)
              ∙ ap (λ (m : ℕ). after_selections q r (drop m all)) (sym (add-one i));
        }

    pub applying_done : length all ≤ i → (x : Selections) (l : List Selected) → x ≡ shown_selections l → all ≡ take x.count x.all
        → p ≡ after_selections p₀ r l
    applying_done h x l e f =
        let t : all ≡ l = f ∙ rw e (padded_take 96 (selected 0 0) l) in
        sym (a.same ∙ ap (after_selections p r) (drop_of_length-le all h)) ∙ ap (after_selections p₀ r) t

-- ---- all relations

pub record Localizing (e : Envelope) (end r : ℕ) (p : Profile) : Type 0 where
  pub within : r ≤ end
  pub few : end ≤ 8
  pub used : end ≡ relation_count e
  pub small : Small p
  pub same : local_profile e ≡ after_relations e p (numbers_from r (end - r))

module _ (e : Envelope) (w : Within e) where
  pub localizing_start : (end : ℕ) (p : Profile) → tidy e ≡ e → end ≡ relation_count e → p ≡ given e → Localizing e end 0 p
  unfolding local_profile
  localizing_start end p t u g =
      record {
        within = omega arith;
        few = omega arith;
        used = u;
        small = rw g (record { rows = rows_most e w (given e) (given_inside e); counts = counts_most e w t (given e) (given_inside e) });
        same = rw (g, u, sub-zero);
      }

  module _ (end r : ℕ) (p : Profile) (a : Localizing e end r p) where
    pub localizing_more : r < end → (l : Labels) → l ≡ record { of = labels_of e } → (q : Profile)
        → q ≡ after_selections p r (selections_by (by_labels l.of e) e r) → Localizing e end (r + 1) q
    unfolding numbers_from
    localizing_more h l f q g =
        let k : q ≡ after_selections p r (implied_selections e r) = g ∙ rw (f, selections_by_labels e w r) in
        record {
          within = omega arith;
          few = a.few;
          used = a.used;
          small = rw k (selections_small p r (implied_selections e r) a.small);
          same = a.same ∙ ap (λ (n : ℕ). after_relations e p (numbers_from r n)) (left_suc end r h) ∙ rw k;
        }

    pub localizing_done : end ≤ r → p ≡ local_profile e
    unfolding numbers_from
    localizing_done h = sym (a.same ∙ ap (λ (n : ℕ). after_relations e p (numbers_from r n)) (left_none end r h))
