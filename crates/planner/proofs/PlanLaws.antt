-- The planner with the estimate of 01: every step handed out is legal and stands once, the site holds a relation, the total
-- is at most that of local operations alone, and it is the sum of what the lines say and of assembly. PromiseLaws gathers it.
use mathlib.Core.Path.{◌≡◌, refl}
use mathlib.Core.Bool.{true}
use mathlib.Core.List.Memᴰ
use mathlib.Core.List.{List, [], map, Memᴰ}
use mathlib.Core.List.Sublistᴰ
use mathlib.Core.List.{Sublistᴰ}
use mathlib.Core.Logic.{◌⊎◌, inl, inr}
use mathlib.Core.Option.{Option, none, some}
use Prim.Native.Nat.{ℕ, ◌+◌, ◌≤◌, ◌<◌}
use native.Mathlib.Nat.{le_refl}
use native.Mathlib.Omega.{arith}
use lib.ListN.{length, take}
use borrow.Author.Tests.{lt-ltb, eq-eqb}
use Rattle.ground.specs.Lists.{Every, below, sum}
use Rattle.ground.specs.Order.{Apart, Once}
use Rattle.ground.proofs.TestLaws.{and_both}
use Rattle.ground.proofs.ListLaws.{any_of, filter_mem, filter_from}
use Rattle.ground.proofs.EveryLaws.{every_of, every_get_d}
use Rattle.ground.proofs.NumbersLaws.{below_mem}
use Rattle.entries.specs.Relations.{past_relation}
use Rattle.contents.specs.Parts.{sizes_of, relations_of, relation_count, relation_in}
use Rattle.contents.specs.Sites.{site_of, is_at, holds}
use Rattle.envelopes.specs.Rules.{RelationWithin, Within}
use Rattle.contents.specs.declared.envelope.Envelope.{Envelope}
use Rattle.paths.specs.Steps.{legal, legal_steps}
use Rattle.papers.specs.Programs.{no_step}
use Rattle.paths.specs.declared.steps.Step.{Step}
use Rattle.paths.proofs.StepLaws.{legal_member}
use Rattle.paths.proofs.StepCountLaws.{legal_few}
use Rattle.estimates.specs.Profile.{local_profile}
use Rattle.estimates.specs.Costs.{assembly_at}
use Rattle.planner.specs.Choice.{Handed, cheapest, fallback}
use Rattle.estimates.specs.Kind.{after_all, total}
use Rattle.estimates.specs.Estimate.{kind_of, lines_of, estimated}
use Rattle.planner.specs.Plan.{sites_holding, site_for, greedy_steps, drops_at, after_drops, planned, plan_for}
use Rattle.estimates.specs.declared.profiles.Profile.{Profile}
use Rattle.estimates.specs.declared.costs.Costs.{Costs}
use Rattle.estimates.specs.declared.lines.Line.{Line}
use Rattle.ground.proofs.SublistLaws.{part_mem, sublist_length, part_ordered}
use Rattle.planner.proofs.ChoiceLaws.{Greedy, greedy_run, greedy_from, greedy_once, greedy_few, CheapestOf, cheapest_is, fallback_is, fallback_total}
use Rattle.estimates.proofs.EstimateLaws.{step_tells, estimated_lines, estimated_total}
use Rattle.planner.proofs.DropLaws.{drops_part}

-- a site that holds a relation
pub some_site : (e : Envelope) → Within e → Memᴰ (site_of e 0) (sites_holding e)
unfolding site_of is_at holds
some_site e w =
    filter_mem (holds e) (below_mem (site_of e 0) 8 (omega (arith, low)))
    (any_of (is_at e (site_of e 0)) (below_mem 0 (relation_count e) (omega (arith, w.relations)))
    (and_both (lt-ltb 0 (relation_count e) (omega (arith, w.relations))) (eq-eqb (site_of e 0) (site_of e 0) refl)))
  where
    some_relation : 0 < length (relations_of e)
    some_relation = omega (arith, w.relations, w.whole_relations)

    low : (relation_in e 0).site ≤ 7
    low = (every_get_d (RelationWithin (sizes_of e)) (relations_of e) 0 past_relation some_relation w.each).site

module _ (k : Costs) (e : Envelope) where
  -- ---- the steps

  pub plan_greedy : Greedy (kind_of k e) (legal_steps e) (local_profile e) (greedy_steps k e)
  unfolding greedy_steps
  plan_greedy = greedy_run (kind_of k e) step_tells (length (legal_steps e)) (legal_steps e) (local_profile e) (le_refl _)

  abbrev home : ℕ
  home = site_for k e (local_profile e)

  abbrev total_of : Handed Step → ℕ
  total_of h = total (kind_of k e) (local_profile e) h.site h.steps

  -- whatever holds of the program after drops, where its total is below, and of no steps at home
  planned_either : (Q : Handed Step → Type 0) → (total_of (after_drops k e) < assembly_at k e (local_profile e) home → Q (after_drops k e))
      → Q (record { steps = []; site = home }) → Q (planned k e)
  unfolding planned
  planned_either Q f q = go (fallback_is (kind_of k e) (local_profile e) home (after_drops k e))
    where
      found : Handed Step
      found = fallback (kind_of k e) (local_profile e) home (after_drops k e)

      go : ((found ≡ after_drops k e) × (total_of (after_drops k e) < assembly_at k e (local_profile e) home)) ⊎ (found ≡ record { steps = []; site = home })
          → Q found
      go (inl (u, l)) = rw u (f l)
      go (inr u) = rw u q

  pub after_drops_part : Sublistᴰ (after_drops k e).steps (greedy_steps k e)
  unfolding after_drops drops_at
  after_drops_part = drops_part (kind_of k e) no_step (local_profile e) site (λ (s : Step). is_at e site s.left.relation) (greedy_steps k e)
    where
      site : ℕ
      site = site_for k e (after_all (kind_of k e) (local_profile e) (greedy_steps k e))

  -- of what the greedy program has, in its order
  pub plan_part : Sublistᴰ (planned k e).steps (greedy_steps k e)
  plan_part =
      planned_either (λ (h : Handed Step). Sublistᴰ h.steps (greedy_steps k e)) (λ _. after_drops_part) (Sublistᴰ.nil-sublist (greedy_steps k e))

  -- of what the greedy program has every step is legal
  pub part_legal : (ss : List Step) → Sublistᴰ ss (greedy_steps k e) → Every (λ (s : Step). legal e s ≡ true) ss
  part_legal ss h =
      every_of _ ss
      (λ s m. (legal_member e s).1
      (greedy_from (kind_of k e) step_tells (legal_steps e) (local_profile e) (greedy_steps k e) plan_greedy (part_mem h m)))

  pub part_few : Within e → (ss : List Step) → Sublistᴰ ss (greedy_steps k e) → length ss ≤ 156
  part_few w ss h =
      omega (
        arith,
        sublist_length h,
        greedy_few (kind_of k e) step_tells (legal_steps e) (local_profile e) (greedy_steps k e) plan_greedy,
        legal_few e w,
      )

  pub plan_legal : Every (λ (s : Step). legal e s ≡ true) (planned k e).steps
  plan_legal = part_legal (planned k e).steps plan_part

  -- none twice
  pub plan_once : Once (planned k e).steps
  plan_once =
      part_ordered Apart plan_part
      (greedy_once (kind_of k e) step_tells (legal_steps e) (local_profile e) (greedy_steps k e) plan_greedy)

  -- ---- the site

  pub site_chosen : (p : Profile) → Within e → Memᴰ (site_for k e p) (sites_holding e)
  unfolding site_for
  site_chosen p w = go (cheapest (kind_of k e) p (sites_holding e)) (cheapest_is (kind_of k e) p (sites_holding e))
    where
      go : (o : Option ℕ) → CheapestOf (kind_of k e) p (sites_holding e) o → Memᴰ (elim o [ none ↦ 0 | some site ↦ site ]) (sites_holding e)
      go none c = absurd (Memᴰ.not-nil (rw c at (some_site e w)))
      go (some a) c = rw c.stands (Memᴰ.append_right c.before (Memᴰ.head refl))

  pub after_drops_site : Within e → Memᴰ (after_drops k e).site (sites_holding e)
  unfolding after_drops
  after_drops_site w = site_chosen (after_all (kind_of k e) (local_profile e) (greedy_steps k e)) w

  pub plan_site_chosen : Within e → Memᴰ (planned k e).site (sites_holding e)
  plan_site_chosen w =
      planned_either (λ (h : Handed Step). Memᴰ h.site (sites_holding e)) (λ _. after_drops_site w) (site_chosen (local_profile e) w)

  pub plan_site : Within e → holds e (plan_for k e).site ≡ true
  unfolding plan_for
  plan_site w = (filter_from (holds e) (below 8) (plan_site_chosen w)).1

  -- ---- the total

  pub plan_total : (plan_for k e).total ≤ (plan_for k e).local
  unfolding plan_for estimated planned
  plan_total = fallback_total (kind_of k e) (local_profile e) (site_for k e (local_profile e)) (after_drops k e)

  -- where steps are handed out it is strictly below
  pub plan_below : ((planned k e).steps ≡ [] → ⊥) → (plan_for k e).total < (plan_for k e).local
  unfolding plan_for estimated
  plan_below =
      planned_either (λ (h : Handed Step). (h.steps ≡ [] → ⊥) → total_of h < assembly_at k e (local_profile e) home)
      (λ l _. l) (λ q. absurd (q refl))

  -- ---- the lines: the plan is the estimate of what is handed out
  pub plan_lines_lem : take (plan_for k e).count (plan_for k e).lines ≡ lines_of k e (local_profile e) (planned k e).steps
  unfolding plan_for
  plan_lines_lem = estimated_lines k e (planned k e).steps (planned k e).site

  pub plan_sum : (plan_for k e).total
      ≡ sum (map (λ (l : Line). l.cost) (take (plan_for k e).count (plan_for k e).lines)) + (plan_for k e).assembly
  unfolding plan_for
  plan_sum = estimated_total k e (planned k e).steps (planned k e).site
