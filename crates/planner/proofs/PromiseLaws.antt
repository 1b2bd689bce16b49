-- The planner keeps its promise: over any kind of estimate in which equal steps are told, and so with the estimate of 01, in
-- the very plan that the contract of plan speaks of.
use mathlib.Core.Path.{◌≡◌, refl, sym, ap, ◌∙◌}
use mathlib.Core.Bool.{Bool, true}
use mathlib.Core.List.Memᴰ
use mathlib.Core.List.{List, [], ◌∷◌, Memᴰ}
use mathlib.Core.List.Sublistᴰ
use mathlib.Core.List.{Sublistᴰ}
use mathlib.Core.Logic.{◌⊎◌, inl, inr, ◌↔◌}
use mathlib.Core.Option.{Option, none, some}
use Prim.Native.Nat.{ℕ, ◌≤◌, ◌<◌}
use native.Mathlib.Nat.{le_refl}
use native.Mathlib.Omega.{arith}
use borrow.Author.Tests.{lt-ltb, le-ltb}
use lib.ListN.{length, get_or}
use Rattle.ground.specs.Lists.{Every, filter, below}
use Rattle.ground.specs.Order.{Ordered}
use Rattle.std.specs.Prelude.{Ok}
use Rattle.ground.specs.Outcome.{taken_of}
use Rattle.ground.specs.Outcome.Outcome.{good}
use Rattle.ground.proofs.CountLaws.{split}
use Rattle.ground.proofs.ListLaws.{filter_mem, filter_from}
use Rattle.ground.proofs.EveryLaws.{every_at}
use Rattle.ground.proofs.NumbersLaws.{below_mem, below_from}
use Rattle.ground.proofs.OrderLaws.{numbers_ordered, ordered_filter}
use Rattle.contents.specs.Sites.{is_at, holds}
use Rattle.contents.specs.declared.envelope.Envelope.{Envelope}
use Rattle.envelopes.specs.Rules.{Within}
use Rattle.envelopes.specs.Envelope.{read_envelope, check_envelope}
use Rattle.envelopes.proofs.ExactEnvelope.{envelope_exact, check_sound}
use Rattle.paths.specs.Steps.{legal_steps, StepBefore}
use Rattle.paths.specs.declared.steps.Step.{Step}
use Rattle.paths.proofs.StepLaws.{legal_ordered}
use Rattle.papers.specs.Programs.{no_step}
use Rattle.estimates.specs.Profile.{local_profile}
use Rattle.estimates.specs.Costs.{plain_costs}
use Rattle.estimates.specs.Kind.{Kind, after_all, costs, total}
use Rattle.estimates.specs.Estimate.{kind_of, lines_of, line_steps, estimated}
use Rattle.estimates.specs.declared.costs.Costs.{Costs}
use Rattle.estimates.proofs.EstimateLaws.{step_tells, lines_steps}
use Rattle.planner.specs.Choice.{Handed, but_for, greedy, cheapest, steps_at, dropped, drops, dearest_first, site_among, fallback}
use Rattle.planner.specs.Plan.{sites_holding, site_for, greedy_steps, drops_at, after_drops, planned, plan_for, plan_of}
use Rattle.planner.specs.Promise.{GreedyProgram, CheapestSite, Turns, Drops, Fallback, PlannerPromise, PlanPromise, PlanKept, steps_in}
use Rattle.ground.proofs.SublistLaws.{part_mem, part_ordered, ordered_behind}
use Rattle.planner.proofs.ChoiceLaws.{Greedy, greedy_run, greedy_from, greedy_once, greedy_choice, greedy_stops, Cheapest, CheapestOf, cheapest_is, fallback_is, fallback_total}
use Rattle.planner.proofs.DropLaws.{dearest_member, dearest_ordered, dropped_one, drops_part, drops_lower, drops_keeps}
use Rattle.planner.proofs.PlanLaws.{some_site, plan_lines_lem, plan_legal, plan_once, plan_site, plan_total, plan_below, plan_sum}

module _ {P S : Type 0} (k : Kind P S) (start : P) where
  -- ---- the cheapest site

  module _ (sites : List ℕ) (rising : Ordered ◌<◌ sites) (p : P) where
    abbrev Dearer' : ℕ → ℕ → Type 0
    Dearer' site other =
        (other ≡ site) ⊎ ((k.assembly p site < k.assembly p other) ⊎ ((k.assembly p site ≡ k.assembly p other) × (site < other)))

    cheapest_site : (site : ℕ) → Cheapest k p sites site → CheapestSite k start sites p site
    cheapest_site site c =
        record {
          listed = rw c.stands (Memᴰ.append_right c.before (Memᴰ.head refl));
          cheapest = λ other m. go other (Memᴰ.append_cases c.before (rw c.stands at m));
        }
      where
        later : (other : ℕ) → Memᴰ other c.behind → Dearer' site other
        later other m =
            let h : k.assembly p site ≤ k.assembly p other = every_at (λ (b : ℕ). k.assembly p site ≤ k.assembly p b) c.behind c.no_cheaper m in
            let l : site < other = every_at (λ (b : ℕ). site < b) c.behind (ordered_behind ◌<◌ c.before (site ∷ c.behind) (rw c.stands at rising)).0 m in
            split (k.assembly p other) (k.assembly p site) (λ q. inr (inr (omega arith, l))) (λ q. inr (inl q))

        go : (other : ℕ) → Memᴰ other c.before ⊎ Memᴰ other (site ∷ c.behind) → Dearer' site other
        go other (inl m) = inr (inl (every_at (λ (b : ℕ). k.assembly p site < k.assembly p b) c.before c.dearer m))
        go other (inr m) = here (Memᴰ.cases_cons m)
          where
            here : (other ≡ site) ⊎ Memᴰ other c.behind → Dearer' site other
            here (inl q) = inl q
            here (inr n) = later other n

    -- there is a site
    pub site_among_lem : (a : ℕ) → Memᴰ a sites → CheapestSite k start sites p (site_among k p sites)
    site_among_lem a m = go (cheapest k p sites) (cheapest_is k p sites)
      where
        go : (o : Option ℕ) → CheapestOf k p sites o → CheapestSite k start sites p (elim o [ none ↦ 0 | some site ↦ site ])
        go none c = absurd (Memᴰ.not-nil (rw c at m))
        go (some site) c = cheapest_site site c

  -- ---- drops

  turns_hold : (site : ℕ) (steps : List ℕ → List S) (order kept : List ℕ) → Turns k start site steps order kept (dropped k start site steps order kept)
  turns_hold site steps [] kept = refl
  turns_hold site steps (i ∷ order) kept = go (dropped_one k start site steps i order kept) (turns_hold site steps order)
    where
      go : ((total k start site (steps (but_for i kept)) < total k start site (steps kept))
          × (dropped k start site steps (i ∷ order) kept ≡ dropped k start site steps order (but_for i kept)))
          ⊎ ((total k start site (steps kept) ≤ total k start site (steps (but_for i kept)))
          × (dropped k start site steps (i ∷ order) kept ≡ dropped k start site steps order kept))
          → ((l : List ℕ) → Turns k start site steps order l (dropped k start site steps order l))
          → Turns k start site steps (i ∷ order) kept (dropped k start site steps (i ∷ order) kept)
      go (inl (l, e)) ih = inl (l, rw e (ih (but_for i kept)))
      go (inr (l, e)) ih = inr (l, rw e (ih kept))

  drops_hold : (z : S) (here : S → Bool) (site : ℕ) (ss : List S) → Drops k start z here site ss (drops k z start site here ss)
  drops_hold z here site ss =
      record {
        order = dearest_first (costs k start ss) (length there) there;
        looked = λ i. (seen i, look i);
        dearest = dearest_ordered (costs k start ss) (length there) there (ordered_filter ◌<◌ _ (below (length ss)) (numbers_ordered 0 (length ss)));
        left = dropped k start site (steps_at z ss) (dearest_first (costs k start ss) (length there) there) (below (length ss));
        turns = turns_hold site (steps_at z ss) (dearest_first (costs k start ss) (length there) there) (below (length ss));
        kept = refl;
        elsewhere = drops_keeps k z start site here ss;
        lower = drops_lower k z start site here ss;
      }
    where
      there : List ℕ
      there = filter (λ i. here (get_or ss i z)) (below (length ss))

      seen : (i : ℕ) → Memᴰ i (dearest_first (costs k start ss) (length there) there) → (i < length ss) × (here (get_or ss i z) ≡ true)
      seen i m =
          let (n, e) = filter_from (λ j. here (get_or ss j z)) (below (length ss)) ((dearest_member (costs k start ss) (length there) there (le_refl _) i).1 m) in
          (below_from (length ss) n, e)

      look : (i : ℕ) → (i < length ss) × (here (get_or ss i z) ≡ true) → Memᴰ i (dearest_first (costs k start ss) (length there) there)
      look i (h, e) =
          (dearest_member (costs k start ss) (length there) there (le_refl _) i).0
          (filter_mem (λ j. here (get_or ss j z)) (below_mem i (length ss) h) e)

  -- ---- the fallback

  fallback_hold : (home : ℕ) (found : Handed S) → Fallback k start home found (fallback k start home found)
  fallback_hold home found =
      record {
        below = λ h. rw (lt-ltb (total k start found.site found.steps) (total k start home []) h);
        not_below = λ h. rw (le-ltb (total k start found.site found.steps) (total k start home []) h);
      }

  -- ---- the five points

  module _ (tells : (s t : S) → (k.same s t ≡ true) ↔ (s ≡ t)) (Before : S → S → Type 0) (allowed : List S) (ties : Ordered Before allowed) where
    abbrev chosen : List S
    chosen = greedy k (length allowed) allowed start

    run : Greedy k allowed start chosen
    run = greedy_run k tells (length allowed) allowed start (le_refl _)

    greedy_hold : GreedyProgram k start Before allowed chosen
    greedy_hold =
        record {
          lawful = λ s m. greedy_from k tells allowed start chosen run m;
          once = greedy_once k tells allowed start chosen run;
          above = λ front s rest e. (greedy_choice k tells Before allowed start front s rest ties (rw e at run)).0;
          first = λ front s rest e. (greedy_choice k tells Before allowed start front s rest ties (rw e at run)).1;
          stops = λ t m out. greedy_stops k tells allowed start chosen run m out;
        }

    module _ (sites : List ℕ) (rising : Ordered ◌<◌ sites) (a : ℕ) (some_one : Memᴰ a sites) (z : S) (here : ℕ → S → Bool) where
      abbrev home : ℕ
      home = site_among k start sites

      abbrev best : ℕ
      best = site_among k (after_all k start chosen) sites

      abbrev found : Handed S
      found = record { steps = drops k z start best (here best) chosen; site = best }

      handed_part : Sublistᴰ (fallback k start home found).steps chosen
      handed_part = go (fallback_is k start home found)
        where
          go : ((fallback k start home found ≡ found) × (total k start best found.steps < total k start home []))
              ⊎ (fallback k start home found ≡ record { steps = []; site = home })
              → Sublistᴰ (fallback k start home found).steps chosen
          go (inl (e, _)) = rw e (drops_part k z start best (here best) chosen)
          go (inr e) = rw e (Sublistᴰ.nil-sublist chosen)

      pub promise_kept : PlannerPromise k start Before allowed sites z here chosen home found (fallback k start home found)
      promise_kept =
          record {
            greedy = greedy_hold;
            site = site_among_lem sites rising (after_all k start chosen) a some_one;
            drops = drops_hold z (here best) best chosen;
            local = site_among_lem sites rising start a some_one;
            fallback = fallback_hold home found;
            lawful = λ s m. greedy_from k tells allowed start chosen run (part_mem handed_part m);
            once = part_ordered _ handed_part (greedy_once k tells allowed start chosen run);
            most = fallback_total k start home found;
          }

-- ---- with the estimate of 01

module _ (k : Costs) (e : Envelope) (w : Within e) where
  pub plan_promise : PlanPromise k e
  unfolding site_for greedy_steps drops_at after_drops planned
  plan_promise =
      promise_kept (kind_of k e) (local_profile e) step_tells StepBefore (legal_steps e) (legal_ordered e)
      (sites_holding e) (ordered_filter ◌<◌ (holds e) (below 8) (numbers_ordered 0 8))
      _ (some_site e w) no_step (λ site (s : Step). is_at e site s.left.relation)

  steps_are : steps_in (plan_for k e) ≡ (planned k e).steps
  steps_are = ap line_steps (plan_lines_lem k e) ∙ lines_steps k e (local_profile e) (planned k e).steps

  plan_kept : PlanKept k e (Ok (plan_for k e))
  unfolding plan_for estimated
  plan_kept =
      record {
        plan = plan_for k e;
        taken = refl;
        promise = plan_promise;
        steps = steps_are;
        site = refl;
        lines = plan_lines_lem k e ∙ ap (lines_of k e (local_profile e)) (sym steps_are);
        lawful = rw steps_are (plan_legal k e);
        once = rw steps_are (plan_once k e);
        held = plan_site k e w;
        assembly = rw steps_are;
        total = plan_sum k e;
        local = refl;
        most = plan_total k e;
        less = λ h. plan_below k e (λ q. h (steps_are ∙ q));
      }

-- ---- what plan and plan_paper hand out for an envelope that was taken

plan_holds : (e : Envelope) (p : ℕ) → Within e → PlanKept plain_costs e (taken_of (plan_of (good e p)))
unfolding plan_of taken_of
plan_holds e p w = plan_kept plain_costs e w

pub plan_checked : (e f : Envelope) (p : ℕ) → check_envelope e ≡ good f p → PlanKept plain_costs f (taken_of (plan_of (check_envelope e)))
plan_checked e f p h = rw h (plan_holds f p (check_sound e f p h).0.0)

pub plan_read : (s : List ℕ) → Every (λ (x : ℕ). x < 256) s → (f : Envelope) (p : ℕ) → read_envelope s ≡ good f p
    → PlanKept plain_costs f (taken_of (plan_of (read_envelope s)))
plan_read s b f p h = rw h (plan_holds f p ((envelope_exact s f p b).0 h).0.0)
