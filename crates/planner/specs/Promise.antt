-- What the planner promises, point by point of 01, over any kind of estimate. "Again and again, of the unused legal steps with
-- benefit above cost, append the one of greatest benefit minus cost; ties go to the smallest .. The cheapest site that holds
-- a relation, lowest number on a tie. Steps whose left relation is there, dearest first and earlier first on a tie: drop the
-- step if the total at that site, estimated anew, becomes strictly lower .. So the total handed out is never above the
-- local-only total." And what that says of the plan that is handed out.
use Rattle.std.specs.Prelude.{◌≡◌, Bool, true, false, ◌⊎◌, ◌↔◌, ℕ, ◌+◌, ◌≤◌, ◌<◌, length, slice_index, slice_index_or, take, Result, Ok}
use mathlib.Core.List.{List, [], ◌∷◌, ◌++◌, Memᴰ}
use Rattle.ground.specs.Lists.{Every, below, sum}
use Rattle.ground.specs.Order.{Ordered, Once}
use Rattle.ground.specs.declared.refusals.Refusal.{Refusal}
use Rattle.contents.specs.Sites.{is_at, holds}
use Rattle.contents.specs.declared.envelope.Envelope.{Envelope}
use Rattle.paths.specs.Steps.{legal, legal_steps, StepBefore}
use Rattle.paths.specs.declared.steps.Step.{Step}
use Rattle.papers.specs.Programs.{no_step}
use Rattle.estimates.specs.Profile.{local_profile}
use Rattle.estimates.specs.Costs.{assembly_at}
use Rattle.estimates.specs.Kind.{Kind, after_all, costs, total}
use Rattle.estimates.specs.Estimate.{kind_of, lines_of, line_steps, costs_in}
use Rattle.estimates.specs.declared.costs.Costs.{Costs}
use Rattle.estimates.specs.declared.lines.Line.{Line}
use Rattle.planner.specs.Choice.{Handed, but_for, gain, steps_at}
use Rattle.planner.specs.Plan.{sites_holding, site_for, greedy_steps, after_drops, planned}
use Rattle.planner.specs.declared.plans.Plan.{Plan}

-- number i costs more than number j, or the same and is earlier
abbrev pub Dearer : List ℕ → ℕ → ℕ → Type 0
Dearer cs i j = (slice_index cs j < slice_index cs i) ⊎ ((slice_index cs i ≡ slice_index cs j) × (i < j))

-- ---- over any kind of estimate: start is the state behind local operations, allowed the legal steps in the order of ties

module _ {P S : Type 0} (k : Kind P S) (start : P) where
  -- the greedy program
  pub record GreedyProgram (Before : S → S → Type 0) (allowed ss : List S) : Type 0 where
    pub lawful : (s : S) → Memᴰ s ss → Memᴰ s allowed
    pub once : Once ss
    -- each step, in the state that those before it leave, brings more than it costs
    pub above : (front : List S) (s : S) (rest : List S) → ss ≡ front ++ s ∷ rest
        → k.cost (after_all k start front) s < k.benefit (after_all k start front) s
    -- and of those unused by then any other gains less, or the same and comes later
    pub first : (front : List S) (s : S) (rest : List S) → ss ≡ front ++ s ∷ rest → (t : S) → Memᴰ t allowed
        → (Memᴰ t front → ⊥)
        → (t ≡ s)
        ⊎ ((gain k (after_all k start front) t < gain k (after_all k start front) s)
        ⊎ ((gain k (after_all k start front) t ≡ gain k (after_all k start front) s) × Before s t))
    -- at the end none that is unused brings more than it costs
    pub stops : (t : S) → Memᴰ t allowed → (Memᴰ t ss → ⊥)
        → k.benefit (after_all k start ss) t ≤ k.cost (after_all k start ss) t

  -- of some sites the cheapest in a state, the lowest on a tie
  pub record CheapestSite (sites : List ℕ) (p : P) (site : ℕ) : Type 0 where
    pub listed : Memᴰ site sites
    pub cheapest : (other : ℕ) → Memᴰ other sites
        → (other ≡ site)
        ⊎ ((k.assembly p site < k.assembly p other) ⊎ ((k.assembly p site ≡ k.assembly p other) × (site < other)))

  -- one number after the other is looked at: its step is dropped exactly where that makes the total strictly lower
  abbrev pub Turns : ℕ → (List ℕ → List S) → List ℕ → List ℕ → List ℕ → Type 0
  Turns site steps [] kept left = left ≡ kept
  Turns site steps (i ∷ order) kept left =
      ((total k start site (steps (but_for i kept)) < total k start site (steps kept))
      × Turns site steps order (but_for i kept) left)
      ⊎ ((total k start site (steps kept) ≤ total k start site (steps (but_for i kept)))
      × Turns site steps order kept left)

  -- what drops at a site leave of a program: of its steps those are looked at whose left relation is there
  pub record Drops (z : S) (here : S → Bool) (site : ℕ) (ss out : List S) : Type 0 where
    pub order : List ℕ
    pub looked : (i : ℕ) → Memᴰ i order ↔ ((i < length ss) × (here (slice_index_or ss i z) ≡ true))
    pub dearest : Ordered (Dearer (costs k start ss)) order
    pub left : List ℕ
    pub turns : Turns site (steps_at z ss) order (below (length ss)) left
    pub kept : out ≡ steps_at z ss left
    -- so those whose left relation is elsewhere stay, and where a step is dropped, the total is strictly lower
    pub elsewhere : (s : S) → Memᴰ s ss → here s ≡ false → Memᴰ s out
    pub lower : (out ≡ ss) ⊎ (total k start site out < total k start site ss)

  abbrev pub total_of : Handed S → ℕ
  total_of h = total k start h.site h.steps

  -- the fallback
  pub record Fallback (home : ℕ) (found out : Handed S) : Type 0 where
    pub below : total_of found < total k start home [] → out ≡ found
    pub not_below : total k start home [] ≤ total_of found → out ≡ record { steps = []; site = home }

  -- points 2 to 5, and what is handed out
  pub record PlannerPromise (Before : S → S → Type 0) (allowed : List S) (sites : List ℕ) (z : S) (here : ℕ → S → Bool)
      (chosen : List S) (home : ℕ) (found out : Handed S) : Type 0 where
    pub greedy : GreedyProgram Before allowed chosen
    pub site : CheapestSite sites (after_all k start chosen) found.site
    pub drops : Drops z (here found.site) found.site chosen found.steps
    pub local : CheapestSite sites start home
    pub fallback : Fallback home found out
    pub lawful : (s : S) → Memᴰ s out.steps → Memᴰ s allowed
    pub once : Once out.steps
    pub most : total_of out ≤ total k start home []

-- ---- with the estimate of 01

abbrev pub PlanPromise : Costs → Envelope → Type 0
PlanPromise k e =
    PlannerPromise (kind_of k e) (local_profile e) StepBefore (legal_steps e) (sites_holding e) no_step
    (λ site (s : Step). is_at e site s.left.relation)
    (greedy_steps k e) (site_for k e (local_profile e)) (after_drops k e) (planned k e)

abbrev pub lines_in : Plan → List Line
lines_in x = take x.count x.lines

abbrev pub steps_in : Plan → List Step
steps_in x = line_steps (lines_in x)

-- there is a plan, and it has the steps and the site that are promised, each step with its benefit and cost in the profile that the steps
-- before it leave
pub record PlanKept (k : Costs) (e : Envelope) (r : Result Plan Refusal) : Type 0 where
  pub plan : Plan
  pub taken : r ≡ Ok plan
  pub promise : PlanPromise k e
  pub steps : steps_in plan ≡ (planned k e).steps
  pub site : plan.site ≡ (planned k e).site
  pub lines : lines_in plan ≡ lines_of k e (local_profile e) (steps_in plan)
  pub lawful : Every (λ (s : Step). legal e s ≡ true) (steps_in plan)
  pub once : Once (steps_in plan)
  pub held : holds e plan.site ≡ true
  pub assembly : plan.assembly ≡ assembly_at k e (after_all (kind_of k e) (local_profile e) (steps_in plan)) plan.site
  pub total : plan.total ≡ sum (costs_in (lines_in plan)) + plan.assembly
  pub local : plan.local ≡ assembly_at k e (local_profile e) (site_for k e (local_profile e))
  pub most : plan.total ≤ plan.local
  pub less : (steps_in plan ≡ [] → ⊥) → plan.total < plan.local
