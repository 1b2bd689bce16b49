-- "1. Local operations.", then points 2 to 5 of Choice, with the estimate of 01: from an envelope to the program with each step's
-- benefit and cost in the program handed out, the site, assembly, total and local-only total.
use Rattle.std.specs.Prelude.{List, ℕ, length}
use Rattle.ground.specs.Lists.{filter, below}
use Rattle.ground.specs.Outcome.{Outcome, next}
use Rattle.ground.specs.Outcome.Outcome.{good}
use Rattle.contents.specs.Sites.{is_at, holds}
use Rattle.contents.specs.declared.envelope.Envelope.{Envelope}
use Rattle.paths.specs.Steps.{legal_steps}
use Rattle.papers.specs.Programs.{no_step}
use Rattle.paths.specs.declared.steps.Step.{Step}
use Rattle.estimates.specs.Profile.{local_profile}
use Rattle.estimates.specs.Costs.{plain_costs, assembly_at}
use Rattle.estimates.specs.Kind.{after_all}
use Rattle.estimates.specs.Estimate.{kind_of, estimated}
use Rattle.planner.specs.Choice.{Handed, greedy, site_among, drops, fallback}
use Rattle.estimates.specs.declared.profiles.Profile.{Profile}
use Rattle.estimates.specs.declared.costs.Costs.{Costs}
use Rattle.estimates.specs.declared.lines.Estimate.{Estimate}
use Rattle.planner.specs.declared.plans.Plan.{Plan}

-- ---- points 2 to 5; point 1, local operations, is local_profile of estimates

-- the sites that hold a relation, lowest first
abbrev pub sites_holding : Envelope → List ℕ
sites_holding e = filter (holds e) (below 8)

-- the cheapest site that holds a relation
unfoldable pub site_for : Costs → Envelope → Profile → ℕ
site_for k e p = site_among (kind_of k e) p (sites_holding e)

unfoldable pub greedy_steps : Costs → Envelope → List Step
greedy_steps k e = greedy (kind_of k e) (length (legal_steps e)) (legal_steps e) (local_profile e)

-- what drops leave of a program: of its steps those whose left relation is at the site are looked at
unfoldable pub drops_at : Costs → Envelope → ℕ → List Step → List Step
drops_at k e site ss = drops (kind_of k e) no_step (local_profile e) site (λ (s : Step). is_at e site s.left.relation) ss

-- the greedy program at its cheapest site, after drops
unfoldable pub after_drops : Costs → Envelope → Handed Step
after_drops k e =
    let ss = greedy_steps k e in
    let site = site_for k e (after_all (kind_of k e) (local_profile e) ss) in
    record { steps = drops_at k e site ss; site = site }

unfoldable pub planned : Costs → Envelope → Handed Step
planned k e = fallback (kind_of k e) (local_profile e) (site_for k e (local_profile e)) (after_drops k e)

-- ---- what is handed out

unfoldable pub plan_for : Costs → Envelope → Plan
plan_for k e =
    let h = planned k e in
    let x = estimated k e h.steps h.site in
    record {
      site = h.site;
      count = x.count;
      lines = x.lines;
      assembly = x.assembly;
      total = x.total;
      local = assembly_at k e (local_profile e) (site_for k e (local_profile e));
    }

-- an estimate at its site, beside the total of local operations alone
abbrev pub told : Estimate → ℕ → ℕ → Plan
told x site alone =
    record { site = site; count = x.count; lines = x.lines; assembly = x.assembly; total = x.total; local = alone }

-- ---- of an envelope that is read, or a struct that is checked, first

unfoldable pub plan_of : Outcome Envelope → Outcome Plan
plan_of o = next o (λ e p. good (plan_for plain_costs e) p)
