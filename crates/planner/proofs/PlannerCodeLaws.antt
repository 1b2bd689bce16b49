-- The laws that the code of the planner goes by: every program on the way is one that a reader would accept, and what each
-- return answers.
use mathlib.Core.Path.{◌≡◌, sym, ap, ◌∙◌}
use mathlib.Core.List.Sublistᴰ
use mathlib.Core.List.{List, Memᴰ, Sublistᴰ}
use Prim.Native.Nat.{ℕ, ◌≤◌, ◌<◌}
use native.Mathlib.Omega.{arith}
use borrow.Author.Tests.{lt-ltb, le-ltb}
use lib.ListN.{length, get_or, replicate}
use Rattle.ground.specs.Lists.{below}
use Rattle.std.specs.Prelude.{Result, Ok, Err}
use Rattle.ground.specs.Outcome.{Outcome, taken_of}
use Rattle.ground.specs.declared.refusals.Refusal.{Refusal}
use Rattle.ground.proofs.OutcomeLaws.{value_good, call_ends, call_goes}
use Rattle.ground.proofs.ListLaws.{filter_from}
use Rattle.ground.proofs.EveryLaws.{every_index}
use Rattle.ground.proofs.CollectingLaws.{padded_nil}
use Rattle.contents.specs.Sites.{holds}
use Rattle.envelopes.specs.Rules.{Within, tidy}
use Rattle.envelopes.specs.Envelope.{read_envelope, check_envelope}
use Rattle.contents.specs.declared.envelope.Envelope.{Envelope}
use Rattle.envelopes.proofs.ExactEnvelope.{envelope_exact, check_sound}
use Rattle.papers.specs.Programs.{no_step, steps_of, program_with, Acceptable}
use Rattle.paths.specs.declared.steps.Step.{Step}
use Rattle.papers.specs.declared.programs.Program.{Program}
use Rattle.estimates.specs.Profile.{local_profile}
use Rattle.estimates.specs.Costs.{plain_costs, assembly_at}
use Rattle.estimates.specs.Kind.{after_all, total}
use Rattle.estimates.specs.Estimate.{kind_of, no_line, estimated}
use Rattle.planner.specs.Plan.{sites_holding, site_for, greedy_steps, drops_at, after_drops, planned, plan_for, plan_of}
use Rattle.estimates.specs.Ready.{Ready}
use Rattle.estimates.specs.Ready.{Bounded}
use Rattle.planner.specs.Few.{shown_few}
use Rattle.estimates.specs.declared.profiles.Profile.{Profile}
use Rattle.estimates.specs.declared.costs.Costs.{Costs}
use Rattle.estimates.specs.declared.lines.Line.{Line}
use Rattle.planner.specs.declared.plans.Plan.{Plan}
use Rattle.estimates.specs.declared.lines.Estimate.{Estimate}
use Rattle.planner.specs.declared.choice.Greedy.{Greedy}
use Rattle.estimates.proofs.EstimateLaws.{estimated_whole}
use Rattle.planner.proofs.PlanLaws.{part_legal, part_few, site_chosen, after_drops_part, after_drops_site, plan_part, plan_site_chosen}
use Rattle.planner.proofs.SiteCodeLaws.{after_sited}
use Rattle.planner.proofs.DropCodeLaws.{with_steps, with_acceptable}

module _ (k : Costs) (e : Envelope) (local : Profile) (w : Ready k e local) where
  -- a part of the greedy program at a site that holds a relation
  part_acceptable : (site : ℕ) → Memᴰ site (sites_holding e) → (ss : List Step) → Sublistᴰ ss (greedy_steps k e)
      → Acceptable e (program_with site ss)
  part_acceptable site m ss h =
      with_acceptable e site ss (filter_from (holds e) (below 8) m).1 (part_few k e w.within ss h) (part_legal k e ss h)

  -- ---- the greedy program at its cheapest site, and drops

  module _ (g : Greedy)
      (u : g ≡ record { steps = shown_few no_step (greedy_steps k e); profile = after_all (kind_of k e) (local_profile e) (greedy_steps k e) }) where
    pub greedy_sited : Bounded k g.profile × ((site : ℕ) → assembly_at k e g.profile site < 16320000001)
    greedy_sited =
        after_sited k e local w g.profile (greedy_steps k e) (ap (λ (x : Greedy). x.profile) u)
        (part_legal k e (greedy_steps k e) (Sublistᴰ.refl (greedy_steps k e)))

    module _ (site : ℕ) (v : site ≡ site_for k e g.profile) (p : Program)
        (f : p ≡ record { site = site; count = g.steps.count; steps = g.steps.all }) where
      program_is : p ≡ program_with site (greedy_steps k e)
      unfolding shown_few
      program_is = f ∙ rw u

      pub greedy_acceptable : Acceptable e p
      greedy_acceptable =
          rw (program_is, v)
          (part_acceptable (site_for k e g.profile) (site_chosen k e g.profile w.within) (greedy_steps k e) (Sublistᴰ.refl (greedy_steps k e)))

      pub after_drops_is : (r : Program) → r ≡ program_with p.site (drops_at k e p.site (steps_of p))
          → r ≡ program_with (after_drops k e).site (after_drops k e).steps
      unfolding after_drops
      after_drops_is r h =
          h ∙ ap (λ (q : Program). program_with q.site (drops_at k e q.site (steps_of q))) program_is
          ∙ rw (with_steps e site (greedy_steps k e), v, u)

  -- ---- the fallback

  module _ (home alone : ℕ) (a : home ≡ site_for k e local) (b : alone ≡ assembly_at k e local home)
      (p : Program) (u : p ≡ program_with (after_drops k e).site (after_drops k e).steps) where
    pub after_drops_acceptable : Acceptable e p
    after_drops_acceptable = rw u (part_acceptable (after_drops k e).site (after_drops_site k e w.within) (after_drops k e).steps (after_drops_part k e))

    module _ (x : Estimate) (v : x ≡ estimated k e (steps_of p) p.site) where
      total_after_drops : x.total ≡ total (kind_of k e) (local_profile e) (after_drops k e).site (after_drops k e).steps
      total_after_drops =
          estimated_whole k e (steps_of p) p.site x v ∙ rw (u, with_steps e (after_drops k e).site (after_drops k e).steps)

      alone_home : alone ≡ assembly_at k e (local_profile e) (site_for k e (local_profile e))
      alone_home = b ∙ rw (a, w.local)

      pub planned_below : x.total < alone → p ≡ program_with (planned k e).site (planned k e).steps
      unfolding planned
      planned_below h =
          u ∙ rw (lt-ltb (total (kind_of k e) (local_profile e) (after_drops k e).site (after_drops k e).steps)
          (assembly_at k e (local_profile e) (site_for k e (local_profile e))) (omega (arith, total_after_drops, alone_home)))

      pub planned_home : alone ≤ x.total → (z : Step) → z ≡ no_step
          → ◌≡◌ {A = Program} (record { site = home; count = 0; steps = replicate 156 z }) (program_with (planned k e).site (planned k e).steps)
      unfolding planned
      planned_home h z f =
          rw (
            le-ltb (total (kind_of k e) (local_profile e) (after_drops k e).site (after_drops k e).steps)
                (assembly_at k e (local_profile e) (site_for k e (local_profile e))) (omega (arith, total_after_drops, alone_home)),
            f,
            a,
            w.local,
            padded_nil 156 no_step,
          )

  -- ---- what is handed out

  module _ (p : Program) (u : p ≡ program_with (planned k e).site (planned k e).steps) where
    pub planned_acceptable : Acceptable e p
    planned_acceptable = rw u (part_acceptable (planned k e).site (plan_site_chosen k e w.within) (planned k e).steps (plan_part k e))

    pub plan_is : (x : Estimate) → x ≡ estimated k e (steps_of p) p.site → (home alone : ℕ) → home ≡ site_for k e local
        → alone ≡ assembly_at k e local home
        → ◌≡◌ {A = Plan}
        (record {
          site = p.site;
          count = x.count;
          lines = x.lines;
          assembly = x.assembly;
          total = x.total;
          local = alone;
        })
        (plan_for k e)
    unfolding plan_for estimated
    plan_is x v home alone a b =
        rw (v, u, with_steps e (planned k e).site (planned k e).steps, b, a, w.local)

pub plain_plan : (e : Envelope) (k : Costs) → k ≡ plain_costs → (x : Plan) → x ≡ plan_for k e → x ≡ plan_for plain_costs e
plain_plan e k f x g = g ∙ rw f

-- ---- the envelope is checked, or read, first

module _ (o : Outcome Envelope) (r : Result Envelope Refusal) (g : r ≡ taken_of o) where
  pub plan_refused : (x : Refusal) → r ≡ Err x → Err x ≡ taken_of (plan_of o)
  unfolding plan_of
  plan_refused x h = call_ends o _ r g x h

  pub plan_taken : (e : Envelope) → r ≡ Ok e → (x : Plan) → x ≡ plan_for plain_costs e → Ok x ≡ taken_of (plan_of o)
  unfolding plan_of taken_of
  plan_taken e h x u = call_goes o _ r g e (Ok x) h (λ p f. ap Ok u)

pub good_envelope : (e : Envelope) (r : Result Envelope Refusal) → r ≡ taken_of (check_envelope e) → (c : Envelope) → r ≡ Ok c
    → Within c × (tidy c ≡ c)
good_envelope e r g c h = let (p, o) = value_good (check_envelope e) r c g h in (check_sound e c p o).0

pub good_paper : (s : List ℕ) → ((i : ℕ) → i < length s → get_or s i 0 < 256) → (r : Result Envelope Refusal) → r ≡ taken_of (read_envelope s)
    → (c : Envelope) → r ≡ Ok c → Within c × (tidy c ≡ c)
good_paper s b r g c h =
    let (p, o) = value_good (read_envelope s) r c g h in
    ((envelope_exact s c p (every_index (λ (x : ℕ). x < 256) 0 s b)).0 o).0
