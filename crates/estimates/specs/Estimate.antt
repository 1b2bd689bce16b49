-- The estimate of a given program: each step's benefit and cost, assembly and the total, with the formulas of 01 put in for
-- the kind of estimate.
use Rattle.std.specs.Prelude.{Bool, ◌&&◌, List, [], ◌∷◌, map, ℕ, length}
use Rattle.ground.specs.Lists.{padded}
use Rattle.ground.specs.Outcome.{Outcome, next}
use Rattle.ground.specs.Outcome.Outcome.{good}
use Rattle.entries.specs.Places.{same_place}
use Rattle.contents.specs.declared.envelope.Envelope.{Envelope}
use Rattle.papers.specs.Programs.{no_step, steps_of}
use Rattle.paths.specs.declared.steps.Step.{Step}
use Rattle.papers.specs.declared.checks.Papers.{Papers}
use Rattle.estimates.specs.Profile.{benefit, after_step, local_profile}
use Rattle.estimates.specs.Costs.{plain_costs, step_cost, assembly_at}
use Rattle.estimates.specs.Kind.{Kind, after_all, total}
use Rattle.estimates.specs.declared.profiles.Profile.{Profile}
use Rattle.estimates.specs.declared.costs.Costs.{Costs}
use Rattle.estimates.specs.declared.lines.Line.{Line}
use Rattle.estimates.specs.declared.lines.Estimate.{Estimate}

-- ---- the kind of estimate

unfoldable pub same_step : Step → Step → Bool
same_step s t = same_place s.left t.left && same_place s.right t.right

abbrev pub kind_of : Costs → Envelope → Kind Profile Step
kind_of k e =
    record {
      benefit = benefit e;
      cost = step_cost k e;
      after = after_step e;
      assembly = assembly_at k e;
      same = same_step;
    }

-- ---- a program at a site

abbrev pub line : Step → ℕ → ℕ → Line
line s b c = record { step = s; benefit = b; cost = c }

-- what stands behind the last line
abbrev pub no_line : Line
no_line = line no_step 0 0

unfoldable pub lines_of : Costs → Envelope → Profile → List Step → List Line
lines_of k e p [] = []
lines_of k e p (s ∷ ss) = line s (benefit e p s) (step_cost k e p s) ∷ lines_of k e (after_step e p s) ss

-- the steps and the costs in some lines
unfoldable pub line_steps : List Line → List Step
line_steps lines = map (λ (l : Line). l.step) lines

abbrev pub costs_in : List Line → List ℕ
costs_in lines = map (λ (l : Line). l.cost) lines

-- a program at a site, with what it is expected to cost
unfoldable pub estimated : Costs → Envelope → List Step → ℕ → Estimate
estimated k e ss site =
    let p = local_profile e in
    record {
      count = length ss;
      lines = padded 156 no_line (lines_of k e p ss);
      assembly = assembly_at k e (after_all (kind_of k e) p ss) site;
      total = total (kind_of k e) p site ss;
    }

-- ---- of an envelope and a program that are structs: they are checked first

unfoldable pub estimate_of : Outcome Papers → Outcome Estimate
estimate_of o = next o (λ q p. good (estimated plain_costs q.envelope (steps_of q.program) q.program.site) p)
