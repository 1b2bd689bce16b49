-- The calls that plan and estimate: the program handed out for an envelope, written; and what a program is expected to cost, in
-- words: benefit and cost of each step, then assembly and total, each number as two words, the low one first.
use Rattle.std.specs.Prelude.{ℕ, ◌%◌, ◌/◌, List, [], ◌∷◌, ◌++◌, take}
use Rattle.ground.specs.Lists.{each}
use Rattle.ground.specs.Least.{top}
use Rattle.ground.specs.Outcome.{Outcome, next, leaves}
use Rattle.fields.specs.Puts.{fitted}
use Rattle.envelopes.specs.Envelope.{read_envelope}
use Rattle.papers.specs.Programs.{no_program, write_program_of}
use Rattle.papers.specs.Checks.{papers_of}
use Rattle.papers.specs.declared.programs.Program.{Program}
use Rattle.estimates.specs.Estimate.{line_steps, estimate_of}
use Rattle.planner.specs.Plan.{plan_of}
use Rattle.estimates.specs.declared.lines.Line.{Line}
use Rattle.planner.specs.declared.plans.Plan.{Plan}
use Rattle.estimates.specs.declared.lines.Estimate.{Estimate}
use Rattle.boundary.specs.Given.{papers_in}

-- ---- the program handed out

unfoldable pub program_of : Plan → Program
program_of x = record { site = x.site; count = x.count; steps = line_steps x.lines }

-- for an envelope that is refused, the empty one
unfoldable pub program_for : List ℕ → Program
program_for s = leaves program_of no_program (plan_of (read_envelope s))

-- written as any program is, so checked first
unfoldable pub plan_from : List ℕ → ℕ → Outcome (List ℕ)
plan_from s room = next (read_envelope s) (λ e _. write_program_of e (program_for s) room)

-- ---- the estimate

-- a number as two words
unfoldable pub pair_of : ℕ → List ℕ
pair_of n = n % top ∷ n / top ∷ []

unfoldable pub line_words : Line → List ℕ
line_words l = pair_of l.benefit ++ pair_of l.cost

unfoldable pub estimate_words : Estimate → List ℕ
estimate_words x = each line_words (take x.count x.lines) ++ (pair_of x.assembly ++ pair_of x.total)

-- a refusal, or these words
unfoldable pub estimate_with : Outcome Estimate → ℕ → Outcome (List ℕ)
estimate_with o room = next o (λ x _. fitted room (estimate_words x))

unfoldable pub estimate_from : List ℕ → List ℕ → ℕ → Outcome (List ℕ)
estimate_from e p room =
    next (papers_in e p)
    (λ q _. estimate_with (estimate_of (papers_of q.envelope q.program)) room)
