use native.Mathlib.Omega.{arith}
use borrow.Author.Rules.{rules}
use Rattle.envelopes.specs.Envelope.{read_envelope}
use Rattle.planner.proofs.PlannerCodeLaws.{good_paper, plan_refused, plan_taken}
use Rattle.planner.proofs.planner.plan_paper.Goals as goal

pub returns-in_err-taken : goal.returns-in_err-taken
returns-in_err-taken c = search (plan_refused, rules)

pub plan_plainly-requires : goal.plan_plainly-requires
plan_plainly-requires c =
    good_paper c.args.s.now (λ i h. omega (arith, c.type_inv.s i)) _ c.read_envelope.ensures _ c.in_ok-taken.was

pub returns : goal.returns
returns c = plan_taken (read_envelope c.args.s.now) _ c.read_envelope.ensures _ c.in_ok-taken.was _ c.plan_plainly.ensures
