use borrow.Author.Rules.{rules}
use Rattle.envelopes.specs.Envelope.{check_envelope}
use Rattle.planner.proofs.PlannerCodeLaws.{good_envelope, plan_refused, plan_taken}
use Rattle.planner.proofs.planner.plan.Goals as goal

pub returns-in_err-checked : goal.returns-in_err-checked
returns-in_err-checked c = search (plan_refused, rules)

pub plan_plainly-requires : goal.plan_plainly-requires
plan_plainly-requires c = good_envelope c.args.envelope _ c.check_envelope.ensures _ c.in_ok-checked.was

pub returns : goal.returns
returns c = plan_taken (check_envelope c.args.envelope) _ c.check_envelope.ensures _ c.in_ok-checked.was _ c.plan_plainly.ensures
