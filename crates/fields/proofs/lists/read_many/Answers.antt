use native.Mathlib.Omega.{arith}
use borrow.Author.Rules.{rules}
use Rattle.ground.proofs.FillingLaws.{filling_start}
use Rattle.ground.proofs.OutcomeLaws.{exits}
use Rattle.fields.proofs.ListCodeLaws.{many_more, many_bad, many_done}
use Rattle.fields.proofs.lists.read_many.Goals as goal

pub loop-i-init : goal.loop-i-init
loop-i-init g c = (omega arith, λ item h. filling_start _ _ (λ _. item) _ _ (omega arith))

pub returns-in_err-value : goal.returns-in_err-value
returns-in_err-value g c =
    λ item h. exits _ _ _ c.from_residual.ensures.1
    (many_bad _ _ _ _ item _ _ _ (c.loop-i.invariant.1 item h) (omega arith) c.read.result (h _ _ c.loop-i.invariant.0 c.read.ensures) _ c.in_err-value.was)

pub loop-i-preserved : goal.loop-i-preserved
loop-i-preserved g c =
    (search rules, λ item h. many_more _ _ _ _ item _ _ _ (c.loop-i.invariant.1 item h) (omega arith) c.read.result (h _ _ c.loop-i.invariant.0 c.read.ensures) _ _ c.in_ok-value.was)

pub returns : goal.returns
returns g c = λ item h. many_done _ _ _ _ item _ _ _ (c.loop-i.invariant.1 item h) (omega arith)
