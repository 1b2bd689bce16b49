use native.Mathlib.Omega.{arith}
use borrow.Author.Rules.{rules}
use Rattle.paths.proofs.LabelCodeLaws.{constant_place, constant_few}
use Rattle.paths.proofs.labels.constant_number.Goals as goal

pub overflow_add-result : goal.overflow_add-result
overflow_add-result c = let a = c.args in
    omega (
      arith,
      constant_few a.envelope.now a.domain a.value _ c.clauses_in_use-clauses.ensures _ c.first_that_selects-first.ensures _ c.unwrap_or.ensures,
    )

pub returns : goal.returns
returns c = search (constant_place, rules)
