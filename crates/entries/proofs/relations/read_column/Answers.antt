use Rattle.fields.proofs.NumberLaws.{read_below, read_in}
use Rattle.entries.proofs.RelationCodeLaws.{column_no_domain, column_no_width, column_no_distinct, column_is}
use native.Mathlib.Omega.{arith}
use Rattle.ground.proofs.OutcomeLaws.{exits}
use borrow.Author.Rules.{rules}
use Rattle.entries.proofs.relations.read_column.Goals as goal

pub returns-in_err-domain : goal.returns-in_err-domain
returns-in_err-domain c = search (column_no_domain, rules)

pub returns-in_err-width : goal.returns-in_err-width
returns-in_err-width c =
    exits _ _ _ c.from_residual-in_err-width.ensures.1 (search (column_no_width, c.in_ok-domain.was, c.in_err-width.was, rules))

pub returns-in_err-distinct : goal.returns-in_err-distinct
returns-in_err-distinct c =
    exits _ _ _ c.from_residual-in_err-distinct.ensures.1 (search (column_no_distinct, c.in_ok-domain.was, c.in_ok-width.was, c.in_err-distinct.was, rules))

pub overflow_cast-column : goal.overflow_cast-column
overflow_cast-column c = omega (arith, read_below _ _ _ _ _ _ c.in_ok-domain.was _ c.number_below.ensures)

pub overflow_cast-column-2 : goal.overflow_cast-column-2
overflow_cast-column-2 c = omega (arith, read_in _ _ _ _ _ _ c.in_ok-width.was _ _ c.number_in.ensures)

pub returns : goal.returns
returns c = search (column_is, c.in_ok-domain.was, c.in_ok-width.was, c.in_ok-distinct.was, rules)
