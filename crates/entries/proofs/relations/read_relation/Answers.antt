use Rattle.fields.proofs.NumberLaws.{read_in}
use Rattle.entries.proofs.RelationCodeLaws.{relation_no_site, relation_no_count, relation_no_rows, relation_is}
use native.Mathlib.Omega.{arith}
use Rattle.ground.proofs.OutcomeLaws.{exits}
use borrow.Author.Rules.{rules}
use Rattle.entries.proofs.relations.read_relation.Goals as goal

pub returns-in_err-site : goal.returns-in_err-site
returns-in_err-site c = search (relation_no_site, rules)

pub returns-in_err-columns : goal.returns-in_err-columns
returns-in_err-columns c =
    exits _ _ _ c.from_residual-in_err-columns.ensures.1 (search (relation_no_count, c.in_ok-site.was, c.in_err-columns.was, rules))

pub returns-in_err-rows : goal.returns-in_err-rows
returns-in_err-rows c =
    exits _ _ _ c.from_residual-in_err-rows.ensures.1 (search (relation_no_rows, c.in_ok-site.was, c.in_ok-columns.was, c.in_err-rows.was, rules))

pub returns : goal.returns
returns c = search (relation_is, c.in_ok-site.was, c.in_ok-columns.was, c.in_ok-rows.was, rules)

pub overflow_cast-site : goal.overflow_cast-site
overflow_cast-site c = omega (arith, read_in _ _ _ _ _ _ c.in_ok-site.was _ _ c.number_in.ensures)

pub overflow_cast-columns : goal.overflow_cast-columns
overflow_cast-columns c = omega (arith, read_in _ _ _ _ _ _ c.in_ok-columns.was _ _ c.number_in-2.ensures)

pub read_columns-requires : goal.read_columns-requires
read_columns-requires c = omega (arith, read_in _ _ _ _ _ _ c.in_ok-columns.was _ _ c.number_in-2.ensures)
