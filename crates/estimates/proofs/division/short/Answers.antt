use Rattle.estimates.proofs.DivisionCodeLaws.{Y_rows_left, Y_third, Y_all_left}
use borrow.Author.Rules.{rules}
use Rattle.estimates.proofs.division.short.Goals as goal

pub returns-then-r-m : goal.returns-then-r-m
returns-then-r-m c = search (Y_rows_left, rules)

pub returns-then-r-m-2 : goal.returns-then-r-m-2
returns-then-r-m-2 c = search (Y_third, rules)

pub returns : goal.returns
returns c = search (Y_all_left, rules)
