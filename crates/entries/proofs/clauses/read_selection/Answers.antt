use Rattle.entries.proofs.ClauseCodeLaws.{selection_no_place, selection_no_value, selection_is}
use borrow.Author.Rules.{rules}
use Rattle.entries.proofs.clauses.read_selection.Goals as goal

pub returns-in_err-place : goal.returns-in_err-place
returns-in_err-place c = search (selection_no_place, rules)

pub returns-in_err-value : goal.returns-in_err-value
returns-in_err-value c = search (selection_no_value, rules)

pub returns : goal.returns
returns c = search (selection_is, rules)
