use borrow.Author.Rules.{rules}
use borrow.Author.Tests.{le-ltb, lt-ltb}
use Rattle.fields.proofs.NumberLaws.{that_refused, that_no, that_yes}
use Rattle.fields.proofs.numbers.number_below.Goals as goal

pub returns-in_err-value : goal.returns-in_err-value
returns-in_err-value c = search (that_refused, rules)

pub returns-then-limit-value : goal.returns-then-limit-value
returns-then-limit-value c = search (that_no, le-ltb, rules)

pub returns : goal.returns
returns c = search (that_yes, lt-ltb, rules)
