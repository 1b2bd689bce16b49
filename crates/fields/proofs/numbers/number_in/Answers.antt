use borrow.Author.Rules.{rules}
use Rattle.fields.proofs.NumberLaws.{that_refused, that_no, that_yes, between_low, between_high, between_in}
use Rattle.fields.proofs.numbers.number_in.Goals as goal

pub returns-in_err-value : goal.returns-in_err-value
returns-in_err-value c = search (that_refused, rules)

pub returns-then-value-low : goal.returns-then-value-low
returns-then-value-low c = search (that_no, between_low, between_high, rules)

pub returns : goal.returns
returns c = search (that_yes, between_in, rules)
