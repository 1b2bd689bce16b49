use borrow.Author.Rules.{rules}
use borrow.Author.Tests.{leb-false, leb-true}
use Rattle.fields.proofs.NumberLaws.{number_short, number_is, two_bytes}
use Rattle.fields.proofs.reader.two_at.Goals as goal

pub returns-then-not-reaches : goal.returns-then-not-reaches
returns-then-not-reaches c = search (number_short, leb-false, rules)

pub returns : goal.returns
returns c = search (number_is, two_bytes, leb-true, rules)
