use Rattle.fields.proofs.PutLaws.{sets_out, put_width, put_one, put_four}
use borrow.Author.Rules.{rules}
use Rattle.fields.proofs.puts.put_number.Goals as goal

pub returns-then-out-at : goal.returns-then-out-at
returns-then-out-at c = search (sets_out, rules)

pub returns-in-One : goal.returns-in-One
returns-in-One c = search (put_width, put_one, rules)

pub returns-in-Four : goal.returns-in-Four
returns-in-Four c = search (put_width, put_four, rules)

pub returns-in-Two : goal.returns-in-Two
returns-in-Two c = search (put_width, rules)
