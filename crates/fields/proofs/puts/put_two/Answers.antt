use Rattle.fields.proofs.PutLaws.{sets_out, put_two}
use borrow.Author.Rules.{rules}
use Rattle.fields.proofs.puts.put_two.Goals as goal

pub returns-then-out-at : goal.returns-then-out-at
returns-then-out-at c = search (sets_out, rules)

pub returns : goal.returns
returns c = search (put_two, rules)
