use Rattle.boundary.proofs.AnswerLaws.{word_below, word_beyond}
use borrow.Author.Rules.{rules}
use Rattle.boundary.proofs.answers.as_word.Goals as goal

pub returns-then-n-lt4294967295 : goal.returns-then-n-lt4294967295
returns-then-n-lt4294967295 c = search (word_below, rules)

pub returns-else-n-lt4294967295 : goal.returns-else-n-lt4294967295
returns-else-n-lt4294967295 c = search (word_beyond, rules)
