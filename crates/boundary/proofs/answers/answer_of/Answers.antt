use Rattle.boundary.proofs.AnswerLaws.{length_number, refusal_number}
use borrow.Author.Rules.{rules}
use Rattle.boundary.proofs.answers.answer_of.Goals as goal

pub returns-in-Ok : goal.returns-in-Ok
returns-in-Ok c = search (length_number, rules)

pub returns-in-Err : goal.returns-in-Err
returns-in-Err c = search (refusal_number, rules)
