use Rattle.boundary.proofs.AnswerLaws.{taken_number, refused_number}
use borrow.Author.Rules.{rules}
use Rattle.boundary.proofs.answers.of_taken.Goals as goal

pub returns-in-Ok : goal.returns-in-Ok
returns-in-Ok c = search (taken_number, rules)

pub returns-in-Err : goal.returns-in-Err
returns-in-Err c = search (refused_number, rules)
