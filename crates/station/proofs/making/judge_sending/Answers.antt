use Rattle.station.proofs.MakingCodeLaws.{sending_not, sending_waits, sending_may}
use borrow.Author.Rules.{rules}
use Rattle.station.proofs.making.judge_sending.Goals as goal

pub returns-then-not-ours : goal.returns-then-not-ours
returns-then-not-ours c = search (sending_not, rules)

pub returns-in-Some : goal.returns-in-Some
returns-in-Some c = search (sending_waits, rules)

pub returns-in-None : goal.returns-in-None
returns-in-None c = search (sending_may, rules)
