use borrow.Author.Rules.{rules}
use native.Mathlib.Omega.{arith}
use Rattle.fields.proofs.NumberLaws.{read_in}
use Rattle.papers.proofs.ProgramCodeLaws.{count_bad, count_good}
use Rattle.papers.proofs.programs.from_count.Goals as goal

pub overflow_cast-count : goal.overflow_cast-count
overflow_cast-count c = omega (arith, read_in _ _ _ _ _ _ c.in_ok-count.was _ _ c.number_in.ensures)

pub from_steps-requires : goal.from_steps-requires
from_steps-requires c = omega (arith, read_in _ _ _ _ _ _ c.in_ok-count.was _ _ c.number_in.ensures)

pub returns-in_err-count : goal.returns-in_err-count
returns-in_err-count c = search (count_bad, rules)

pub returns : goal.returns
returns c = search (count_good, c.in_ok-count.was, rules)
