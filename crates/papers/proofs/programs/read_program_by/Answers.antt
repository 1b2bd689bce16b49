use borrow.Author.Rules.{rules}
use native.Mathlib.Omega.{arith}
use Rattle.ground.proofs.OutcomeLaws.{exits}
use Rattle.papers.proofs.ProgramCodeLaws.{program_no_head, program_no_site, program_nowhere, program_goes, site_byte}
use Rattle.papers.proofs.programs.read_program_by.Goals as goal

pub overflow_cast-site : goal.overflow_cast-site
overflow_cast-site c = omega (arith, site_byte _ _ _ _ _ c.number_at.ensures c.in_ok-site.was, (c.type_inv.s c.in_ok-at.at).fits)

pub overflow_cast-site-2 : goal.overflow_cast-site-2
overflow_cast-site-2 c = omega (arith, site_byte _ _ _ _ _ c.number_at.ensures c.in_ok-site.was, (c.type_inv.s c.in_ok-at.at).fits)

pub returns-in_err-at : goal.returns-in_err-at
returns-in_err-at c = search (program_no_head, rules)

pub returns-in_err-site : goal.returns-in_err-site
returns-in_err-site c =
    exits _ _ _ c.from_residual-in_err-site.ensures.1 (search (program_no_site, c.in_ok-at.was, c.in_err-site.was, rules))

pub returns-then-not-holds_relation : goal.returns-then-not-holds_relation
returns-then-not-holds_relation c = rw c.at.ensures (search (program_nowhere, c.in_ok-at.was, c.in_ok-site.was, rules))

pub returns : goal.returns
returns c = search (program_goes, c.in_ok-at.was, c.in_ok-site.was, rules)
