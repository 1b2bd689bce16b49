use Rattle.papers.specs.Programs.{program_bytes}
use Rattle.fields.proofs.PutLaws.{fresh_bytes}
use Rattle.papers.proofs.ProgramCodeLaws.{against_is}
use native.Mathlib.Omega.{arith}
use borrow.Author.Rules.{rules}
use Rattle.papers.proofs.programs.program_against.Goals as goal

pub returns : goal.returns
returns c =
    against_is c.args.envelope (search rules) c.args.program _ _ _ c.labels_of-labels.ensures (fresh_bytes 631 631
    (program_bytes c.args.program) _ _ c.put_program-n.ensures (omega arith)) c.read_program_by.ensures
