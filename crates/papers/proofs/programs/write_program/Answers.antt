use native.Mathlib.Omega.{arith}
use Rattle.ground.proofs.OutcomeLaws.{exits}
use Rattle.papers.specs.Programs.{program_bytes}
use Rattle.fields.proofs.PutLaws.{fresh_bytes}
use Rattle.papers.proofs.ProgramCodeLaws.{write_refused, write_front}
use Rattle.papers.proofs.programs.write_program.Goals as goal

pub returns-in_err-check_program : goal.returns-in_err-check_program
returns-in_err-check_program c =
    let w = write_refused c.args.envelope c.args.program c.args.out.now _ c.check_program.ensures _ c.in_err-check_program.was in
    (exits _ _ _ c.from_residual.ensures.1 w.0, w.1)

pub returns : goal.returns
returns c =
    write_front c.args.envelope c.args.program _ _ c.check_program.ensures _ _ _ _ c.in_ok-check_program.was (fresh_bytes 631 631
    (program_bytes c.args.program) _ _ c.put_program-n.ensures (omega arith)) c.write_front.ensures
