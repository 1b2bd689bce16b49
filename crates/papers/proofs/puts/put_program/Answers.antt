use Rattle.papers.proofs.PutCodeLaws.{put_program}
use Rattle.papers.proofs.puts.put_program.Goals as goal

pub returns : goal.returns
returns c = put_program c.args.program _ _ _ _ _ _ _
    c.put_head-p.ensures c.put_number.ensures c.put_number-2.ensures _ c.first.ensures c.put_steps.ensures
