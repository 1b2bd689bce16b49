use Rattle.ground.proofs.OutcomeLaws.{exits}
use Rattle.semijoin.proofs.RunCodeLaws.{run_papers, run_good, run_within, run_legal}
use Rattle.semijoin.proofs.run.run_in_one_place.Goals as goal

pub returns-in_err-papers : goal.returns-in_err-papers
returns-in_err-papers c =
    let w = run_papers c.args.envelope c.args.program c.args.tables.now c.args.marks.now _ c.check_papers.ensures
    _ c.in_err-papers.was in
    (exits _ _ _ c.from_residual.ensures.1 w.0, w.1)

pub run_checked-requires : goal.run_checked-requires
run_checked-requires c = (
  run_within c.args.envelope c.args.program c.args.tables.now c.args.marks.now _ c.check_papers.ensures _ c.in_ok-papers.was,
  run_legal c.args.envelope c.args.program c.args.tables.now c.args.marks.now _ c.check_papers.ensures _ c.in_ok-papers.was,
)

pub returns : goal.returns
returns c =
    run_good c.args.envelope c.args.program c.args.tables.now c.args.marks.now _ c.check_papers.ensures _ c.in_ok-papers.was _ _
    c.run_checked.ensures.0 c.run_checked.ensures.1
