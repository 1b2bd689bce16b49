use Rattle.estimates.proofs.StepCodeLaws.{step_is}
use Rattle.estimates.proofs.profiles.Profile.after_step.Goals as goal

pub returns : goal.returns
returns c =
    let a = c.args in
    step_is a.envelope a.self _ a.step _ _ c.rows_after-rows.ensures c.count_after-count.ensures c.shrunk.ensures
