use Rattle.estimates.proofs.StepCodeLaws.{rows_after_is}
use Rattle.estimates.proofs.profiles.Profile.rows_after.Goals as goal

pub returns : goal.returns
returns c = let a = c.args in
    rows_after_is a.envelope.now a.self.now a.step _ _ c.rows_at-rows.ensures c.remaining.ensures
