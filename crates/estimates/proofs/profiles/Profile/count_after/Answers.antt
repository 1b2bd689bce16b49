use Rattle.estimates.proofs.StepCodeLaws.{count_after_is}
use Rattle.estimates.proofs.profiles.Profile.count_after.Goals as goal

pub returns : goal.returns
returns c = let a = c.args in
    count_after_is a.envelope.now a.self.now a.step _ _ c.count_at-count.ensures c.remaining.ensures
