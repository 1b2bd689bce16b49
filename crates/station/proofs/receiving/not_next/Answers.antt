use Rattle.station.proofs.NextCodeLaws.{body_part, next_early, next_late}
use Rattle.std.proofs.lemmas.Bool.{not_from_true}
use Rattle.station.proofs.receiving.not_next.Goals as goal

pub returns-in-Some : goal.returns-in-Some
returns-in-Some c =
    next_early c.args.message.now _ (body_part c.args.message.now) c.args.missing _ c.is_rising.ensures
    (not_from_true _ c.if-not-is_rising.false) _ c.in-Some.is

pub returns-in-None : goal.returns-in-None
returns-in-None c =
    next_late c.args.message.now _ (body_part c.args.message.now) c.args.missing _ c.is_rising.ensures
    (not_from_true _ c.if-not-is_rising.false) c.in-None.is
