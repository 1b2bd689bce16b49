use Rattle.station.proofs.MakingCodeLaws.{exits_with_three, usable_of}
use Rattle.station.proofs.ReceivingCodeLaws.{receive_refused, receive_goes}
use Rattle.station.proofs.receiving.receive.Goals as goal

pub receive_with-requires : goal.receive_with-requires
receive_with-requires c = usable_of _ _ _ _ c.usable_end.ensures _ c.in_ok-papers.was

pub returns-in_err-papers : goal.returns-in_err-papers
returns-in_err-papers c =
    exits_with_three _ _ _ c.from_residual.ensures.1 (receive_refused _ _ _ c.args.store.now c.args.message.now _ c.usable_end.ensures _ c.in_err-papers.was)

pub returns : goal.returns
returns c =
    receive_goes _ _ _ _ _ _ c.usable_end.ensures _ c.in_ok-papers.was _ _ _ _ c.receive_with.ensures
