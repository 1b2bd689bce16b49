use Rattle.boundary.proofs.AnswerLaws.{value_number}
use Rattle.boundary.proofs.given.legestran_read_envelope.Goals as goal

pub returns : goal.returns
returns c = value_number _ _ _ c.read_envelope.ensures c.of_taken.ensures
