use native.Mathlib.Omega.{arith}
use Rattle.fields.proofs.PutLaws.{fresh_bytes}
use Rattle.envelopes.specs.Envelope.{envelope_bytes}
use Rattle.envelopes.proofs.ReadingLaws.{check_is}
use Rattle.envelopes.proofs.reading.check_envelope.Goals as goal

pub returns : goal.returns
returns c =
    check_is c.args.envelope _ _ (fresh_bytes 621 621 (envelope_bytes c.args.envelope) _ _ c.put_envelope-n.ensures (omega
    arith)) c.read_envelope.ensures
