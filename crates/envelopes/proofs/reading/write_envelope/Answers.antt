use mathlib.Core.Path.{refl}
use Rattle.std.specs.Prelude.{Err}
use Rattle.ground.proofs.OutcomeLaws.{exits}
use native.Mathlib.Omega.{arith}
use Rattle.fields.proofs.PutLaws.{fresh_bytes}
use Rattle.envelopes.specs.Envelope.{envelope_bytes}
use Rattle.envelopes.proofs.ReadingLaws.{write_refused, write_front}
use Rattle.envelopes.proofs.reading.write_envelope.Goals as goal

pub returns-in_err-check_envelope : goal.returns-in_err-check_envelope
returns-in_err-check_envelope c =
    write_refused c.args.envelope _ _ c.check_envelope.ensures _ _ c.in_err-check_envelope.was (exits _ (Err _) _ c.from_residual.ensures.1 refl)

pub returns : goal.returns
returns c =
    write_front c.args.envelope _ _ c.check_envelope.ensures _ _ _ _ c.in_ok-check_envelope.was (fresh_bytes 621 621 (envelope_bytes
    c.args.envelope) _ _ c.put_envelope-n.ensures (omega arith)) c.write_front.ensures
