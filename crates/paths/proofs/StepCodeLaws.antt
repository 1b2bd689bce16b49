-- The laws of the code of legal steps for an envelope that is a struct: what it answers where the envelope is refused, and else.
use mathlib.Core.Path.{◌≡◌, ap, ◌∙◌}
use mathlib.Core.Bool.{Bool}
use Rattle.std.specs.Prelude.{Result, Ok, Err}
use Rattle.ground.specs.Outcome.{taken_of}
use Rattle.ground.specs.declared.refusals.Refusal.{Refusal}
use Rattle.ground.proofs.OutcomeLaws.{call_ends, call_goes}
use Rattle.contents.specs.declared.envelope.Envelope.{Envelope}
use Rattle.envelopes.specs.Envelope.{check_envelope}
use Rattle.envelopes.proofs.ExactEnvelope.{check_sound}
use Rattle.paths.specs.Labels.{labels_of, by_labels}
use Rattle.paths.specs.Steps.{legal_by, legality_of}
use Rattle.paths.specs.declared.labels.Labels.{Labels}
use Rattle.paths.specs.declared.steps.Step.{Step}
use Rattle.paths.proofs.StepLaws.{legal_by_labels}

module _ (e : Envelope) (s : Step) (r : Result Envelope Refusal) (g : r ≡ taken_of (check_envelope e)) where
  pub legal_refused : (x : Refusal) → r ≡ Err x → Err x ≡ legality_of (check_envelope e) s
  legal_refused x h = call_ends (check_envelope e) _ r g x h

  pub legal_answered : (c : Envelope) → r ≡ Ok c → (l : Labels) → l ≡ record { of = labels_of c } → (b : Bool)
      → b ≡ legal_by (by_labels l.of c) c s → Ok b ≡ legality_of (check_envelope e) s
  unfolding taken_of
  legal_answered c h l k b f =
      call_goes (check_envelope e) _ r g c (Ok b) h (λ p t. ap Ok (f ∙ rw k (legal_by_labels c (check_sound e c p t).0.0 s)))
