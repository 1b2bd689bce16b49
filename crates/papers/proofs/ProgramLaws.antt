-- Programs read by one test of steps or by another: where the tests agree on every step, so do the outcomes. So a program
-- may be read by labels.
use mathlib.Core.Path.{◌≡◌, ap, fun_ext}
use mathlib.Core.Bool.{Bool}
use mathlib.Core.List.{List}
use Prim.Native.Nat.{ℕ}
use Rattle.envelopes.specs.Rules.{Within}
use Rattle.contents.specs.declared.envelope.Envelope.{Envelope}
use Rattle.paths.specs.Labels.{labels_of, by_labels}
use Rattle.paths.specs.Steps.{legal_by}
use Rattle.papers.specs.Programs.{program_by, program_against}
use Rattle.paths.specs.declared.steps.Step.{Step}
use Rattle.paths.proofs.StepLaws.{legal_by_labels}

pub program_alike : (f g : Step → Bool) → ((x : Step) → f x ≡ g x) → (e : Envelope) (s : List ℕ) → program_by f e s ≡ program_by g e s
program_alike f g h e s = ap (λ (lawful : Step → Bool). program_by lawful e s) (fun_ext h)

pub program_by_labels : (e : Envelope) → Within e → (s : List ℕ) → program_by (legal_by (by_labels (labels_of e) e) e) e s ≡ program_against e s
program_by_labels e w s = program_alike _ _ (legal_by_labels e w) e s
