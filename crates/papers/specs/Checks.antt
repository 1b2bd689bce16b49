-- "An envelope, then a program, not given as bytes, also inside an end, is checked first as its bytes would be, with the same
-- number and position." Both papers at once, as they read back.
use Rattle.std.specs.Prelude.{◌≡◌}
use Rattle.ground.specs.Outcome.{Outcome, next}
use Rattle.ground.specs.Outcome.Outcome.{good}
use Rattle.contents.specs.Parts.{no_envelope}
use Rattle.envelopes.specs.Envelope.{check_envelope}
use Rattle.envelopes.specs.Rules.{Within, tidy}
use Rattle.contents.specs.declared.envelope.Envelope.{Envelope}
use Rattle.papers.specs.Programs.{no_program, program_against, program_bytes, Acceptable, tidy_program}
use Rattle.papers.specs.declared.programs.Program.{Program}
use Rattle.papers.specs.declared.checks.Papers.{Papers}

abbrev pub no_papers : Papers
no_papers = record { envelope = no_envelope; program = no_program }

unfoldable pub papers_of : Envelope → Program → Outcome Papers
papers_of e p =
    next (check_envelope e)
    (λ f _. next (program_against f (program_bytes p))
    (λ q at. good (record { envelope = f; program = q }) at))

-- good papers are within the sizes and rules, each as it reads back
pub record GoodPapers (q : Papers) : Type 0 where
  pub within : Within q.envelope
  pub tidied : tidy q.envelope ≡ q.envelope
  pub acceptable : Acceptable q.envelope q.program
  pub trimmed : tidy_program q.program ≡ q.program
