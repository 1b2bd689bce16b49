-- The laws of both papers checked: what good papers are, and each return.
use mathlib.Core.Path.{◌≡◌, refl, ap, ◌∙◌}
use Prim.Native.Nat.{ℕ}
use lib.ListN.{length}
use Rattle.std.specs.Prelude.{Result, Ok, Err}
use Rattle.ground.specs.Outcome.{Outcome, next, taken_of}
use Rattle.ground.specs.Outcome.Outcome.{good, bad}
use Rattle.ground.specs.declared.refusals.Refusal.{Refusal}
use Rattle.ground.proofs.OutcomeLaws.{next_good, value_good, call_ends, call_goes}
use Rattle.envelopes.specs.Envelope.{check_envelope, envelope_bytes}
use Rattle.envelopes.specs.Rules.{Within}
use Rattle.contents.specs.declared.envelope.Envelope.{Envelope}
use Rattle.envelopes.proofs.ExactEnvelope.{check_sound, check_complete}
use Rattle.papers.specs.Programs.{program_against, program_bytes, read_program, check_program}
use Rattle.papers.specs.Checks.{papers_of, GoodPapers}
use Rattle.papers.specs.declared.programs.Program.{Program}
use Rattle.papers.specs.declared.checks.Papers.{Papers}
use Rattle.papers.proofs.ExactPrograms.{program_bytes_lem, program_exact, program_complete}

pub papers_sound : (e : Envelope) (p : Program) (q : Papers) (u : ℕ) → papers_of e p ≡ good q u → GoodPapers q
unfolding papers_of
papers_sound e p q u h =
    let (f, v, check, rest) = next_good (check_envelope e) _ q u h in
    let (g, w, read, made) = next_good (program_against f (program_bytes p)) _ q u rest in
    let sound = (check_sound e f v check).0 in
    let exact = ((program_exact f sound.0 (program_bytes p) g w (program_bytes_lem p)).0 read).0 in
    let same : record { envelope = f; program = g } ≡ q = cc in
    let found : GoodPapers (record { envelope = f; program = g }) =
    record { within = sound.0; tidied = sound.1; acceptable = exact.0; trimmed = exact.1 }
    in
    rw same at found

-- and good papers are taken, as they are
pub papers_complete : (q : Papers) → GoodPapers q → papers_of q.envelope q.program ≡ good q (length (program_bytes q.program))
unfolding papers_of
papers_complete q g =
    let envelope : check_envelope q.envelope ≡ good q.envelope (length (envelope_bytes q.envelope)) =
    check_complete q.envelope g.within ∙ ap (λ (f : Envelope). good f (length (envelope_bytes q.envelope))) g.tidied in
    let program
    : program_against q.envelope (program_bytes q.program) ≡ good q.program (length (program_bytes q.program)) =
    program_complete q.envelope g.within q.program g.acceptable
    ∙ ap (λ (x : Program). good x (length (program_bytes q.program))) g.trimmed in
    rw (envelope, program)

-- ---- each return

module _ (e : Envelope) (p : Program) (c : Result Envelope Refusal) (g : c ≡ taken_of (check_envelope e)) where
  pub papers_no_envelope : (x : Refusal) → c ≡ Err x → Err x ≡ taken_of (papers_of e p)
  unfolding papers_of
  papers_no_envelope x h = call_ends (check_envelope e) _ c g x h

  module _ (f : Envelope) (h : c ≡ Ok f) where
    pub papers_within : Within f
    papers_within = let (q, o) = value_good (check_envelope e) c f g h in (check_sound e f q o).0.0

    module _ (r : Result Program Refusal) (k : r ≡ taken_of (program_against f (program_bytes p))) where
      pub papers_no_program : (x : Refusal) → r ≡ Err x → Err x ≡ taken_of (papers_of e p)
      unfolding papers_of
      papers_no_program x v =
          call_goes (check_envelope e) _ c g f _ h λ u o. call_ends (program_against f (program_bytes p)) _ r k x v

      pub papers_are : (q : Program) → r ≡ Ok q → Ok (record { envelope = f; program = q }) ≡ taken_of (papers_of e p)
      unfolding papers_of taken_of
      papers_are q v =
          call_goes (check_envelope e) _ c g f _ h λ u o. call_goes (program_against f (program_bytes p)) _ r k q _ v λ w y. refl

-- ---- the program alone: what the papers answer, without the envelope

abbrev both : Envelope → Program → ℕ → Outcome Papers
both f q at = good (record { envelope = f; program = q }) at

abbrev second : Outcome Papers → Outcome Program
second o = next o (λ q at. good q.program at)

with_envelope : (f : Envelope) (x : Outcome Program) → second (next x (both f)) ≡ x
with_envelope f (good q v) = refl
with_envelope f (bad n v) = refl

alone : (o : Outcome Envelope) (read : Envelope → Outcome Program) → second (next o (λ f _. next (read f) (both f))) ≡ next o (λ f _. read f)
alone (bad n u) read = refl
alone (good f u) read = with_envelope f (read f)

module _ (e : Envelope) (p : Program) (r : Result Papers Refusal) (g : r ≡ taken_of (papers_of e p)) where
  as_program : second (papers_of e p) ≡ check_program e p
  unfolding papers_of check_program read_program
  as_program = alone (check_envelope e) (λ f. program_against f (program_bytes p))

  pub program_refused : (x : Refusal) → r ≡ Err x → Err x ≡ taken_of (check_program e p)
  program_refused x h = call_ends (papers_of e p) _ r g x h ∙ ap taken_of as_program

  pub program_alone : (q : Papers) → r ≡ Ok q → Ok q.program ≡ taken_of (check_program e p)
  unfolding taken_of
  program_alone q h = call_goes (papers_of e p) _ r g q _ h (λ u o. refl) ∙ ap taken_of as_program
