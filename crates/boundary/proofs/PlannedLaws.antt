-- The program that plan hands out is taken by every call that takes a program: for the envelope that it was planned for its bytes
-- read back as it, and nothing refuses it.
use mathlib.Core.Path.{◌≡◌, refl, sym, ap, ◌∙◌}
use mathlib.Core.List.{List, ◌∷◌, ◌++◌, map, map-append}
use Prim.Native.Nat.{ℕ, zero, suc, ◌-◌}
use lib.ListN.{length, take, replicate}
use Rattle.ground.specs.Bytes.{Bytes}
use Rattle.ground.specs.Lists.{padded}
use Rattle.std.specs.Prelude.{Ok}
use Rattle.ground.specs.Outcome.{Outcome, next, leaves}
use Rattle.ground.specs.Outcome.Outcome.{good}
use Rattle.fields.specs.Puts.{fitted, written_of, written_in}
use Rattle.fields.proofs.PutLaws.{written_back}
use Rattle.contents.specs.declared.envelope.Envelope.{Envelope}
use Rattle.envelopes.specs.Envelope.{read_envelope}
use Rattle.envelopes.specs.Rules.{Within}
use Rattle.envelopes.proofs.ExactEnvelope.{envelope_exact}
use Rattle.paths.specs.declared.steps.Step.{Step}
use Rattle.papers.specs.Programs.{no_step, no_program, program_with, program_bytes, read_program, check_program, write_program_of, Acceptable, tidy_program}
use Rattle.papers.specs.declared.programs.Program.{Program}
use Rattle.papers.proofs.ExactPrograms.{read_complete}
use Rattle.estimates.specs.Costs.{plain_costs}
use Rattle.estimates.specs.Estimate.{line_steps, no_line, lines_of, estimated}
use Rattle.estimates.specs.Profile.{local_profile}
use Rattle.estimates.specs.declared.lines.Line.{Line}
use Rattle.estimates.proofs.EstimateLaws.{lines_length, lines_steps}
use Rattle.planner.specs.Plan.{plan_for, plan_of, planned}
use Rattle.planner.proofs.PlanLaws.{plan_part, plan_legal, plan_site, part_few}
use Rattle.planner.proofs.DropCodeLaws.{with_steps, with_acceptable}
use Rattle.boundary.specs.Given.{papers_in}
use Rattle.boundary.specs.Planning.{program_of, program_for, plan_from}

map_alike : {A B : Type 0} (f : A → B) (n : ℕ) (z : A) → map f (replicate n z) ≡ replicate n (f z)
map_alike f zero z = refl
map_alike {A} {B} f (suc n) z = ap (λ (l : List B). f z ∷ l) (map_alike f n z)

-- the lines' steps are the program's, and zeros stand behind them
module _ (e : Envelope) where
  abbrev steps : List Step
  steps = (planned plain_costs e).steps

  abbrev lines : List Line
  lines = lines_of plain_costs e (local_profile e) steps

  steps_stand : line_steps (padded 156 no_line lines) ≡ padded 156 no_step steps
  unfolding line_steps padded
  steps_stand =
      map-append (λ (l : Line). l.step) lines (replicate (156 - length lines) no_line)
      ∙ rw (lines_steps plain_costs e (local_profile e) steps, lines_length plain_costs e (local_profile e) steps)
      (ap (λ (l : List Step). steps ++ l) (map_alike (λ (l : Line). l.step) (156 - length steps) no_line))

  as_handed : program_of (plan_for plain_costs e) ≡ program_with (planned plain_costs e).site steps
  unfolding program_of plan_for estimated
  as_handed = ap (λ (l : List Step). record { site = (planned plain_costs e).site; count = length steps; steps = l }) steps_stand

  module _ (w : Within e) where
    handed_acceptable : Acceptable e (program_with (planned plain_costs e).site steps)
    unfolding plan_for
    handed_acceptable =
        with_acceptable e (planned plain_costs e).site steps (plan_site plain_costs e w) (part_few plain_costs e w steps (plan_part plain_costs e))
        (plan_legal plain_costs e)

    handed_tidy : tidy_program (program_with (planned plain_costs e).site steps) ≡ program_with (planned plain_costs e).site steps
    unfolding tidy_program
    handed_tidy = ap (program_with (planned plain_costs e).site) (with_steps e (planned plain_costs e).site steps)

-- for an envelope that was read
module _ (s : List ℕ) (bytes : Bytes s) (e : Envelope) (at : ℕ) (read : read_envelope s ≡ good e at) where
  within : Within e
  within = ((envelope_exact s e at bytes).0 read).0.0

  is_handed : program_for s ≡ program_with (planned plain_costs e).site (steps e)
  unfolding program_for plan_of leaves
  is_handed = ap (λ (o : Outcome Envelope). leaves program_of no_program (plan_of o)) read ∙ as_handed e

  pub plan_acceptable : Acceptable e (program_for s)
  plan_acceptable = rw is_handed (handed_acceptable e within)

  plan_back : read_program e (program_bytes (program_for s)) ≡ good (program_for s) (length (program_bytes (program_for s)))
  plan_back =
      read_complete e within (program_for s) plan_acceptable
      ∙ ap (λ (p : Program). good p (length (program_bytes (program_for s)))) (ap tidy_program is_handed ∙ handed_tidy e within ∙ sym is_handed)

  -- so plan is refused by 11 alone
  pub plan_good : (room : ℕ) → plan_from s room ≡ fitted room (program_bytes (program_for s))
  unfolding plan_from write_program_of check_program
  plan_good room = rw (read, plan_back)

  -- both papers, as every call that takes a program reads them
  pub plan_papers : papers_in s (program_bytes (program_for s)) ≡ good (record { envelope = e; program = program_for s }) (length (program_bytes (program_for s)))
  unfolding papers_in
  plan_papers = rw (read, plan_back)

  -- and so is what plan leaves at the front of the buffer, as far as the length that it answers
  pub plan_left : (out : List ℕ) (n : ℕ) → written_of (plan_from s (length out)) ≡ Ok n
      → papers_in s (take n (written_in out (plan_from s (length out)))) ≡ good (record { envelope = e; program = program_for s }) n
  unfolding plan_from write_program_of
  plan_left out n w =
      let wrote : plan_from s (length out) ≡ next (check_program e (program_for s)) (λ _ _. fitted (length out) (program_bytes (program_for s))) = rw read in
      let (_, _, _, long, same) = written_back (check_program e (program_for s)) (program_bytes (program_for s)) out n (rw wrote at w) in
      rw (wrote, same) (plan_papers ∙ ap (good (record { envelope = e; program = program_for s })) (sym long))
