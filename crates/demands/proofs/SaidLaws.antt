-- What a message that was made speaks of: a step's values of that step, a relation's rows of that relation, and not the other.
use mathlib.Core.Path.{◌≡◌, sym, ap, ◌∙◌}
use mathlib.Core.List.{List}
use Prim.Native.Nat.{ℕ, ◌+◌, ◌≤◌, ◌<◌}
use native.Mathlib.Omega.{arith}
use Rattle.ground.proofs.OutcomeLaws.{never}
use Rattle.ground.proofs.EveryLaws.{every_get_d}
use Rattle.contents.specs.Parts.{relation_count}
use Rattle.contents.specs.declared.envelope.Envelope.{Envelope}
use Rattle.paths.specs.Meaning.{Table}
use Rattle.paths.specs.Steps.{legal}
use Rattle.papers.specs.Programs.{no_step, steps_of}
use Rattle.paths.specs.declared.steps.Step.{Step}
use Rattle.papers.specs.declared.programs.Program.{Program}
use Rattle.ends.specs.Reducing.{step_count, step_of}
use Rattle.ends.specs.Messages.{value_message, row_message, second_of, body_of, about_of}
use Rattle.ends.specs.declared.messages.About.TheVariants as about
use Rattle.ends.proofs.MessageLaws.{about_step, about_rows, about_between, value_second, value_body, row_second}
use Rattle.demands.specs.Link.{Crew, Allowed}
use Rattle.demands.proofs.TakenLaws.{good_papers}
use mathlib.Core.Bool.{true}

module _ (c : Crew) (w : Allowed c) where
  abbrev e : Envelope
  e = c.papers.envelope

  abbrev p : Program
  p = c.papers.program

  pub steps_few : step_count c.papers.program ≤ 156
  steps_few = let a = (good_papers c w).acceptable in omega (arith, a.whole, a.count)

  pub step_legal : (n : ℕ) → n < step_count c.papers.program → legal c.papers.envelope (step_of c.papers.program n) ≡ true
  unfolding step_of
  step_legal n h = every_get_d (λ (s : Step). legal e s ≡ true) (steps_of p) n no_step h (good_papers c w).acceptable.steps

  module _ (m : List ℕ) where
    module _ (k : ℕ) (vs : List ℕ) (few : k < step_count c.papers.program) (is : m ≡ value_message c.run k vs) where
      mark_value : second_of m ≡ k
      mark_value = ap second_of is ∙ value_second c.run k vs

      pub value_step : (n : ℕ) → about_of (step_count c.papers.program) (relation_count c.papers.envelope) (second_of m) ≡ about.Step n
          → (k ≡ n) × (body_of m ≡ vs)
      value_step n spoken =
          let said : about.Step k ≡ about.Step n =
          sym (about_step (step_count p) (relation_count e) k few) ∙ sym (ap (about_of (step_count p) (relation_count e)) mark_value) ∙ spoken in
          (cc, ap body_of is ∙ value_body c.run k vs)

      pub value_rows : (r : ℕ) → about_of 0 (relation_count c.papers.envelope) (second_of m) ≡ about.Rows r → ⊥
      value_rows r spoken =
          let said : about.Nothing ≡ about.Rows r =
          sym (about_between 0 (relation_count e) k (omega arith) (omega (arith, few, steps_few))) ∙ sym (ap (about_of 0 (relation_count e)) mark_value) ∙ spoken in
          let z : ◌≡◌ {A = ℕ} 0 1 = cc in never z

    module _ (k : ℕ) (rows : Table) (few : k < relation_count c.papers.envelope) (is : m ≡ row_message c.run k rows) where
      mark_rows : second_of m ≡ 256 + k
      mark_rows = ap second_of is ∙ row_second c.run k rows

      pub rows_step : (n : ℕ) → about_of (step_count c.papers.program) (relation_count c.papers.envelope) (second_of m) ≡ about.Step n → ⊥
      rows_step n spoken =
          let said : about.Rows k ≡ about.Step n =
          sym (about_rows (step_count p) (relation_count e) k (omega (arith, steps_few)) few)
          ∙ sym (ap (about_of (step_count p) (relation_count e)) mark_rows) ∙ spoken in
          let z : ◌≡◌ {A = ℕ} 0 1 = cc in never z

      pub rows_rows : (r : ℕ) → about_of 0 (relation_count c.papers.envelope) (second_of m) ≡ about.Rows r → k ≡ r
      rows_rows r spoken =
          let said : about.Rows k ≡ about.Rows r =
          sym (about_rows 0 (relation_count e) k (omega arith) few) ∙ sym (ap (about_of 0 (relation_count e)) mark_rows) ∙ spoken in
          cc
