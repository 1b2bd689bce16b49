-- The returns of the calls on tables of every relation.
use mathlib.Core.Path.{◌≡◌, refl}
use mathlib.Core.List.{List}
use Prim.Native.Nat.{ℕ}
use lib.ListN.{length}
use Rattle.std.specs.Prelude.{Result, Ok, Err}
use Rattle.ground.specs.Outcome.{Outcome, Verdict, taken_of, verdict_of, value_of, leaves}
use Rattle.ground.specs.declared.refusals.Refusal.{Refusal}
use Rattle.fields.proofs.PutLaws.{Writes}
use Rattle.envelopes.specs.Envelope.{read_envelope}
use Rattle.contents.specs.declared.envelope.Envelope.{Envelope}
use Rattle.papers.specs.declared.checks.Papers.{Papers}
use Rattle.semijoin.specs.Run.{run_outcome}
use Rattle.answerer.specs.Answer.{answer_outcome}
use Rattle.boundary.specs.Given.{papers_in}
use Rattle.boundary.specs.Running.{run_from, answer_from}
use Rattle.boundary.proofs.CallLaws.{refused_says, taken_says, writes_ends, writes_goes}

module _ (e p words marks : List ℕ) (c : Result Papers Refusal) (g : c ≡ taken_of (papers_in e p)) where
  abbrev Runs : Verdict → List ℕ → Outcome (List ℕ) → Type 0
  Runs v after o = (v ≡ verdict_of o) × (after ≡ value_of marks o)

  abbrev running : Papers → Outcome (List ℕ)
  running q = run_outcome q.envelope q.program words marks

  pub run_refused : (x : Refusal) → c ≡ Err x → Runs (Err x) marks (run_from e p words marks)
  unfolding run_from verdict_of leaves
  run_refused x h = refused_says (papers_in e p) running c g (Runs (Err x) marks) x h (refl, refl)

  pub run_taken : (q : Papers) → c ≡ Ok q → (v : Verdict) (after : List ℕ) → Runs v after (running q) → Runs v after (run_from e p words marks)
  unfolding run_from
  run_taken q h v after l = taken_says (papers_in e p) running c g (Runs v after) q h l

module _ (e words out : List ℕ) (c : Result Envelope Refusal) (g : c ≡ taken_of (read_envelope e)) where
  abbrev answering : Envelope → Outcome (List ℕ)
  answering f = answer_outcome f words (length out)

  pub answer_refused : (x : Refusal) → c ≡ Err x → Writes 0 out (answer_from e words (length out)) (Err x) out
  unfolding answer_from
  answer_refused = writes_ends (read_envelope e) answering out c g

  pub answer_taken : (f : Envelope) → c ≡ Ok f → (v : Result ℕ Refusal) (after : List ℕ) → Writes 0 out (answering f) v after
      → Writes 0 out (answer_from e words (length out)) v after
  unfolding answer_from
  answer_taken = writes_goes (read_envelope e) answering out c g
