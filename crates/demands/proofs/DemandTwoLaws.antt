-- Demand 2 holds: each part by the law of the crate that has it.
use mathlib.Core.Path.{◌≡◌, refl, ap, ◌∙◌}
use mathlib.Core.Bool.{true}
use mathlib.Core.List.{List}
use mathlib.Core.Logic.{◌↔◌}
use Prim.Native.Nat.{ℕ, ◌≤◌}
use lib.ListN.{length, get_or}
use Rattle.std.specs.Prelude.{Ok}
use Rattle.ground.specs.Outcome.{taken_of}
use Rattle.ground.specs.Outcome.Outcome.{good}
use Rattle.ground.proofs.EveryLaws.{every_map}
use Rattle.contents.specs.declared.envelope.Envelope.{Envelope}
use Rattle.envelopes.specs.Rules.{Within}
use Rattle.envelopes.specs.Fits.{Fits}
use Rattle.envelopes.proofs.ExactEnvelope.{envelope_exact}
use Rattle.paths.specs.Steps.{legal}
use Rattle.paths.specs.Meaning.{answer_on, answer_rows, answer_words}
use Rattle.paths.specs.declared.steps.Step.{Step}
use Rattle.paths.proofs.StepLaws.{legal_step, step_legal, legal_member}
use Rattle.papers.specs.Programs.{steps_of}
use Rattle.papers.specs.declared.programs.Program.{Program}
use Rattle.papers.specs.declared.checks.Papers.{Papers}
use Rattle.papers.proofs.ExactPrograms.{read_exact}
use Rattle.papers.proofs.ExactChecks.{check_exact}
use Rattle.estimates.specs.Costs.{plain_costs}
use Rattle.estimates.specs.Estimate.{estimated, estimate_of}
use Rattle.estimates.specs.declared.lines.Estimate.{Estimate}
use Rattle.estimates.proofs.EstimateLaws.{estimated_lines, estimated_total}
use Rattle.planner.proofs.PromiseLaws.{plan_checked, plan_read}
use Rattle.tables.specs.Rows.{is_kept, word_of, kept_at}
use Rattle.tables.specs.Shape.{shaped}
use Rattle.tables.specs.Values.{values_of}
use Rattle.semijoin.specs.Run.{stepped}
use Rattle.semijoin.proofs.PromiseLaws.{promise}
use Rattle.semijoin.proofs.CallPromiseLaws.{call_promise}
use Rattle.answerer.specs.Answer.{answer_outcome}
use Rattle.answerer.proofs.AnswerLaws.{answer_exact}
use Rattle.demands.specs.DemandTwo.{OnPath, EstimateKept, DemandTwo}

-- ---- legal steps

legal_path : (e : Envelope) (s : Step) → legal e s ≡ true → OnPath e s
legal_path e s t =
    let l = legal_step e s t in
    record { left = l.left; right = l.right; differ = l.differ; path = l.path }

path_legal : (e : Envelope) (s : Step) → OnPath e s → legal e s ≡ true
path_legal e s l =
    step_legal e s
    (record { left = l.left; right = l.right; differ = l.differ; path = l.path })

-- ---- the estimate

estimate_kept : (f : Envelope) (g : Program) → EstimateKept f g (estimated plain_costs f (steps_of g) g.site)
unfolding estimated
estimate_kept f g =
    record {
      lines = estimated_lines plain_costs f (steps_of g) g.site;
      assembly = refl;
      total = estimated_total plain_costs f (steps_of g) g.site;
    }

estimate_holds : (q : Papers) (u : ℕ) → (x : Estimate) × (taken_of (estimate_of (good q u)) ≡ Ok x) × EstimateKept q.envelope q.program x
unfolding estimate_of taken_of
estimate_holds q u = (_, refl, estimate_kept q.envelope q.program)

-- ---- the answer, where it is taken

answer_taken : (e : Envelope) → Fits e → (words w : List ℕ) (lent u : ℕ)
    → (answer_outcome e words lent ≡ good w u)
    ↔ (Within e × (shaped e words ≡ true) × (length (answer_words e words) ≤ lent) × (w ≡ answer_words e words) × (u ≡ length w))
answer_taken e fits words w lent u = (
  λ h.
      let (a, is, end) = (answer_exact e words lent fits w u).0 h in
      (a.within, a.shape, a.room, is, end),
  λ (within, shape, room, is, end).
      (answer_exact e words lent fits w u).1 (record { within = within; shape = shape; room = room }, is, end),
)

-- ---- a step

step_exact : (e : Envelope) (words marks : List ℕ) (s : Step) (i : ℕ)
    → (kept_at e words (stepped e words s marks) s.left.relation i ≡ true)
    ↔ ((kept_at e words marks s.left.relation i ≡ true)
    × ((j : ℕ) × (kept_at e words marks s.right.relation j ≡ true) × (word_of e words s.right j ≡ word_of e words s.left i)))
step_exact e words marks s i = rw (call_promise.step_is e words s marks) ((promise e).keeps_exactly words marks words marks s.left s.right i)

step_stays : (e : Envelope) (words marks : List ℕ) (s : Step) (r i : ℕ) → (r ≡ s.left.relation → ⊥)
    → kept_at e words (stepped e words s marks) r i ≡ kept_at e words marks r i
step_stays e words marks s r i differ =
    ap (λ (l : List ℕ). kept_at e words l r i) (call_promise.step_is e words s marks)
    ∙ ap (λ (l : List ℕ). is_kept (get_or l i 0)) ((promise e).others_stay words (values_of e words marks s.right) marks s.left r differ)

-- ---- all of it

pub demand_two : DemandTwo
unfolding answer_rows answer_on
demand_two =
    record {
      legal_exact = λ e s. (legal_path e s, path_legal e s);
      legal_listed = λ e s. (
        λ m. legal_path e s ((legal_member e s).1 m),
        λ l. (legal_member e s).0 (path_legal e s l),
      );
      bytes_of_envelope = λ s b e q. envelope_exact s e q b;
      bytes_of_program = λ e fits s b p q. read_exact e fits s p q b;
      program_struct = λ e fits p small r q. check_exact e fits p r q small;
      program_legal = λ e p h. every_map (λ (s : Step). legal e s ≡ true) (OnPath e) (steps_of p) (legal_path e) h.steps;
      estimate = λ e p q u h. rw h (estimate_holds q u);
      plan_struct = plan_checked;
      plan_bytes = plan_read;
      run = λ e fits p small words marks after u. call_promise.run_exact e p words marks fits small after u;
      run_folds = λ e p words marks. call_promise.run_is e p words marks;
      local = λ e words marks fits r i h. (promise e).opens words marks (λ _. true) fits r i h;
      passing = λ e r row. (promise e).passes_exactly r row;
      step = step_exact;
      step_others = step_stays;
      step_answer = λ e words marks s l. call_promise.step_answer e words s marks (path_legal e s l);
      run_answer = λ e p words marks h fits. call_promise.run_answer e p words marks h.steps fits;
      rows_of_answer = λ e words. refl;
      answer = answer_taken;
    }
