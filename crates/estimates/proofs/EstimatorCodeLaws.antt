-- The laws that the code of the estimator goes by: what holds at the head of the loop over the steps, and what each return
-- answers.
use mathlib.Core.Path.{◌≡◌, sym, ap, ◌∙◌}
use mathlib.Core.List.{List, [], ◌∷◌, ◌++◌, append-nil}
use Prim.Native.Nat.{ℕ, ◌+◌, ◌≤◌, ◌<◌}
use native.Mathlib.Omega.{arith}
use lib.ListN.{length, get_or, take, drop, set, replicate}
use lib.Seq.{append_snoc}
use Rattle.std.specs.Prelude.{Result, Ok, Err}
use Rattle.ground.specs.Outcome.{taken_of}
use Rattle.ground.specs.declared.refusals.Refusal.{Refusal}
use Rattle.ground.proofs.OutcomeLaws.{value_good, call_ends, call_goes}
use Rattle.ground.proofs.CollectingLaws.{Collecting, collecting_start, collecting_push}
use Rattle.envelopes.specs.Rules.{Within, tidy}
use Rattle.contents.specs.declared.envelope.Envelope.{Envelope}
use Rattle.papers.specs.Programs.{no_step, steps_of, Acceptable}
use Rattle.papers.specs.Checks.{papers_of}
use Rattle.paths.specs.declared.steps.Step.{Step}
use Rattle.papers.specs.declared.programs.Program.{Program}
use Rattle.papers.specs.declared.checks.Papers.{Papers}
use Rattle.papers.proofs.CheckLaws.{papers_sound}
use Rattle.estimates.specs.Profile.{benefit, after_step, local_profile}
use Rattle.estimates.specs.Costs.{plain_costs, step_cost, assembly_at}
use Rattle.estimates.specs.Estimate.{kind_of, line, no_line, lines_of, estimated, estimate_of}
use Rattle.estimates.specs.Ready.{Ready}
use Rattle.estimates.specs.Ready.{Bounded, Shrinks}
use Rattle.estimates.specs.declared.profiles.Profile.{Profile}
use Rattle.estimates.specs.declared.costs.Costs.{Costs}
use Rattle.estimates.specs.declared.lines.Line.{Line}
use Rattle.estimates.specs.declared.lines.Estimate.{Estimate}
use Rattle.estimates.proofs.CostLaws.{assembly_most, plain_most}
use Rattle.estimates.proofs.KindLaws.{total_is}
use Rattle.estimates.proofs.BoundCodeLaws.{inside_bounded}
use Rattle.estimates.proofs.SpendingCodeLaws.{Spending, spending_start, spending_more, spending_done, step_shrinks, rest, none_left}

-- ---- the loop over the steps: i are gone through, and stand in the lines

pub record Estimating (k : Costs) (e : Envelope) (ss : List Step) (i : ℕ) (p : Profile) (spent : ℕ) (lines : List Line) : Type 0 where
  pub spending : Spending k e ss i p spent
  pub done : List Line
  pub collected : Collecting 156 no_line done i lines
  pub told : lines_of k e (local_profile e) ss ≡ done ++ lines_of k e p (drop i ss)

module _ (k : Costs) (e : Envelope) (local : Profile) (w : Ready k e local) where
  pub estimating_start : (f : Program) → Acceptable e f → (ss : List Step) → ss ≡ take f.count f.steps → (z : Line) → z ≡ no_line
      → Estimating k e ss 0 local 0 (replicate 156 z)
  unfolding steps_of
  estimating_start f a ss g z h =
      record {
        spending = spending_start k e local w f a ss g;
        done = [];
        collected = rw h (collecting_start 156 no_line);
        told = rw w.local;
      }

  module _ (ss : List Step) (i : ℕ) (p : Profile) (spent : ℕ) (lines : List Line) (a : Estimating k e ss i p spent lines) where
    pub assembly_small : (site x : ℕ) → x ≡ assembly_at k e p site → spent + x ≤ 1000000000000
    assembly_small site x g =
        omega (
          arith,
          a.spending.small,
          a.spending.within,
          a.spending.few,
          g,
          assembly_most e w.within k 1 w.cheap site p a.spending.inside,
        )

    pub now_bounded : Bounded k p
    now_bounded = inside_bounded k e local w p a.spending.inside

    pub line_ready : i < length ss → Bounded k p × Shrinks e p (get_or ss i no_step)
    line_ready h = (
      now_bounded,
      step_shrinks k e local w ss i p spent a.spending h,
    )

    pub estimating_more : i < length ss → (l : Line)
        → l ≡ line (get_or ss i no_step) (benefit e p (get_or ss i no_step)) (step_cost k e p (get_or ss i no_step))
        → (q : Profile) → q ≡ after_step e p (get_or ss i no_step) → Estimating k e ss (i + 1) q (spent + l.cost) (set lines i l)
    unfolding lines_of
    estimating_more h l g q u =
        let s : Step = get_or ss i no_step in
        record {
          spending = spending_more k e local w ss i p spent a.spending h l.cost (ap (λ (x : Line). x.cost) g) q u;
          done = a.done ++ (l ∷ []);
          collected = collecting_push 156 no_line a.done i lines a.collected l (omega (arith, a.spending.few));
          told =
              a.told ∙ ap (λ (x : List Step). a.done ++ lines_of k e p x) (rest k e local w ss i p spent a.spending h)
              ∙ ap (λ (y : Profile). a.done ++ line s (benefit e p s) (step_cost k e p s) ∷ lines_of k e y (drop (i + 1) ss)) (sym u)
              ∙ ap (λ (x : Line). a.done ++ x ∷ lines_of k e q (drop (i + 1) ss)) (sym g)
              ∙ sym (append_snoc a.done l (lines_of k e q (drop (i + 1) ss)));
        }

    pub estimated_through : (f : Program) → Acceptable e f → ss ≡ take f.count f.steps → length ss ≤ i → (x : ℕ) → x ≡ assembly_at k e p f.site
        → ◌≡◌ {A = Estimate} (record { count = f.count; lines = lines; assembly = x; total = spent + x }) (estimated k e (steps_of f) f.site)
    unfolding estimated lines_of steps_of
    estimated_through f c v h x g =
        let m : lines_of k e (local_profile e) ss ≡ a.done =
        a.told ∙ rw (none_left k e local w ss i p spent a.spending h) (append-nil a.done) in
        let (q, s) = spending_done k e local w ss i p spent a.spending h in
        let n : f.count ≡ length ss = sym (ap length v ∙ c.whole) in
        rw (← v, total_is (kind_of k e) (local_profile e) f.site ss, n, m, q, s, g, a.collected.array)

-- ---- plain prices

pub plain_ready : (e : Envelope) → Within e → tidy e ≡ e → (k : Costs) → k ≡ plain_costs → (p : Profile) → p ≡ local_profile e → Ready k e p
plain_ready e w t k f p g = record { within = w; tidied = t; cheap = rw f plain_most; local = g }

pub plain_estimate : (e : Envelope) (ss : List Step) (site : ℕ) (k : Costs) → k ≡ plain_costs → (x : Estimate) → x ≡ estimated k e ss site
    → x ≡ estimated plain_costs e ss site
plain_estimate e ss site k f x g = g ∙ rw f

-- ---- a line

pub line_is : (s : Step) (b c x y : ℕ) → b ≡ x → c ≡ y → ◌≡◌ {A = Line} (record { step = s; benefit = b; cost = c }) (line s x y)
line_is s b c x y f g = rw (f, g)

-- ---- envelope and program are checked first

module _ (e : Envelope) (f : Program) (r : Result Papers Refusal) (g : r ≡ taken_of (papers_of e f)) where
  pub estimate_refused : (x : Refusal) → r ≡ Err x → Err x ≡ taken_of (estimate_of (papers_of e f))
  unfolding estimate_of
  estimate_refused x h = call_ends (papers_of e f) _ r g x h

  module _ (c : Papers) (h : r ≡ Ok c) where
    pub taken_good : Within c.envelope × (tidy c.envelope ≡ c.envelope) × Acceptable c.envelope c.program
    taken_good =
        let (p, o) = value_good (papers_of e f) r c g h in
        let q = papers_sound e f c p o in
        (q.within, q.tidied, q.acceptable)

    pub estimate_taken : (x : Estimate) → x ≡ estimated plain_costs c.envelope (steps_of c.program) c.program.site
        → Ok x ≡ taken_of (estimate_of (papers_of e f))
    unfolding estimate_of taken_of
    estimate_taken x u = call_goes (papers_of e f) _ r g c (Ok x) h (λ p o. ap Ok u)
