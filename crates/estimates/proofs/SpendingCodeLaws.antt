-- What holds at the head of a loop over the steps of a program: what those gone through left and cost.
use mathlib.Core.Path.{◌≡◌, sym, ap, ◌∙◌}
use mathlib.Core.Bool.{true}
use mathlib.Core.List.{List, [], ◌∷◌}
use Prim.Native.Nat.{ℕ, ◌+◌, ◌*◌, ◌≤◌, ◌<◌}
use native.Mathlib.Nat.{le_trans, zero-add, add-zero, add_assoc}
use native.Mathlib.Numerals.{add-one}
use native.Mathlib.Omega.{arith}
use lib.ListN.{length, get_or, drop, drop_of_length-le}
use lib.Seq.{drop-cons}
use Rattle.ground.specs.Lists.{Every, sum}
use Rattle.ground.proofs.EveryLaws.{every_get_d}
use Rattle.contents.specs.declared.envelope.Envelope.{Envelope}
use Rattle.paths.specs.Steps.{legal}
use Rattle.papers.specs.Programs.{no_step, steps_of, Acceptable}
use Rattle.paths.specs.declared.steps.Step.{Step}
use Rattle.papers.specs.declared.programs.Program.{Program}
use Rattle.estimates.specs.Profile.{estimated_rows, rows_after, after_step, local_profile}
use Rattle.estimates.specs.Costs.{step_cost}
use Rattle.estimates.specs.Kind.{after_all, costs}
use Rattle.estimates.specs.Estimate.{kind_of}
use Rattle.estimates.specs.Ready.{Low, Ready}
use Rattle.estimates.specs.declared.profiles.Profile.{Profile}
use Rattle.estimates.specs.declared.costs.Costs.{Costs}
use Rattle.estimates.proofs.ProfileLaws.{Inside, local_inside, rows_most, rows_after_lem, step_inside}
use Rattle.estimates.proofs.CostLaws.{cost_most}
use Rattle.estimates.proofs.BoundCodeLaws.{counts_most}

-- of some steps i are gone through: they left p and cost what is spent
pub record Spending (k : Costs) (e : Envelope) (ss : List Step) (i : ℕ) (p : Profile) (spent : ℕ) : Type 0 where
  pub within : i ≤ length ss
  pub few : length ss ≤ 156
  pub lawful : Every (λ (s : Step). legal e s ≡ true) ss
  pub small : spent ≤ 255000000 * i
  pub inside : Inside e p
  pub after : after_all (kind_of k e) (local_profile e) ss ≡ after_all (kind_of k e) p (drop i ss)
  pub cost : sum (costs (kind_of k e) (local_profile e) ss) ≡ spent + sum (costs (kind_of k e) p (drop i ss))

module _ (k : Costs) (e : Envelope) (local : Profile) (w : Ready k e local) where
  pub spending_start : (f : Program) → Acceptable e f → (ss : List Step) → ss ≡ steps_of f → Spending k e ss 0 local 0
  spending_start f a ss g =
      record {
        within = omega arith;
        few = rw g (omega (arith, a.whole, a.count));
        lawful = rw g a.steps;
        small = omega arith;
        inside = rw w.local (local_inside e);
        after = rw w.local;
        cost = rw w.local (sym (zero-add (sum (costs (kind_of k e) (local_profile e) ss))));
      }

  module _ (ss : List Step) (i : ℕ) (p : Profile) (spent : ℕ) (a : Spending k e ss i p spent) where
    pub rows_low : Low p.rows
    rows_low = rows_most e w.within p a.inside

    pub counts_low : Low p.counts
    counts_low = counts_most e w.within w.tidied p a.inside

    module _ (h : i < length ss) where
      step_legal : legal e (get_or ss i no_step) ≡ true
      step_legal = every_get_d (λ (s : Step). legal e s ≡ true) ss i no_step h a.lawful

      pub step_shrinks : rows_after e p (get_or ss i no_step) ≤ estimated_rows p (get_or ss i no_step).left.relation
      step_shrinks = rows_after_lem e w.within p a.inside (get_or ss i no_step) step_legal

      pub step_few : rows_after e p (get_or ss i no_step) ≤ 1000000
      step_few = le_trans step_shrinks (rows_low (get_or ss i no_step).left.relation)

      pub rest : drop i ss ≡ get_or ss i no_step ∷ drop (i + 1) ss
      rest = drop-cons ss i no_step h ∙ rw (add-one i)

      module _ (v : ℕ) (g : v ≡ step_cost k e p (get_or ss i no_step)) where
        pub cost_few : v ≤ 255000000
        cost_few =
            let m : step_cost k e p (get_or ss i no_step) ≤ 255000000 * 1 = cost_most e w.within k 1 w.cheap p (get_or ss i no_step) a.inside step_legal in
            rw g (omega (arith, m))

        pub spending_more : (q : Profile) → q ≡ after_step e p (get_or ss i no_step) → Spending k e ss (i + 1) q (spent + v)
        spending_more q u =
            record {
              within = omega arith;
              few = a.few;
              lawful = a.lawful;
              small = omega (arith, a.small, cost_few);
              inside = rw u (step_inside e w.within p a.inside (get_or ss i no_step) step_legal);
              after =
                  a.after ∙ ap (after_all (kind_of k e) p) rest
                  ∙ ap (λ (y : Profile). after_all (kind_of k e) y (drop (i + 1) ss)) (sym u);
              cost =
                  a.cost ∙ ap (λ (x : List Step). spent + sum (costs (kind_of k e) p x)) rest
                  ∙ ap (λ (y : Profile). spent + (step_cost k e p (get_or ss i no_step) + sum (costs (kind_of k e) y (drop (i + 1) ss)))) (sym u)
                  ∙ ap (λ (x : ℕ). spent + (x + sum (costs (kind_of k e) q (drop (i + 1) ss)))) (sym g)
                  ∙ sym (add_assoc spent v (sum (costs (kind_of k e) q (drop (i + 1) ss))));
            }

    module _ (h : length ss ≤ i) where
      pub none_left : drop i ss ≡ []
      none_left = drop_of_length-le ss h

      pub spending_done : (after_all (kind_of k e) (local_profile e) ss ≡ p) × (sum (costs (kind_of k e) (local_profile e) ss) ≡ spent)
      spending_done = (a.after ∙ rw none_left, a.cost ∙ rw none_left (add-zero spent))
