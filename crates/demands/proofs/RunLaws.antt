-- The one-place run step by step: what a step does to its own relation's marks and to the others', and that a relation's marks
-- stay as they are from one of its steps to the next.
use mathlib.Core.Path.{◌≡◌, sym, ap, ◌∙◌}
use mathlib.Core.Bool.{true}
use mathlib.Core.List.{List, [], ◌∷◌, ◌++◌}
use Prim.Native.Nat.{ℕ, zero, suc, ◌+◌, ◌-◌, ◌≤◌, ◌<◌}
use native.Mathlib.Decide.{ℕ_discrete}
use native.Mathlib.Omega.{arith}
use lib.ListN.{take, replicate}
use lib.Seq.{take-suc, take_all}
use Rattle.ground.proofs.CountLaws.{split}
use Rattle.contents.specs.declared.envelope.Envelope.{Envelope}
use Rattle.papers.specs.Programs.{no_step, steps_of}
use Rattle.paths.specs.declared.steps.Step.{Step}
use Rattle.papers.specs.declared.programs.Program.{Program}
use Rattle.tables.specs.Offsets.{row_count, marks_at}
use Rattle.semijoin.specs.Local.{opened_in}
use Rattle.semijoin.specs.Marks.{reduced_by}
use Rattle.tables.specs.Values.{values_of}
use Rattle.semijoin.specs.Run.{stepped, stepped_all}
use Rattle.semijoin.proofs.PromiseLaws.{promise}
use Rattle.semijoin.proofs.CallPromiseLaws.{call_promise}
use Rattle.ends.specs.Reducing.{step_count, step_of, steps_before}
use Rattle.ends.proofs.ReducingLaws.{before_own, before_mono}
use Rattle.demands.specs.Link.{Crew}
use Rattle.demands.specs.DemandThree.{run_after}

steps_append : (e : Envelope) (words : List ℕ) (a b : List Step) (marks : List ℕ)
    → stepped_all e words (a ++ b) marks ≡ stepped_all e words b (stepped_all e words a marks)
steps_append e words [] b marks = ap (stepped_all e words b) (sym (call_promise.steps_none e words marks))
steps_append e words (s ∷ a) b marks =
    call_promise.steps_first e words s (a ++ b) marks
    ∙ steps_append e words a b (stepped e words s marks)
    ∙ ap (stepped_all e words b) (sym (call_promise.steps_first e words s a marks))

-- one step alone
steps_one : (e : Envelope) (words : List ℕ) (s : Step) (marks : List ℕ)
    → stepped_all e words (s ∷ []) marks ≡ reduced_by e words (values_of e words marks s.right) s.left marks
steps_one e words s marks =
    call_promise.steps_first e words s [] marks
    ∙ call_promise.steps_none e words (stepped e words s marks)
    ∙ call_promise.step_is e words s marks

module _ (c : Crew) where
  abbrev e : Envelope
  e = c.papers.envelope

  abbrev p : Program
  p = c.papers.program

  pub run_none : run_after c 0 ≡ opened_in e c.whole (λ _. true) (replicate (row_count e c.whole) 0)
  unfolding run_after
  run_none = call_promise.steps_none e c.whole (opened_in e c.whole (λ _. true) (replicate (row_count e c.whole) 0))

  pub run_step : (n : ℕ) → n < step_count p
      → run_after c (suc n) ≡ reduced_by e c.whole (values_of e c.whole (run_after c n) (step_of p n).right) (step_of p n).left (run_after c n)
  unfolding run_after step_of
  run_step n h =
      let first = opened_in e c.whole (λ _. true) (replicate (row_count e c.whole) 0) in
      ap (λ (l : List Step). stepped_all e c.whole l first) (take-suc (steps_of p) n no_step h)
      ∙ steps_append e c.whole (take n (steps_of p)) (step_of p n ∷ []) first
      ∙ steps_one e c.whole (step_of p n) (run_after c n)

  run_past : (n : ℕ) → step_count p ≤ n → run_after c (suc n) ≡ run_after c n
  unfolding run_after
  run_past n h =
      ap (λ (l : List Step). stepped_all e c.whole l (opened_in e c.whole (λ _. true) (replicate (row_count e c.whole) 0)))
      (take_all (suc n) (steps_of p) (omega arith) ∙ sym (take_all n (steps_of p) h))

  -- a relation's marks, from one of its steps to the next
  still : (r n d : ℕ) → steps_before p r (n + d) ≤ steps_before p r n → marks_at e c.whole r (run_after c (n + d)) ≡ marks_at e c.whole r (run_after c n)
  still r n zero h = let s : n + 0 ≡ n = omega arith in rw s
  still r n (suc d) h =
      let s : n + suc d ≡ suc (n + d) = omega arith in
      let low : steps_before p r n ≤ steps_before p r (n + d) = before_mono p r n (n + d) (omega arith) in
      let high : steps_before p r (n + d) ≤ steps_before p r (suc (n + d)) = before_mono p r (n + d) (suc (n + d)) (omega arith) in
      let whole : steps_before p r (suc (n + d)) ≤ steps_before p r n = rw s at h in
      rw s (one (n + d) (omega arith) ∙ still r n d (omega arith))
    where
      one : (k : ℕ) → steps_before p r (suc k) ≤ steps_before p r k → marks_at e c.whole r (run_after c (suc k)) ≡ marks_at e c.whole r (run_after c k)
      one k h =
          split (step_count p) k (λ l. ap (marks_at e c.whole r) (run_past k l)) λ l. go l (ℕ_discrete (step_of p k).left.relation r)
        where
          go : k < step_count p → Dec ((step_of p k).left.relation ≡ r)
              → marks_at e c.whole r (run_after c (suc k)) ≡ marks_at e c.whole r (run_after c k)
          go l (yes t) = absurd (omega (arith, before_own p r k l t))
          go l (no t) =
              ap (marks_at e c.whole r) (run_step k l)
              ∙ (promise e).others_stay c.whole (values_of e c.whole (run_after c k) (step_of p k).right) (run_after c k) (step_of p k).left r
              (λ w. t (sym w))

  pub run_still : (r n k : ℕ) → n ≤ k → steps_before p r k ≤ steps_before p r n → marks_at e c.whole r (run_after c k) ≡ marks_at e c.whole r (run_after c n)
  run_still r n k h few =
      let s : n + (k - n) ≡ k = omega arith in
      rw s at (still r n (k - n) (rw s few))
