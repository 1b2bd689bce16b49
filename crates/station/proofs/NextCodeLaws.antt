-- What the next step of a relation that is missing says of a step that came: it is the next, or it is refused by 15, 16 or 17.
use mathlib.Core.Path.{◌≡◌, refl, ap, sym, ◌∙◌}
use mathlib.Core.Bool.{Bool, true, false, not}
use mathlib.Core.List.{List}
use Prim.Native.Nat.{ℕ, ◌+◌, ◌≤◌, ◌<◌, ◌-◌}
use native.Mathlib.Omega.{arith}
use lib.ListN.{length, take, drop, length-drop}
use lib.Seq.{take_all}
use lib.Dec.{ltb, eqb}
use native.Mathlib.Decide.{ℕ_discrete}
use borrow.Author.Tests.{lt-ltb, le-ltb, eq-eqb, ne_eqb, eqb-true, eqb-false, not-true, not-false}
use Rattle.ground.specs.Tests.{pick}
use Rattle.ground.proofs.CountLaws.{split}
use Rattle.ground.specs.declared.refusals.Reason.TheVariants.{NotSound, AlreadyTaken, StepMissing}
use Rattle.paths.specs.declared.steps.Step.{Step}
use Rattle.papers.specs.declared.programs.Program.{Program}
use Rattle.tables.specs.Rising.{is_rising}
use Rattle.ends.specs.Reducing.{step_count, step_of, steps_before, missing_of}
use Rattle.std.specs.Prelude.{Option, Some, None}
use Rattle.ground.specs.declared.refusals.Reason.{Reason}
use Rattle.station.specs.Receiving.{is_next, not_next}
use Rattle.ends.proofs.ReducingLaws.{next_itself, next_earlier, next_none}

-- the words behind the three in front, as they are lent
pub body_part : (m : List ℕ) → take (length m - 3) (drop 3 m) ≡ drop 3 m
body_part m = take_all (length m - 3) (drop 3 m) (omega (arith, length-drop 3 m))

module _ (m by : List ℕ) (p : by ≡ drop 3 m) (missing : Option ℕ) (b : Bool) (g : b ≡ is_rising by) where
  abbrev why : Reason
  why = pick (not (is_rising (drop 3 m))) NotSound (not_next missing)

  f : b ≡ is_rising (drop 3 m)
  f = g ∙ ap is_rising p

  pub next_falls : not b ≡ true → NotSound ≡ why
  next_falls t = rw (← f, t)

  pub next_early : not b ≡ false → (first : ℕ) → missing ≡ Some first → StepMissing ≡ why
  unfolding not_next
  next_early t first e = rw (← f, t, e)

  pub next_late : not b ≡ false → missing ≡ None → AlreadyTaken ≡ why
  unfolding not_next
  next_late t e = rw (← f, t, e)

-- which step of its relation is missing says where a step stands: as many before it as are applied, fewer or more
module _ (p : Program) (n : ℕ) (inside : n < step_count p) (s : Step) (e : s ≡ step_of p n) (done : ℕ) (missing : Option ℕ)
    (i : missing ≡ missing_of p s.left.relation done (n + 1)) where
  abbrev before : ℕ
  before = steps_before p s.left.relation n

  own : (step_of p n).left.relation ≡ s.left.relation
  own = ap (λ (y : Step). y.left.relation) (sym e)

  earlier : done < before → (k : ℕ) × (k < n) × (missing ≡ Some k)
  earlier h = let (k, l, is) = next_earlier p s.left.relation n inside own done h in (k, l, i ∙ is)

  none : before < done → missing ≡ None
  none h = i ∙ next_none p s.left.relation n inside own done h

  is_next_same : is_next missing n ≡ eqb before done
  is_next_same = split done before (by_before (ℕ_discrete before done)) (λ h. rw (none h, ne_eqb before done (omega (arith, h))))
    where
      by_before : Dec (before ≡ done) → done ≤ before → is_next missing n ≡ eqb before done
      by_before (yes same) h =
          rw (i, next_itself p s.left.relation n inside own done (sym same), eq-eqb before done same, eq-eqb n n refl)
      by_before (no other) h =
          let (k, l, is) = earlier (omega (arith, h, other)) in
          rw (is, ne_eqb k n (omega (arith, l)), ne_eqb before done other)

  module _ (b : Bool) (f : b ≡ is_next missing n) where
    pub next_same : not b ≡ false → before ≡ done
    next_same t = eqb-true before done (sym is_next_same ∙ sym f ∙ not-false b t)

    pub next_other : not b ≡ true → before ≡ done → ⊥
    next_other t = eqb-false before done (sym is_next_same ∙ sym f ∙ not-true b t)

  pub not_next_by : (before ≡ done → ⊥) → not_next missing ≡ pick (ltb before done) AlreadyTaken StepMissing
  unfolding not_next
  not_next_by other =
      split done before
      (λ h. let (k, l, is) = earlier (omega (arith, h, other)) in rw (is, le-ltb before done h))
      (λ h. rw (none h, lt-ltb before done h))
