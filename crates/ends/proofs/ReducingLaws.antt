-- The laws of the order of a relation's steps: which there are below a number and how many, what an answer says, and what it says of a
-- step itself.
use mathlib.Core.Path.{◌≡◌, refl, ap, sym, ◌∙◌}
use mathlib.Core.Bool.{Bool, true, false}
use mathlib.Core.List.{List, Memᴰ, [], ◌∷◌, ◌++◌, append-nil}
use Prim.Native.Nat.{ℕ, suc, ◌+◌, ◌≤◌, ◌<◌, min}
use native.Mathlib.Decide.{ℕ_discrete}
use native.Mathlib.Numerals.{add-one}
use native.Mathlib.Omega.{arith}
use lib.ListN.{length, get_or, set, length-append, get_or-append}
use lib.Dec.{ltb}
use lib.Seq.{get_or_at, get_or-set_same, get_or-set_other}
use borrow.Author.Tests.{eq-eqb, ne_eqb, lt-ltb, le-ltb}
use Rattle.ground.specs.Tests.{pick}
use Rattle.ground.specs.Lists.{filter, below}
use Rattle.ground.proofs.OutcomeLaws.{never}
use Rattle.ground.proofs.ListLaws.{get_d_mem, filter_from, filter_length}
use Rattle.ground.proofs.NumbersLaws.{below_from, below_length, filter_below}
use Rattle.papers.specs.Programs.{steps_of}
use Rattle.papers.specs.declared.programs.Program.{Program}
use Rattle.ends.specs.Reducing.{step_count, step_of, reduces, reducing, steps_before, is_missing, first_missing, missing_of}
use Rattle.std.specs.Prelude.{Option, Some, None}
use Rattle.ground.proofs.CountingLaws.{counted_more}

-- ---- the steps of a relation below a number, and how many there are

module _ (p : Program) (r : ℕ) where
  abbrev earlier : ℕ → List ℕ
  earlier n = reducing (steps_of p) r n

  up_to : (n : ℕ) → n ≤ step_count p → earlier n ≡ filter (reduces (steps_of p) r) (below n)
  unfolding reducing
  up_to n h =
      let s : min n (length (steps_of p)) ≡ n = omega arith in
      ap (λ k. filter (reduces (steps_of p) r) (below k)) s

  one_more : (n : ℕ) → n < step_count p → earlier (n + 1) ≡ earlier n ++ filter (reduces (steps_of p) r) (n ∷ [])
  one_more n h = up_to (n + 1) (omega arith) ∙ filter_below (reduces (steps_of p) r) n ∙ rw (up_to n (omega arith))

  -- a step of the relation is one more, another is none
  own_more : (n : ℕ) → n < step_count p → (step_of p n).left.relation ≡ r → earlier (n + 1) ≡ earlier n ++ (n ∷ [])
  unfolding reduces step_of
  own_more n h t = one_more n h ∙ rw (eq-eqb (step_of p n).left.relation r t)

  none_more : (n : ℕ) → n < step_count p → ((step_of p n).left.relation ≡ r → ⊥) → earlier (n + 1) ≡ earlier n
  unfolding reduces step_of
  none_more n h t = one_more n h ∙ rw (ne_eqb (step_of p n).left.relation r t) (append-nil (earlier n))

  pub before_own : (n : ℕ) → n < step_count p → (step_of p n).left.relation ≡ r → steps_before p r (suc n) ≡ steps_before p r n + 1
  unfolding steps_before
  before_own n h t = rw (← add-one n) (ap (λ (l : List ℕ). length l) (own_more n h t) ∙ length-append (earlier n) (n ∷ []))

  pub before_other : (n : ℕ) → n < step_count p → ((step_of p n).left.relation ≡ r → ⊥) → steps_before p r (suc n) ≡ steps_before p r n
  unfolding steps_before
  before_other n h t = rw (← add-one n) (ap (λ (l : List ℕ). length l) (none_more n h t))

  -- before a later number there are no fewer, and before n no more than n
  pub before_mono : (n k : ℕ) → n ≤ k → steps_before p r n ≤ steps_before p r k
  unfolding steps_before reducing
  before_mono n k h = counted_more (reduces (steps_of p) r) (min n (length (steps_of p))) (min k (length (steps_of p))) (omega arith)

  pub before_most : (n : ℕ) → steps_before p r n ≤ n
  unfolding steps_before reducing
  before_most n =
      omega (
        arith,
        filter_length (reduces (steps_of p) r) (below (min n (length (steps_of p)))),
        below_length (min n (length (steps_of p))),
      )

-- a step of a relation stands before the relation's last
pub before_less : (p : Program) (n : ℕ) → n < step_count p → steps_before p (step_of p n).left.relation n < steps_before p (step_of p n).left.relation (step_count p)
before_less p n h =
    let r = (step_of p n).left.relation in
    omega (arith, before_own p r n h refl, before_mono p r (suc n) (step_count p) h)

-- with the next step of its relation applied, no relation has more applied than the program has of it
pub applied_within : (p : Program) (applied : List ℕ) (n : ℕ) → n < step_count p → (step_of p n).left.relation < length applied
    → get_or applied (step_of p n).left.relation 0 ≡ steps_before p (step_of p n).left.relation n
    → (r : ℕ) → get_or applied r 0 ≤ steps_before p r (step_count p)
    → get_or (set applied (step_of p n).left.relation (get_or applied (step_of p n).left.relation 0 + 1)) r 0 ≤ steps_before p r (step_count p)
applied_within p applied n few inside due r within = go (ℕ_discrete r (step_of p n).left.relation)
  where
    go : Dec (r ≡ (step_of p n).left.relation)
        → get_or (set applied (step_of p n).left.relation (get_or applied (step_of p n).left.relation 0 + 1)) r 0 ≤ steps_before p r (step_count p)
    go (yes t) =
        let own = (step_of p n).left.relation in
        rw (t, get_or-set_same applied own (get_or applied own 0 + 1) 0 inside) (omega (arith, before_less p n few, due))
    go (no t) =
        let own = (step_of p n).left.relation in
        rw (get_or-set_other applied own r (get_or applied own 0 + 1) 0 t) within

module _ (p : Program) (r applied n : ℕ) where
  -- what an answer says
  module _ (x : Option ℕ) (e : x ≡ missing_of p r applied n) where
    pub missing_first : (k : ℕ) → x ≡ Some k → (is_missing p r applied n ≡ true) × (first_missing p r applied n ≡ k)
    unfolding missing_of is_missing first_missing steps_before
    missing_first k f = go (ltb applied (length (reducing (steps_of p) r n))) (sym f ∙ e)
      where
        go : (b : Bool) → Some k ≡ pick b (Some (get_or (reducing (steps_of p) r n) applied 0)) None
            → (b ≡ true) × (get_or (reducing (steps_of p) r n) applied 0 ≡ k)
        go true h = (refl, cc)
        go false h = let z : ◌≡◌ {A = ℕ} 0 1 = cc in absurd (never z)

    pub missing_not : x ≡ None → is_missing p r applied n ≡ false
    unfolding missing_of is_missing first_missing steps_before
    missing_not f = go (ltb applied (length (reducing (steps_of p) r n))) (sym f ∙ e)
      where
        go : (b : Bool) → None ≡ pick b (Some (get_or (reducing (steps_of p) r n) applied 0)) None → b ≡ false
        go true h = let z : ◌≡◌ {A = ℕ} 0 1 = cc in absurd (never z)
        go false h = refl

-- a step of the relation itself, with so many applied: it is the first missing one up to it where as many stand before it; an earlier
-- one is where fewer are applied, and none where more are
module _ (p : Program) (r n : ℕ) (inside : n < step_count p) (own : (step_of p n).left.relation ≡ r) where
  abbrev before : List ℕ
  before = reducing (steps_of p) r n

  behind : reducing (steps_of p) r (n + 1) ≡ before ++ (n ∷ [])
  behind = own_more p r n inside own

  longer : length (before ++ (n ∷ [])) ≡ length before + 1
  longer = length-append before (n ∷ [])

  lower : {k : ℕ} → Memᴰ k before → k < n
  lower m = below_from n (filter_from (reduces (steps_of p) r) (below n) (rw (up_to p r n (omega arith)) at m)).0

  module _ (applied : ℕ) where
    pub next_itself : applied ≡ steps_before p r n → missing_of p r applied (n + 1) ≡ Some n
    unfolding missing_of is_missing first_missing steps_before
    next_itself e =
        rw (
          behind,
          lt-ltb applied (length (before ++ (n ∷ []))) (omega (arith, e, longer)),
          get_or_at before n [] 0 applied (sym e),
        )

    pub next_earlier : applied < steps_before p r n → (k : ℕ) × (k < n) × (missing_of p r applied (n + 1) ≡ Some k)
    unfolding missing_of is_missing first_missing steps_before
    next_earlier h = (
      get_or before applied 0,
      lower (get_d_mem before applied 0 h),
      rw (
        behind,
        lt-ltb applied (length (before ++ (n ∷ []))) (omega (arith, h, longer)),
        get_or-append before (n ∷ []) 0 applied h,
      ),
    )

    pub next_none : steps_before p r n < applied → missing_of p r applied (n + 1) ≡ None
    unfolding missing_of is_missing first_missing steps_before
    next_none h = rw (behind, le-ltb applied (length (before ++ (n ∷ []))) (omega (arith, h, longer)))
