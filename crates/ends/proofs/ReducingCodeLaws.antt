-- The laws that the functions on a relation's steps go by: how many of the first steps reduce it, and what a search past those
-- applied has found.
use mathlib.Core.Path.{◌≡◌, refl, sym, ◌∙◌, ap}
use Prim.Native.Nat.{ℕ, zero, suc, ◌+◌, ◌-◌, ◌≤◌, ◌<◌, min}
use native.Mathlib.Numerals.{add-one}
use native.Mathlib.Omega.{arith}
use mathlib.Core.List.{List, [], ◌∷◌, ◌++◌}
use mathlib.Core.Bool.{Bool, true, false, cond}
use lib.Dec.{eqb, ltb}
use lib.ListN.{length, get_or, take, drop, length-append, length-take}
use lib.Seq.{take-suc}
use borrow.Author.Tests.{eq-eqb, ne_eqb, lt-ltb, le-ltb}
use Rattle.std.specs.Prelude.{Option, Some, None}
use Rattle.std.specs.List.{count_by}
use Rattle.ground.specs.Tests.{pick}
use Rattle.ground.specs.Lists.{filter, below, numbers_from}
use Rattle.ground.proofs.ListLaws.{filter_append, filter_length}
use Rattle.ground.proofs.NumbersLaws.{filter_below}
use Rattle.ground.proofs.MirrorLaws.{count_is}
use Rattle.ground.proofs.CountingLaws.{Counting, counting_start, counting_yes, counting_no, counting_done, counting_found, counting_less}
use Rattle.papers.specs.Programs.{no_step, steps_of}
use Rattle.paths.specs.declared.steps.Step.{Step}
use Rattle.papers.specs.declared.programs.Program.{Program}
use Rattle.ends.specs.Reducing.{reduces, reducing, steps_before}
use Rattle.ends.specs.Searching.{Search, seen_of, sought_from, search_for, number_found, sought_next}
use Rattle.ends.proofs.SearchingLaws.{seen_other, seen_one, seen_past, sought_turn, sought_done, sought_past}

-- ---- how many of the first steps reduce a relation

module _ (steps : List Step) (r : ℕ) where
  abbrev of_r : Step → Bool
  of_r s = eqb s.left.relation r

  one_more : (k : ℕ) → length (filter of_r (get_or steps k no_step ∷ [])) ≡ length (filter (reduces steps r) (k ∷ []))
  unfolding reduces
  one_more k = go (of_r (get_or steps k no_step))
    where
      go : (b : Bool) → length (cond b (get_or steps k no_step ∷ []) []) ≡ length (cond b (k ∷ []) [])
      go true = refl
      go false = refl

  none_of : length (filter of_r []) ≡ length (filter (reduces steps r) (below 0))
  unfolding numbers_from
  none_of = refl

  pub first_reducing : (k : ℕ) → k ≤ length steps → length (filter of_r (take k steps)) ≡ length (filter (reduces steps r) (below k))
  first_reducing zero h = none_of
  first_reducing (suc k) h =
      let ih : length (filter of_r (take k steps)) ≡ length (filter (reduces steps r) (below k)) = first_reducing k (omega arith) in
      let some : List Step = filter of_r (get_or steps k no_step ∷ []) in
      let one : List ℕ = filter (reduces steps r) (k ∷ []) in
      let here : filter of_r (take (suc k) steps) ≡ filter of_r (take k steps) ++ some =
      rw (take-suc steps k no_step (omega arith)) (filter_append of_r (take k steps) (get_or steps k no_step ∷ [])) in
      let there : filter (reduces steps r) (below (suc k)) ≡ filter (reduces steps r) (below k) ++ one =
      rw (← add-one k) (filter_below (reduces steps r) k) in
      rw (here, there)
      (omega (
        arith,
        ih,
        one_more k,
        length-append (filter of_r (take k steps)) some,
        length-append (filter (reduces steps r) (below k)) one,
      ))

pub before_count : (p : Program) (r n : ℕ) (k : ℕ) → k ≡ count_by (λ (s : Step). eqb s.left.relation r) (take (min n (length (steps_of p))) (steps_of p))
    → k ≡ steps_before p r n
unfolding steps_before reducing
before_count p r n k e =
    e
    ∙ count_is (λ (s : Step). eqb s.left.relation r) (take (min n (length (steps_of p))) (steps_of p))
    ∙ first_reducing (steps_of p) r (min n (length (steps_of p))) (omega arith)

pub count_small : (p : Program) (r n : ℕ) (k : ℕ) → k ≡ count_by (λ (s : Step). eqb s.left.relation r) (take n (steps_of p)) → k ≤ length p.steps
unfolding steps_of
count_small p r n k e =
    let same : k ≡ length (filter (λ (s : Step). eqb s.left.relation r) (take n (steps_of p))) =
    e ∙ count_is (λ (s : Step). eqb s.left.relation r) (take n (steps_of p)) in
    omega (
      arith,
      same,
      filter_length (λ (s : Step). eqb s.left.relation r) (take n (steps_of p)),
      length-take n (steps_of p),
      length-take p.count p.steps,
    )

-- ---- a search past so many steps of the relation: of those before i, all but so many that are left were passed over

module _ (steps : List Step) (r skip n : ℕ) where
  abbrev f : ℕ → Bool
  f = reduces steps r

  abbrev end : ℕ
  end = min n (length steps)

  -- what the search answers
  abbrev Next : Option ℕ → Type 0
  Next x = x ≡ pick (ltb skip (length (reducing steps r n))) (Some (get_or (reducing steps r n) skip 0)) None

  pub record Passing (i left : ℕ) : Type 0 where
    pub few : left ≤ skip
    pub counted : Counting f end i (skip - left)

  pub passing_start : Passing 0 skip
  passing_start = let z : skip - skip ≡ 0 = omega arith in record { few = omega arith; counted = rw z (counting_start f end) }

  module _ (i left : ℕ) (g : Passing i left) where
    module _ (h : i < end) where
      pub passing_other : ((get_or steps i no_step).left.relation ≡ r → ⊥) → Passing (i + 1) left
      unfolding reduces
      passing_other t =
          record { few = g.few; counted = counting_no f end i (skip - left) g.counted h (ne_eqb (get_or steps i no_step).left.relation r t) }

      module _ (t : (get_or steps i no_step).left.relation ≡ r) where
        own : f i ≡ true
        unfolding reduces
        own = eq-eqb (get_or steps i no_step).left.relation r t

        pub passing_own : (left ≡ 0 → ⊥) → Passing (i + 1) (left - 1)
        passing_own z =
            let s : skip - left + 1 ≡ skip - (left - 1) = omega (arith, g.few) in
            record { few = omega (arith, g.few); counted = rw s at (counting_yes f end i (skip - left) g.counted h own) }

        pub next_found : left ≡ 0 → Next (Some i)
        unfolding reducing
        next_found z =
            let s : skip - left ≡ skip = omega arith in
            let less : skip < length (filter f (below end)) = rw s at (counting_less f end i (skip - left) g.counted h own) in
            let is : get_or (filter f (below end)) skip 0 ≡ i = rw s at (counting_found f end i (skip - left) g.counted h own) in
            sym (rw (lt-ltb skip (length (filter f (below end))) less, is))

    pub next_none : end ≤ i → Next None
    unfolding reducing
    next_none h =
        let all : skip - left ≡ length (filter f (below end)) = counting_done f end i (skip - left) g.counted h in
        let few : length (filter f (below end)) ≤ skip = omega arith in
        sym (rw (le-ltb skip (length (filter f (below end))) few))

  -- ---- and the fold over the steps: it seeks among those left what it seeks among all

  -- what the search answers: the step behind so many, which is what the fold over the steps finds
  abbrev Sought : Option ℕ → Type 0
  Sought x = Next x × (x ≡ sought_next steps r skip n)

  -- the fold as it is at i
  abbrev now : ℕ → Search
  now left = search_for r left end

  pub record Following (i left : ℕ) : Type 0 where
    pub few : left ≤ skip
    pub counted : Counting f end i (skip - left)
    pub sought : sought_from (drop i steps) i (now left) ≡ sought_from steps 0 (now skip)

  pub following_start : Following 0 skip
  following_start = record { few = passing_start.few; counted = passing_start.counted; sought = refl }

  module _ (i left : ℕ) (g : Following i left) where
    passed : Passing i left
    passed = record { few = g.few; counted = g.counted }

    module _ (h : i < end) where
      abbrev one : Step
      one = get_or steps i no_step

      -- what is left is sought by what one more step makes of the search
      on : (c : Search) → c ≡ seen_of (now left) one i → sought_from (drop (i + 1) steps) (i + 1) c ≡ sought_from steps 0 (now skip)
      on c e = ap (sought_from (drop (i + 1) steps) (i + 1)) e ∙ sym (sought_turn steps i (now left) (omega (arith, h))) ∙ g.sought

      pub following_other : (one.left.relation ≡ r → ⊥) → Following (i + 1) left
      following_other t =
          let p : Passing (i + 1) left = passing_other i left passed h t in
          record { few = p.few; counted = p.counted; sought = on _ (seen_other (now left) one i refl h t) }

      module _ (t : one.left.relation ≡ r) where
        pub following_own : (left ≡ 0 → ⊥) → Following (i + 1) (left - 1)
        following_own z =
            let p : Passing (i + 1) (left - 1) = passing_own i left passed h t z in
            record { few = p.few; counted = p.counted; sought = on _ (seen_past (now left) one i refl h t z) }

        found_one : left ≡ 0 → Some i ≡ sought_next steps r skip n
        found_one z =
            let it : Search = record { relation = r; skip = left; end = end; found = true; at = i } in
            let is : it ≡ sought_from steps 0 (now skip) =
            sym (sought_done (drop (i + 1) steps) (i + 1) it refl) ∙ on it (seen_one (now left) one i refl h t z) in
            ap number_found is

        pub sought_found : left ≡ 0 → Sought (Some i)
        sought_found z = (next_found i left passed h t z, found_one z)

    pub sought_none : end ≤ i → Sought None
    sought_none h =
        let is : now left ≡ sought_from steps 0 (now skip) = sym (sought_past (drop i steps) i (now left) refl h) ∙ g.sought in
        (next_none i left passed h, ap number_found is)
