-- The laws of the search for a relation's next step, as a fold over what is left of the steps: how one step is looked at, what a turn
-- takes off, that nothing is left at the end, and what the search finds.
use mathlib.Core.Path.{◌≡◌, refl, sym, ◌∙◌, ap, subst}
use Prim.Native.Nat.{ℕ, suc, ◌+◌, ◌-◌, ◌≤◌, ◌<◌, min}
use native.Mathlib.Numerals.{add-one}
use native.Mathlib.Omega.{arith}
use mathlib.Core.List.{List, [], ◌∷◌, head-eq_of_cons-eq, tail-eq_of_cons-eq}
use mathlib.Core.Bool.{Bool, true, false, false≢true}
use lib.Dec.{eqb, leb}
use lib.ListN.{length, get_or, drop, length-drop, length-take, drop_of_length-le}
use lib.Seq.{drop-cons}
use borrow.Author.Tests.{eq-eqb, ne_eqb, eqb-true, eqb-false, le-leb, lt-leb, leb-true, leb-false}
use Rattle.ground.specs.Lists.{filter, below}
use Rattle.ground.proofs.ListLaws.{filter_length}
use Rattle.ground.proofs.NumbersLaws.{below_length}
use Rattle.ground.proofs.CountingLaws.{Counting, counting_start, counting_yes, counting_no, counting_done, counting_found, counting_less}
use Rattle.papers.specs.Programs.{no_step, steps_of}
use Rattle.paths.specs.declared.steps.Step.{Step}
use Rattle.papers.specs.declared.programs.Program.{Program}
use Rattle.ends.specs.Reducing.{reduces, reducing, steps_before}
use Rattle.ends.specs.Searching.{Search, seen_of, sought_from, search_for, Found}

-- ---- one step is looked at

module _ (c : Search) (s : Step) (at : ℕ) where
  pub seen_over : c.found ≡ true → c ≡ seen_of c s at
  unfolding seen_of
  seen_over e = simp e

  pub seen_end : c.found ≡ false → c.end ≤ at → c ≡ seen_of c s at
  unfolding seen_of
  seen_end e h = simp (e, le-leb _ _ h)

  module _ (still : c.found ≡ false) (below_end : at < c.end) where
    pub seen_other : (s.left.relation ≡ c.relation → ⊥) → c ≡ seen_of c s at
    unfolding seen_of
    seen_other h = simp (still, lt-leb _ _ below_end, ne_eqb _ _ h)

    pub seen_one : s.left.relation ≡ c.relation → c.skip ≡ 0
        → record { relation = c.relation; skip = c.skip; end = c.end; found = true; at = at } ≡ seen_of c s at
    unfolding seen_of
    seen_one h z = simp (still, lt-leb _ _ below_end, eq-eqb _ _ h, eq-eqb _ _ z)

    pub seen_past : s.left.relation ≡ c.relation → (c.skip ≡ 0 → ⊥)
        → record { relation = c.relation; skip = c.skip - 1; end = c.end; found = c.found; at = c.at } ≡ seen_of c s at
    unfolding seen_of
    seen_past h z = simp (still, lt-leb _ _ below_end, eq-eqb _ _ h, ne_eqb _ _ z)

-- ---- the steps that are left

module _ (steps : List Step) where
  -- one step is taken off what is left
  pub sought_turn : (i : ℕ) (c : Search) → i < length steps
      → sought_from (drop i steps) i c ≡ sought_from (drop (i + 1) steps) (i + 1) (seen_of c (get_or steps i no_step) i)
  unfolding sought_from
  sought_turn i c l =
      ap (λ (zs : List Step). sought_from zs i c) (drop-cons steps i no_step l)
      ∙ ap (λ (k : ℕ). sought_from (drop k steps) (i + 1) (seen_of c (get_or steps i no_step) i)) (sym (add-one i))

  -- nothing is left
  pub sought_end : (i : ℕ) (c : Search) → i ≡ length steps → sought_from (drop i steps) i c ≡ c
  unfolding sought_from
  sought_end i c e = ap (λ (zs : List Step). sought_from zs i c) (drop_of_length-le steps {i = i} (omega (arith, e)))

-- a search that is over stays as it is, and so does one past its end
pub sought_done : (zs : List Step) (i : ℕ) (c : Search) → c.found ≡ true → sought_from zs i c ≡ c
unfolding sought_from
sought_done [] i c e = refl
sought_done (s ∷ ss) i c e = ap (sought_from ss (i + 1)) (sym (seen_over c s i e)) ∙ sought_done ss (i + 1) c e

pub sought_past : (zs : List Step) (i : ℕ) (c : Search) → c.found ≡ false → c.end ≤ i → sought_from zs i c ≡ c
unfolding sought_from
sought_past [] i c e h = refl
sought_past (s ∷ ss) i c e h = ap (sought_from ss (i + 1)) (sym (seen_end c s i e h)) ∙ sought_past ss (i + 1) c e (omega (arith, h))

-- ---- what a search finds among the numbers at which a test holds

abbrev Says : (ℕ → Bool) → ℕ → ℕ → Search → Type 0
Says f end skip d =
    (d.found ≡ true → (skip < length (filter f (below end))) × (get_or (filter f (below end)) skip 0 ≡ d.at))
    × (d.found ≡ false → length (filter f (below end)) + d.skip ≡ skip)

module _ (steps : List Step) (r skip end : ℕ) (room : end ≤ length steps) where
  abbrev f : ℕ → Bool
  f = reduces steps r

  -- a search that goes on: so many are counted, and the rest of skip is still passed over
  pub record Open (i passed : ℕ) (c : Search) : Type 0 where
    pub still : c.found ≡ false
    pub of_r : c.relation ≡ r
    pub to_end : c.end ≡ end
    pub counted : Counting f end i passed
    pub rest : passed + c.skip ≡ skip

  abbrev Claim : List Step → ℕ → Search → Type 0
  Claim zs i c = Says f end skip (sought_from zs i c)

  stopped : (i passed : ℕ) (c : Search) → Open i passed c → end ≤ i → Says f end skip c
  stopped i passed c o h =
      (λ e. absurd (false≢true (sym o.still ∙ e)), λ _. omega (arith, counting_done _ _ _ _ o.counted h, o.rest))

  is_left : (i : ℕ) → f i ≡ eqb (get_or steps i no_step).left.relation r
  unfolding reduces
  is_left i = refl

  -- one step below the end, by how the tests come out
  turned : (s : Step) (ss : List Step) (i passed : ℕ) (c : Search) → Open i passed c → i < end → get_or steps i no_step ≡ s
      → ((passed' : ℕ) (d : Search) → Open (i + 1) passed' d → Claim ss (i + 1) d)
      → (a b : Bool) → eqb s.left.relation c.relation ≡ a → eqb c.skip 0 ≡ b → Claim (s ∷ ss) i c
  unfolding sought_from
  turned s ss i passed c o h g ih true true ea eb =
      let is : f i ≡ true = is_left i ∙ rw (g, ← o.of_r) ea in
      let none_left : c.skip ≡ 0 = eqb-true _ _ eb in
      let same = seen_one c s i o.still (omega (arith, h, o.to_end)) (eqb-true _ _ ea) none_left in
      let at-skip : passed ≡ skip = omega (arith, o.rest, none_left) in
      let one : Search = record { relation = c.relation; skip = c.skip; end = c.end; found = true; at = i } in
      let less : skip < length (filter f (below end)) = rw at-skip at (counting_less _ _ _ _ o.counted h is) in
      let there : get_or (filter f (below end)) skip 0 ≡ i = rw at-skip at (counting_found _ _ _ _ o.counted h is) in
      subst (λ (d : Search). Says f end skip (sought_from ss (i + 1) d)) same
      (subst (λ (d : Search). Says f end skip d) (sym (sought_done ss (i + 1) one refl)) ((λ _. (less, there)), λ e. absurd (false≢true (sym e))))
  turned s ss i passed c o h g ih true false ea eb =
      let is : f i ≡ true = is_left i ∙ rw (g, ← o.of_r) ea in
      let some_left : c.skip ≡ 0 → ⊥ = eqb-false _ _ eb in
      let same = seen_past c s i o.still (omega (arith, h, o.to_end)) (eqb-true _ _ ea) some_left in
      subst (λ (d : Search). Says f end skip (sought_from ss (i + 1) d)) same
      (ih (passed + 1) _ (record { still = o.still; of_r = o.of_r; to_end = o.to_end; counted = counting_yes _ _ _ _ o.counted h is; rest = omega (arith, o.rest, some_left) }))
  turned s ss i passed c o h g ih false b ea eb =
      let is : f i ≡ false = is_left i ∙ rw (g, ← o.of_r) ea in
      let same = seen_other c s i o.still (omega (arith, h, o.to_end)) (eqb-false _ _ ea) in
      subst (λ (d : Search). Says f end skip (sought_from ss (i + 1) d)) same
      (ih passed c (record { still = o.still; of_r = o.of_r; to_end = o.to_end; counted = counting_no _ _ _ _ o.counted h is; rest = o.rest }))

  by_end : (s : Step) (ss : List Step) (i passed : ℕ) (c : Search) → Open i passed c → get_or steps i no_step ≡ s
      → ((passed' : ℕ) (d : Search) → Open (i + 1) passed' d → Claim ss (i + 1) d) → (a : Bool) → leb end i ≡ a → Claim (s ∷ ss) i c
  by_end s ss i passed c o g ih true l =
      rw (sought_past (s ∷ ss) i c o.still (omega (arith, leb-true end i l, o.to_end))) (stopped i passed c o (leb-true end i l))
  by_end s ss i passed c o g ih false l = turned s ss i passed c o (leb-false end i l) g ih (eqb s.left.relation c.relation) (eqb c.skip 0) refl refl

  pub says : (zs : List Step) (i passed : ℕ) (c : Search) → drop i steps ≡ zs → Open i passed c → Claim zs i c
  unfolding sought_from
  says [] i passed c e o =
      let none : length steps - i ≡ 0 = sym (length-drop i steps) ∙ ap length e in
      stopped i passed c o (omega (arith, none, room))
  says (s ∷ ss) i passed c e o =
      let some : length steps - i ≡ suc (length ss) = sym (length-drop i steps) ∙ ap length e in
      let inside : i < length steps = omega (arith, some) in
      let apart : get_or steps i no_step ∷ drop (suc i) steps ≡ s ∷ ss = sym (drop-cons steps i no_step inside) ∙ e in
      by_end s ss i passed c o (head-eq_of_cons-eq apart)
      (λ passed' d od. says ss (i + 1) passed' d (ap (λ (j : ℕ). drop j steps) (add-one i) ∙ tail-eq_of_cons-eq apart) od) (leb end i) refl

-- the search of a program's lent steps: the next one is found, or all were passed over
pub next_sought : (p : Program) (r skip n : ℕ) → length p.steps ≡ 156 → (c : Search)
    → c ≡ sought_from (steps_of p) 0 (search_for r skip (min n (length (steps_of p)))) → Found p r skip n c
unfolding steps_before reducing steps_of
next_sought p r skip n long c is =
    let end : ℕ = min n (length (steps_of p)) in
    let g : ℕ → Bool = reduces (steps_of p) r in
    let said : Says g end skip c =
    rw is (says (steps_of p) r skip end (omega arith) (steps_of p) 0 0 _ refl
    (record { still = refl; of_r = refl; to_end = refl; counted = counting_start _ _; rest = omega arith })) in
    record {
      few = omega (arith, long, filter_length g (below end), below_length end, length-take p.count p.steps);
      one = said.0;
      none = said.1;
    }
