-- The planner's points 2, 3 and 5, over any kind of estimate: what the greedy program is and where it stops, the cheapest site,
-- what the fallback does to the total. Point 4, drops, is in DropLaws.
use mathlib.Core.Path.{◌≡◌, refl, sym, ap, ◌∙◌}
use mathlib.Core.Bool.{Bool, true, false, not, false≢true}
use mathlib.Core.List.Memᴰ
use mathlib.Core.List.{List, [], ◌∷◌, ◌++◌, Memᴰ}
use mathlib.Core.Logic.{◌⊎◌, inl, inr, ◌↔◌}
use mathlib.Core.Option.{Option, none, some}
use Prim.Native.Nat.{ℕ, zero, suc, ◌≤◌, ◌<◌}
use native.Mathlib.Nat.{le_refl}
use native.Mathlib.Omega.{arith}
use lib.ListN.{length}
use lib.Dec.{ltb}
use borrow.Author.Tests.{ltb-true, ltb-false, not-true}
use Rattle.ground.specs.Tests.{pick}
use Rattle.ground.specs.Lists.{Every}
use Rattle.ground.specs.Order.{Ordered, Apart, Once}
use Rattle.ground.specs.Choice.{first_of_greatest}
use Rattle.ground.proofs.TestLaws.{not_holds}
use Rattle.ground.proofs.ListLaws.{filter_mem, filter_from}
use Rattle.ground.proofs.EveryLaws.{every_at, every_of, every_map}
use Rattle.ground.proofs.OrderLaws.{ordered_filter}
use Rattle.ground.proofs.ChoiceLaws.{First, Chosen, greatest_chosen}
use Rattle.estimates.specs.Kind.{Kind, after_all, total}
use Rattle.planner.specs.Choice.{Handed, gain, without, greedy, cheaper, cheapest, fallback}
use Rattle.ground.proofs.SublistLaws.{fewer, first_mem, first_before}

-- ---- the greedy program

module _ {P S : Type 0} (k : Kind P S) where
  -- a program is greedy: each step is the first of greatest gain of those unused, and brings more than it costs; at the
  -- end no unused step does
  abbrev pub Greedy : List S → P → List S → Type 0
  Greedy unused p [] = Every (λ (s : S). k.benefit p s ≤ k.cost p s) unused
  Greedy unused p (s ∷ ss) = First (gain k p) unused s × (k.cost p s < k.benefit p s) × Greedy (without k s unused) (k.after p s) ss

  module _ (tells : (s t : S) → (k.same s t ≡ true) ↔ (s ≡ t)) where
    pub same_self : (s : S) → not (k.same s s) ≡ false
    same_self s = rw ((tells s s).1 refl)

    same_other : (s t : S) → Apart s t → not (k.same s t) ≡ true
    same_other s t h = rw (not_holds (k.same s t) (λ e. h ((tells s t).0 e)))

    other : (s t : S) → not (k.same s t) ≡ true → Apart s t
    other s t e q = false≢true (sym (not-true (k.same s t) e) ∙ (tells s t).1 q)

    -- with as many turns as there are steps
    pub greedy_run : (n : ℕ) (unused : List S) (p : P) → length unused ≤ n → Greedy unused p (greedy k n unused p)
    greedy_run zero [] p h = tt
    greedy_run zero (s ∷ unused) p h = absurd (omega arith)
    greedy_run (suc n) unused p h = go (first_of_greatest (gain k p) unused) (greatest_chosen (gain k p) unused) (greedy_run n)
      where
        go : (o : Option S) → Chosen (gain k p) unused o → ((ss : List S) (q : P) → length ss ≤ n → Greedy ss q (greedy k n ss q))
            → Greedy unused p (elim o [ none ↦ [] | some s ↦ s ∷ greedy k n (without k s unused) (k.after p s) ])
        go none c ih = every_map _ _ unused (λ s e. let z : gain k p s ≡ 0 = e in omega arith) c
        go (some s) c ih = (
          c,
          omega (arith, c.gains),
          ih (without k s unused) (k.after p s)
              (omega (arith, fewer (λ (t : S). not (k.same s t)) unused (first_mem (gain k p) c) (same_self s))),
        )

    pub greedy_from : (unused : List S) (p : P) (ss : List S) → Greedy unused p ss → {s : S} → Memᴰ s ss → Memᴰ s unused
    greedy_from unused p [] g m = elim m [ ]
    greedy_from unused p (t ∷ ss) g {s} m = go (Memᴰ.cases_cons m) (greedy_from (without k t unused) (k.after p t) ss g.2)
      where
        go : (s ≡ t) ⊎ Memᴰ s ss → (Memᴰ s ss → Memᴰ s (without k t unused)) → Memᴰ s unused
        go (inl e) ih = rw e (first_mem (gain k p) g.0)
        go (inr n) ih = (filter_from _ unused (ih n)).0

    -- no step stands twice
    pub greedy_once : (unused : List S) (p : P) (ss : List S) → Greedy unused p ss → Once ss
    greedy_once unused p [] g = tt
    greedy_once unused p (s ∷ ss) g = (
      every_of (Apart s) ss
          (λ t m. other s t (filter_from _ unused (greedy_from (without k s unused) (k.after p s) ss g.2 m)).1),
      greedy_once (without k s unused) (k.after p s) ss g.2,
    )

    pub greedy_few : (unused : List S) (p : P) (ss : List S) → Greedy unused p ss → length ss ≤ length unused
    greedy_few unused p [] g = omega arith
    greedy_few unused p (s ∷ ss) g =
        omega (
          arith,
          fewer (λ (t : S). not (k.same s t)) unused (first_mem (gain k p) g.0) (same_self s),
          greedy_few (without k s unused) (k.after p s) ss g.2,
        )

    -- each step brings more than it costs in the state that the steps before it leave, and of those then unused any other
    -- gains less, or the same and comes later
    pub greedy_choice : (Before : S → S → Type 0) (unused : List S) (p : P) (front : List S) (s : S) (rest : List S)
        → Ordered Before unused → Greedy unused p (front ++ s ∷ rest)
        → (k.cost (after_all k p front) s < k.benefit (after_all k p front) s)
        × ((t : S) → Memᴰ t unused → (Memᴰ t front → ⊥)
        → (t ≡ s)
        ⊎ ((gain k (after_all k p front) t < gain k (after_all k p front) s)
        ⊎ ((gain k (after_all k p front) t ≡ gain k (after_all k p front) s) × Before s t)))
    greedy_choice Before unused p [] s rest o g = (g.1, λ t m _. first_before (gain k p) g.0 Before o m)
    greedy_choice Before unused p (u ∷ front) s rest o g =
        let (above, others) =
        greedy_choice Before (without k u unused) (k.after p u) front s rest (ordered_filter Before _ unused o) g.2 in (
          above,
          λ t m out. others t (filter_mem _ m (same_other u t (λ e. out (Memᴰ.head (sym e))))) (λ n. out (Memᴰ.tail n)),
        )

    -- in the state reached no step that is still unused brings more than it costs
    pub greedy_stops : (unused : List S) (p : P) (ss : List S) → Greedy unused p ss → {s : S} → Memᴰ s unused
        → (Memᴰ s ss → ⊥) → k.benefit (after_all k p ss) s ≤ k.cost (after_all k p ss) s
    greedy_stops unused p [] g m out = every_at _ unused g m
    greedy_stops unused p (t ∷ ss) g {s} m out =
        greedy_stops (without k t unused) (k.after p t) ss g.2
        (filter_mem _ m (same_other t s (λ e. out (Memᴰ.head (sym e)))))
        (λ n. out (Memᴰ.tail n))

  -- ---- the cheapest site: it stands in the list, before it all are dearer and behind it none is cheaper

  module _ (p : P) where
    pub record Cheapest (l : List ℕ) (a : ℕ) : Type 0 where
      pub before : List ℕ
      pub behind : List ℕ
      pub stands : l ≡ before ++ a ∷ behind
      pub dearer : Every (λ b. k.assembly p a < k.assembly p b) before
      pub no_cheaper : Every (λ b. k.assembly p a ≤ k.assembly p b) behind

    abbrev pub CheapestOf : List ℕ → Option ℕ → Type 0
    CheapestOf l none = l ≡ []
    CheapestOf l (some a) = Cheapest l a

    cheapest_more : (a : ℕ) (l : List ℕ) (o : Option ℕ) → CheapestOf l o → CheapestOf (a ∷ l) (cheaper k p a o)
    cheapest_more a l none c = rw c record { before = []; behind = []; stands = refl; dearer = tt; no_cheaper = tt }
    cheapest_more a l (some b) c = go (ltb (k.assembly p b) (k.assembly p a)) refl
      where
        go : (t : Bool) → ltb (k.assembly p b) (k.assembly p a) ≡ t → CheapestOf (a ∷ l) (pick t (some b) (some a))
        go true e =
            record {
              before = a ∷ c.before;
              behind = c.behind;
              stands = ap (λ (r : List ℕ). a ∷ r) c.stands;
              dearer = (ltb-true _ _ e, c.dearer);
              no_cheaper = c.no_cheaper;
            }
        go false e =
            let h : k.assembly p a ≤ k.assembly p b = ltb-false _ _ e in
            record {
              before = [];
              behind = l;
              stands = refl;
              dearer = tt;
              no_cheaper =
                  every_of _ l (λ x m. go' x (Memᴰ.append_cases c.before (rw c.stands at m)) h);
            }
          where
            go' : (x : ℕ) → Memᴰ x c.before ⊎ Memᴰ x (b ∷ c.behind) → k.assembly p a ≤ k.assembly p b
                → k.assembly p a ≤ k.assembly p x
            go' x (inl m) h = omega (arith, every_at _ c.before c.dearer m)
            go' x (inr m) h = omega (arith, every_at (λ (y : ℕ). k.assembly p b ≤ k.assembly p y) (b ∷ c.behind) (le_refl _, c.no_cheaper) m)

    pub cheapest_is : (l : List ℕ) → CheapestOf l (cheapest k p l)
    cheapest_is [] = refl
    cheapest_is (a ∷ l) = cheapest_more a l (cheapest k p l) (cheapest_is l)

  -- ---- the fallback: what was chosen, where its total is below that of no steps at home; else that

  pub fallback_is : (p : P) (home : ℕ) (h : Handed S)
      → ((fallback k p home h ≡ h) × (total k p h.site h.steps < total k p home []))
      ⊎ (fallback k p home h ≡ record { steps = []; site = home })
  fallback_is p home h = go (ltb (total k p h.site h.steps) (total k p home [])) refl
    where
      go : (b : Bool) → ltb (total k p h.site h.steps) (total k p home []) ≡ b
          → ((pick b h (record { steps = []; site = home }) ≡ h) × (total k p h.site h.steps < total k p home []))
          ⊎ (pick b h (record { steps = []; site = home }) ≡ record { steps = []; site = home })
      go true e = inl (refl, ltb-true _ _ e)
      go false e = inr refl

  abbrev total_of : P → Handed S → ℕ
  total_of p h = total k p h.site h.steps

  pub fallback_total : (p : P) (home : ℕ) (h : Handed S) → total_of p (fallback k p home h) ≤ total k p home []
  fallback_total p home h = go (fallback_is p home h)
    where
      go : ((fallback k p home h ≡ h) × (total_of p h < total k p home [])) ⊎ (fallback k p home h ≡ record { steps = []; site = home })
          → total_of p (fallback k p home h) ≤ total k p home []
      go (inl (e, l)) = rw e (omega arith)
      go (inr e) = rw e (le_refl _)
