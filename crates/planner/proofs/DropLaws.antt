-- Drops, over any kind of estimate: the numbers that are looked at come dearest first, each once; a step is dropped exactly
-- where that makes the total strictly lower; what is handed out is a part of the program in its order, and only steps at
-- the site are missing from it.
use mathlib.Core.Path.{◌≡◌, refl, sym, ap, ◌∙◌}
use mathlib.Core.Bool.{Bool, true, false, not, false≢true}
use mathlib.Core.List.Memᴰ
use mathlib.Core.List.{List, [], ◌∷◌, Memᴰ}
use mathlib.Core.List.Sublistᴰ
use mathlib.Core.List.{Sublistᴰ}
use mathlib.Core.Logic.{◌⊎◌, inl, inr, ◌↔◌}
use mathlib.Core.Option.{Option, none, some}
use Prim.Native.Nat.{ℕ, zero, suc, ◌≤◌, ◌<◌}
use native.Mathlib.Omega.{arith}
use lib.ListN.{length, get_or, length-map}
use lib.Seq.{ext_get_or}
use lib.Dec.{eqb, ltb}
use borrow.Author.Tests.{ltb-true, ltb-false, eqb-true, eqb-false, eq-eqb, not-true}
use Rattle.ground.specs.Tests.{pick}
use Rattle.ground.specs.Lists.{filter, below}
use Rattle.ground.specs.Order.{Ordered}
use Rattle.ground.specs.Choice.{first_of_greatest}
use Rattle.ground.proofs.ListLaws.{filter_mem, filter_from, get_d_map, map_mem, mem_get_d}
use Rattle.ground.proofs.EveryLaws.{every_at, every_of}
use Rattle.ground.proofs.NumbersLaws.{below_length, below_get_d, below_mem}
use Rattle.ground.proofs.OrderLaws.{ordered_filter}
use Rattle.ground.proofs.ChoiceLaws.{First, Chosen, greatest_chosen}
use Rattle.estimates.specs.Kind.{Kind, costs, total}
use Rattle.planner.specs.Promise.{Dearer}
use Rattle.planner.specs.Choice.{but_for, dearest_first, steps_at, dropped, drops}
use Rattle.ground.proofs.SublistLaws.{fewer, filter_part, part_map, first_mem, first_before}

-- ---- without one number

but_for_self : (i : ℕ) → not (eqb i i) ≡ false
but_for_self i = rw (eq-eqb i i refl)

but_for_mem : (i j : ℕ) (l : List ℕ) → Memᴰ j l → (j ≡ i) ⊎ Memᴰ j (but_for i l)
but_for_mem i j l m = go (eqb i j) refl
  where
    go : (b : Bool) → eqb i j ≡ b → (j ≡ i) ⊎ Memᴰ j (but_for i l)
    go true e = inl (sym (eqb-true i j e))
    go false e = inr (filter_mem (λ h. not (eqb i h)) m (rw e))

-- ---- the order in which numbers are looked at

module _ (cs : List ℕ) where
  abbrev rank : ℕ → ℕ
  rank i = suc (get_or cs i 0)

  dearest_from : (n : ℕ) (left : List ℕ) {i : ℕ} → Memᴰ i (dearest_first cs n left) → Memᴰ i left
  dearest_from zero left m = elim m [ ]
  dearest_from (suc n) left {i} m = go (first_of_greatest rank left) (greatest_chosen rank left) (λ l. dearest_from n l) m
    where
      go : (o : Option ℕ) → Chosen rank left o → ((l : List ℕ) → Memᴰ i (dearest_first cs n l) → Memᴰ i l)
          → Memᴰ i (elim o [ none ↦ [] | some j ↦ j ∷ dearest_first cs n (but_for j left) ]) → Memᴰ i left
      go none c ih m = elim m [ ]
      go (some j) c ih m = there (Memᴰ.cases_cons m)
        where
          there : (i ≡ j) ⊎ Memᴰ i (dearest_first cs n (but_for j left)) → Memᴰ i left
          there (inl e) = rw e (first_mem rank c)
          there (inr h) = (filter_from _ left (ih (but_for j left) h)).0

  dearest_mem : (n : ℕ) (left : List ℕ) → length left ≤ n → {i : ℕ} → Memᴰ i left → Memᴰ i (dearest_first cs n left)
  dearest_mem zero [] h m = elim m [ ]
  dearest_mem zero (x ∷ left) h m = absurd (omega arith)
  dearest_mem (suc n) left h {i} m = go (first_of_greatest rank left) (greatest_chosen rank left) (λ l q. dearest_mem n l q)
    where
      go : (o : Option ℕ) → Chosen rank left o
          → ((l : List ℕ) → length l ≤ n → Memᴰ i l → Memᴰ i (dearest_first cs n l))
          → Memᴰ i (elim o [ none ↦ [] | some j ↦ j ∷ dearest_first cs n (but_for j left) ])
      go none c ih = let z : rank i ≡ 0 = every_at (λ (j : ℕ). rank j ≡ 0) left c m in absurd (omega arith)
      go (some j) c ih = there (but_for_mem j i left m)
        where
          there : (i ≡ j) ⊎ Memᴰ i (but_for j left) → Memᴰ i (j ∷ dearest_first cs n (but_for j left))
          there (inl e) = Memᴰ.head e
          there (inr q) =
              Memᴰ.tail
              (ih (but_for j left) (omega (arith, fewer (λ h. not (eqb j h)) left (first_mem rank c) (but_for_self j))) q)

  -- each number that is given, and no other
  pub dearest_member : (n : ℕ) (left : List ℕ) → length left ≤ n → (i : ℕ) → Memᴰ i left ↔ Memᴰ i (dearest_first cs n left)
  dearest_member n left h i = (dearest_mem n left h, dearest_from n left)

  -- the first of greatest cost is dearer than any other
  first_dearer : (left : List ℕ) (i j : ℕ) → First rank left i → Ordered ◌<◌ left → Memᴰ j left → (eqb i j ≡ false) → Dearer cs i j
  first_dearer left i j f o m e = go (first_before rank f ◌<◌ o m)
    where
      go : (j ≡ i) ⊎ ((rank j < rank i) ⊎ ((rank j ≡ rank i) × (i < j))) → Dearer cs i j
      go (inl q) = absurd (eqb-false i j e (sym q))
      go (inr (inl h)) = inl (omega arith)
      go (inr (inr (h, l))) = inr (omega arith, l)

  -- in order, so each once
  pub dearest_ordered : (n : ℕ) (left : List ℕ) → Ordered ◌<◌ left → Ordered (Dearer cs) (dearest_first cs n left)
  dearest_ordered zero left o = tt
  dearest_ordered (suc n) left o = go (first_of_greatest rank left) (greatest_chosen rank left) (dearest_ordered n)
    where
      go : (q : Option ℕ) → Chosen rank left q → ((l : List ℕ) → Ordered ◌<◌ l → Ordered (Dearer cs) (dearest_first cs n l))
          → Ordered (Dearer cs) (elim q [ none ↦ [] | some i ↦ i ∷ dearest_first cs n (but_for i left) ])
      go none c ih = tt
      go (some i) c ih = (
        every_of (Dearer cs i) (dearest_first cs n (but_for i left))
            (λ j m. let (h, e) = filter_from (λ x. not (eqb i x)) left (dearest_from n (but_for i left) m) in
            first_dearer left i j c o h (not-true _ e)),
        ih (but_for i left) (ordered_filter ◌<◌ (λ x. not (eqb i x)) left o),
      )

-- all numbers have all steps
pub steps_all : {S : Type 0} (z : S) (ss : List S) → steps_at z ss (below (length ss)) ≡ ss
steps_all z ss =
    ext_get_or z (steps_at z ss (below (length ss))) ss same
    (λ i h. get_d_map (λ j. get_or ss j z) (below (length ss)) i 0 z (omega (arith, same, below_length (length ss)))
    ∙ ap (λ j. get_or ss j z) (below_get_d (length ss) i 0 (omega (arith, same))))
  where
    same : length (steps_at z ss (below (length ss))) ≡ length ss
    same = length-map (below (length ss)) (λ j. get_or ss j z) ∙ below_length (length ss)

module _ {P S : Type 0} (k : Kind P S) where
  -- ---- drops

  module _ (p : P) (site : ℕ) (steps : List ℕ → List S) where
    -- a step is dropped exactly where the total becomes strictly lower
    pub dropped_one : (i : ℕ) (order kept : List ℕ)
        → ((total k p site (steps (but_for i kept)) < total k p site (steps kept))
        × (dropped k p site steps (i ∷ order) kept ≡ dropped k p site steps order (but_for i kept)))
        ⊎ ((total k p site (steps kept) ≤ total k p site (steps (but_for i kept)))
        × (dropped k p site steps (i ∷ order) kept ≡ dropped k p site steps order kept))
    dropped_one i order kept = go (ltb (total k p site (steps (but_for i kept))) (total k p site (steps kept))) refl
      where
        go : (b : Bool) → ltb (total k p site (steps (but_for i kept))) (total k p site (steps kept)) ≡ b
            → ((total k p site (steps (but_for i kept)) < total k p site (steps kept))
            × (dropped k p site steps order (pick b (but_for i kept) kept) ≡ dropped k p site steps order (but_for i kept)))
            ⊎ ((total k p site (steps kept) ≤ total k p site (steps (but_for i kept)))
            × (dropped k p site steps order (pick b (but_for i kept) kept) ≡ dropped k p site steps order kept))
        go true e = inl (ltb-true _ _ e, refl)
        go false e = inr (ltb-false _ _ e, refl)

    -- where something is dropped, the total is strictly lower
    pub dropped_lower : (order kept : List ℕ) → (dropped k p site steps order kept ≡ kept)
        ⊎ (total k p site (steps (dropped k p site steps order kept)) < total k p site (steps kept))
    dropped_lower [] kept = inl refl
    dropped_lower (i ∷ order) kept = go (dropped_one i order kept) (dropped_lower order)
      where
        Lower : List ℕ → List ℕ → Type 0
        Lower l kept = (l ≡ kept) ⊎ (total k p site (steps l) < total k p site (steps kept))

        less : total k p site (steps (but_for i kept)) < total k p site (steps kept) → Lower (dropped k p site steps order (but_for i kept)) (but_for i kept)
            → total k p site (steps (dropped k p site steps order (but_for i kept))) < total k p site (steps kept)
        less l (inl e) = rw e l
        less l (inr h) = omega arith

        go : ((total k p site (steps (but_for i kept)) < total k p site (steps kept))
            × (dropped k p site steps (i ∷ order) kept ≡ dropped k p site steps order (but_for i kept)))
            ⊎ ((total k p site (steps kept) ≤ total k p site (steps (but_for i kept)))
            × (dropped k p site steps (i ∷ order) kept ≡ dropped k p site steps order kept))
            → ((l : List ℕ) → Lower (dropped k p site steps order l) l)
            → Lower (dropped k p site steps (i ∷ order) kept) kept
        go (inl (l, e)) ih = inr (rw e (less l (ih (but_for i kept))))
        go (inr (_, e)) ih = rw e (ih kept)

    pub dropped_part : (order kept : List ℕ) → Sublistᴰ (dropped k p site steps order kept) kept
    dropped_part [] kept = Sublistᴰ.refl kept
    dropped_part (i ∷ order) kept = go (ltb (total k p site (steps (but_for i kept))) (total k p site (steps kept))) (dropped_part order)
      where
        go : (b : Bool) → ((l : List ℕ) → Sublistᴰ (dropped k p site steps order l) l)
            → Sublistᴰ (dropped k p site steps order (pick b (but_for i kept) kept)) kept
        go true ih = Sublistᴰ.trans (ih (but_for i kept)) (filter_part (λ j. not (eqb i j)) kept)
        go false ih = ih kept

    -- what is not looked at stays
    dropped_stays : (order kept : List ℕ) (j : ℕ) → Memᴰ j kept → (Memᴰ j order → ⊥)
        → Memᴰ j (dropped k p site steps order kept)
    dropped_stays [] kept j m out = m
    dropped_stays (i ∷ order) kept j m out =
        go (ltb (total k p site (steps (but_for i kept))) (total k p site (steps kept)))
        (λ l n. dropped_stays order l j n (λ h. out (Memᴰ.tail h)))
      where
        still : (j ≡ i) ⊎ Memᴰ j (but_for i kept) → Memᴰ j (but_for i kept)
        still (inl e) = absurd (out (Memᴰ.head e))
        still (inr n) = n

        go : (b : Bool) → ((l : List ℕ) → Memᴰ j l → Memᴰ j (dropped k p site steps order l))
            → Memᴰ j (dropped k p site steps order (pick b (but_for i kept) kept))
        go true ih = ih (but_for i kept) (still (but_for_mem i j kept m))
        go false ih = ih kept m

  -- ---- the program after drops

  module _ (z : S) (p : P) (site : ℕ) (mine : S → Bool) (ss : List S) where
    abbrev there : List ℕ
    there = filter (λ i. mine (get_or ss i z)) (below (length ss))

    abbrev order : List ℕ
    order = dearest_first (costs k p ss) (length there) there

    -- a part of the program, in its order
    pub drops_part : Sublistᴰ (drops k z p site mine ss) ss
    drops_part =
        rw (steps_all z ss) at
        (part_map (λ i. get_or ss i z) (dropped_part p site (steps_at z ss) order (below (length ss))))

    -- the program itself, or one of a strictly lower total
    pub drops_lower : (drops k z p site mine ss ≡ ss) ⊎ (total k p site (drops k z p site mine ss) < total k p site ss)
    drops_lower = go (dropped_lower p site (steps_at z ss) order (below (length ss)))
      where
        left : List ℕ
        left = dropped k p site (steps_at z ss) order (below (length ss))

        go : (left ≡ below (length ss)) ⊎ (total k p site (steps_at z ss left) < total k p site (steps_at z ss (below (length ss))))
            → (steps_at z ss left ≡ ss) ⊎ (total k p site (steps_at z ss left) < total k p site ss)
        go (inl e) = inl (ap (steps_at z ss) e ∙ steps_all z ss)
        go (inr l) = inr (rw (steps_all z ss) at l)

    -- steps that are not at the site stay
    pub drops_keeps : (s : S) → Memᴰ s ss → mine s ≡ false → Memᴰ s (drops k z p site mine ss)
    drops_keeps s m f =
        let (i, h, e) = mem_get_d z m in
        Memᴰ.cast (sym e)
        (map_mem (λ j. get_or ss j z)
        (dropped_stays p site (steps_at z ss) order (below (length ss)) i (below_mem i (length ss) h)
        (λ n. false≢true (sym f ∙ ap mine (sym e) ∙ (filter_from (λ j. mine (get_or ss j z)) (below (length ss)) (dearest_from (costs k p ss) (length there) there n)).1))))
