-- The first of greatest gain: it stands in the list, before it all gains are smaller and behind it none is greater; there
-- is none exactly where every gain is 0. A loop from the first to the last keeps what it has unless the next gains more.
use mathlib.Core.Path.{◌≡◌, refl, ap, ◌∙◌}
use mathlib.Core.Bool.{Bool, true, false}
use mathlib.Core.List.{List, [], ◌∷◌, ◌++◌}
use mathlib.Core.Option.{Option, none, some}
use Prim.Native.Nat.{ℕ, ◌≤◌, ◌<◌}
use native.Mathlib.Omega.{arith}
use lib.Dec.{ltb}
use borrow.Author.Tests.{ltb-true, ltb-false, lt-ltb, le-ltb}
use Rattle.ground.specs.Tests.{pick}
use Rattle.ground.specs.Lists.{Every}
use Rattle.ground.specs.Choice.{better, first_of_greatest}
use Rattle.ground.proofs.CountLaws.{split}
use Rattle.ground.proofs.EveryLaws.{every_map, every_append}

module _ {A : Type 0} (gain : A → ℕ) where
  pub record First (l : List A) (y : A) : Type 0 where
    pub before : List A
    pub behind : List A
    pub stands : l ≡ before ++ y ∷ behind
    pub gains : 0 < gain y
    pub smaller : Every (λ (x : A). gain x < gain y) before
    pub no_greater : Every (λ (x : A). gain x ≤ gain y) behind

  -- what the choice says of the list
  abbrev pub Chosen : List A → Option A → Type 0
  Chosen l none = Every (λ (x : A). gain x ≡ 0) l
  Chosen l (some y) = First l y

  chosen_better : (x : A) (l : List A) (o : Option A) → Chosen l o → Chosen (x ∷ l) (better gain x o)
  chosen_better x l none t = go (ltb 0 (gain x)) refl
    where
      go : (b : Bool) → ltb 0 (gain x) ≡ b → Chosen (x ∷ l) (pick b (some x) none)
      go true e =
          record {
            before = [];
            behind = l;
            stands = refl;
            gains = ltb-true 0 (gain x) e;
            smaller = tt;
            no_greater = every_map _ _ l (λ z h. let k : gain z ≡ 0 = h in omega arith) t;
          }
      go false e = (omega (arith, ltb-false 0 (gain x) e), t)
  chosen_better x l (some y) t = go (ltb (gain x) (gain y)) refl
    where
      go : (b : Bool) → ltb (gain x) (gain y) ≡ b → Chosen (x ∷ l) (pick b (some y) (some x))
      go true e =
          record {
            before = x ∷ t.before;
            behind = t.behind;
            stands = ap {B = List A} (λ r. x ∷ r) t.stands;
            gains = t.gains;
            smaller = (ltb-true _ _ e, t.smaller);
            no_greater = t.no_greater;
          }
      go false e =
          let le : gain y ≤ gain x = ltb-false _ _ e in
          record {
            before = [];
            behind = l;
            stands = refl;
            gains = omega (arith, t.gains);
            smaller = tt;
            no_greater =
                rw t.stands
                (every_append _ t.before _
                (every_map _ _ t.before (λ z h. let k : gain z < gain y = h in omega arith) t.smaller)
                (le, every_map _ _ t.behind (λ z h. let k : gain z ≤ gain y = h in omega arith) t.no_greater));
          }

  pub greatest_chosen : (l : List A) → Chosen l (first_of_greatest gain l)
  greatest_chosen [] = tt
  greatest_chosen (x ∷ l) = chosen_better x l (first_of_greatest gain l) (greatest_chosen l)

  pub greatest_first : (l : List A) (y : A) → first_of_greatest gain l ≡ some y → First l y
  greatest_first l y e = rw e at (greatest_chosen l)

  -- what was chosen before x: it stays unless x gains more
  abbrev pub or_later : Option A → A → Option A
  or_later none x = pick (ltb 0 (gain x)) (some x) none
  or_later (some y) x = pick (ltb (gain y) (gain x)) (some x) (some y)

  better_later : (w x : A) (o : Option A) → better gain w (or_later o x) ≡ or_later (better gain w o) x
  better_later w x none =
      split (gain x) 0
      (λ h. rw (le-ltb 0 (gain x) h)
      (split (gain w) 0
      (λ k. rw (le-ltb 0 (gain w) k, le-ltb 0 (gain x) h))
      (λ k. rw (lt-ltb 0 (gain w) k, le-ltb (gain w) (gain x) (omega arith)))))
      (λ h. rw (lt-ltb 0 (gain x) h)
      (split (gain w) 0
      (λ k. rw (le-ltb 0 (gain w) k, lt-ltb 0 (gain x) h, lt-ltb (gain w) (gain x) (omega arith)))
      (λ k. rw (lt-ltb 0 (gain w) k))))
  better_later w x (some y) =
      split (gain x) (gain y)
      (λ h. rw (le-ltb (gain y) (gain x) h)
      (split (gain y) (gain w)
      (λ k. rw (le-ltb (gain w) (gain y) k, le-ltb (gain w) (gain x) (omega arith)))
      (λ k. rw (lt-ltb (gain w) (gain y) k, le-ltb (gain y) (gain x) h))))
      (λ h. rw (lt-ltb (gain y) (gain x) h)
      (split (gain y) (gain w)
      (λ k. rw (le-ltb (gain w) (gain y) k))
      (λ k. rw (lt-ltb (gain w) (gain y) k, lt-ltb (gain y) (gain x) h, lt-ltb (gain w) (gain x) (omega arith)))))

  -- one more at the end
  pub greatest_later : (l : List A) (x : A) → first_of_greatest gain (l ++ (x ∷ [])) ≡ or_later (first_of_greatest gain l) x
  greatest_later [] x = refl
  greatest_later (w ∷ l) x = ap (better gain w) (greatest_later l x) ∙ better_later w x (first_of_greatest gain l)
