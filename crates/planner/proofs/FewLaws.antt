-- Elements in order as the code holds them: how many they are, those that there are, and one more behind them.
use mathlib.Core.Path.{◌≡◌, refl, ap, ◌∙◌}
use mathlib.Core.Bool.{Bool, true, false, cond}
use mathlib.Core.List.{List, [], ◌∷◌, ◌++◌, append-nil}
use Prim.Native.Nat.{ℕ, ◌+◌, ◌≤◌, ◌<◌}
use native.Mathlib.Omega.{arith}
use lib.ListN.{length, get_or, set, take, replicate, length-append, length-take}
use lib.Seq.{take_all}
use Rattle.ground.specs.Lists.{filter}
use Rattle.ground.proofs.ListLaws.{filter_more, filter_length}
use Rattle.ground.proofs.CollectingLaws.{Collecting, padded_nil, padded_take, padded_push}
use Rattle.std.specs.Prelude.{Some, None, Option as Answer}
use mathlib.Core.Option.{Option, none, some}
use Rattle.planner.specs.Few.{shown_few, shown_choice}
use Rattle.planner.specs.declared.few.Few.{Few}

module _ {A : Type 0} (z : A) where
  pub few_empty : ◌≡◌ {A = Few A} (record { count = 0; all = replicate 156 z }) (shown_few z [])
  unfolding shown_few
  few_empty = rw (padded_nil 156 z)

  pub few_of : (l : List A) (x : Few A) → Collecting 156 z l x.count x.all → x ≡ shown_few z l
  unfolding shown_few
  few_of l x c = ap (λ (n : ℕ). record { count = n; all = x.all }) c.counted ∙ ap (λ (a : List A). record { count = length l; all = a }) c.array

  module _ (l : List A) (x : Few A) (f : x ≡ shown_few z l) where
    pub few_count : x.count ≡ length l
    unfolding shown_few
    few_count = rw f

    pub few_used : take x.count x.all ≡ l
    unfolding shown_few
    few_used = rw f (padded_take 156 z l)

    pub few_push : (v : A) → length l < 156 → (y : Few A) → y ≡ record { count = x.count + 1; all = set x.all x.count v }
        → y ≡ shown_few z (l ++ (v ∷ []))
    unfolding shown_few
    few_push v h y e =
        let n : length (l ++ (v ∷ [])) ≡ length l + 1 = length-append l (v ∷ []) in
        e ∙ rw (f, n, padded_push 156 z l v h)

-- those that there are, are no more than there can be
pub few_listed : {A : Type 0} (x : Few A) (l : List A) → l ≡ take x.count x.all → length x.all ≡ 156 → length l ≤ 156
few_listed x l e long = rw e (omega (arith, length-take x.count x.all))

-- ---- of some elements those that pass: i are looked at

pub record Passing {A : Type 0} (z : A) (p : A → Bool) (l : List A) (i : ℕ) (x : Few A) : Type 0 where
  pub within : i ≤ length l
  pub picked : x ≡ shown_few z (filter p (take i l))

module _ {A : Type 0} (z : A) (p : A → Bool) (l : List A) where
  pub passing_start : (x : Few A) → x ≡ shown_few z [] → Passing z p l 0 x
  passing_start x f = record { within = omega arith; picked = f }

  module _ (i : ℕ) (x : Few A) (g : Passing z p l i x) (h : i < length l) (few : length l ≤ 156) (v : A) (here : v ≡ get_or l i v) where
    first_few : length (filter p (take i l)) ≤ i
    first_few = omega (arith, filter_length p (take i l), length-take i l)

    more : (b : Bool) → b ≡ p v → filter p (take (i + 1) l) ≡ filter p (take i l) ++ cond b (v ∷ []) []
    more b t = filter_more l i v h p ∙ rw (← here, ← t, here)

    pub passing_yes : true ≡ p v → (y : Few A) → y ≡ record { count = x.count + 1; all = set x.all x.count v } → Passing z p l (i + 1) y
    passing_yes t y e =
        record {
          within = omega arith;
          picked = rw (more true t) (few_push z (filter p (take i l)) x g.picked v (omega (arith, first_few)) y e);
        }

    pub passing_no : false ≡ p v → (y : Few A) → y ≡ x → Passing z p l (i + 1) y
    passing_no t y e =
        let m : filter p (take (i + 1) l) ≡ filter p (take i l) = more false t ∙ append-nil (filter p (take i l)) in
        record { within = omega arith; picked = e ∙ rw m g.picked }

  pub passing_done : (i : ℕ) (x : Few A) → Passing z p l i x → length l ≤ i → x ≡ shown_few z (filter p l)
  passing_done i x g h = g.picked ∙ ap (λ (y : List A). shown_few z (filter p y)) (take_all i l h)

-- ---- what an answer says of what was chosen

module _ {A : Type 0} where
  pub choice_none : (o : Option A) (v : Answer A) → v ≡ shown_choice o → v ≡ None → o ≡ none
  choice_none none v f h = refl
  choice_none (some s) v f h = cc

  pub choice_some : (o : Option A) (v : Answer A) (s : A) → v ≡ shown_choice o → v ≡ Some s → o ≡ some s
  choice_some none v s f h = cc
  choice_some (some t) v s f h = cc
