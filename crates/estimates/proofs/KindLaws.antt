-- Over any kind of estimate: what a total consists of, and that what every step leaves as it is holds behind a program.
use mathlib.Core.Path.{◌≡◌, sym}
use mathlib.Core.List.{List, [], ◌∷◌}
use Prim.Native.Nat.{ℕ, ◌+◌}
use native.Mathlib.Nat.{add_assoc}
use native.Mathlib.Omega.{arith}
use Rattle.ground.specs.Lists.{Every, sum}
use Rattle.estimates.specs.Kind.{Kind, after_all, costs, total}

module _ {P S : Type 0} (k : Kind P S) where
  pub total_is : (p : P) (site : ℕ) (ss : List S) → total k p site ss ≡ sum (costs k p ss) + k.assembly (after_all k p ss) site
  total_is p site [] = omega arith
  total_is p site (s ∷ ss) = rw (total_is (k.after p s) site ss) (sym (add_assoc _ _ _))

-- what every step leaves as it is
module _ {P S : Type 0} (k : Kind P S) (Good : P → Type 0) (Fine : S → Type 0)
    (stays : (p : P) (s : S) → Good p → Fine s → Good (k.after p s)) where
  pub good_after : (p : P) (ss : List S) → Good p → Every Fine ss → Good (after_all k p ss)
  good_after p [] g h = g
  good_after p (s ∷ ss) g h = good_after (k.after p s) ss (stays p s g h.0) h.1
