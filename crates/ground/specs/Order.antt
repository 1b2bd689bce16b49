-- Lists in order, by whatever is meant by one element being before another; lists in which no element stands twice.
use Rattle.std.specs.Prelude.{◌≡◌, List, [], ◌∷◌}
use Rattle.ground.specs.Lists.{Every}

-- each element is before every later one
abbrev pub Ordered : {A : Type 0} → (A → A → Type 0) → List A → Type 0
Ordered Before [] = Unit {0}
Ordered Before (x ∷ l) = Every (Before x) l × Ordered Before l

-- two that are not the same
abbrev pub Apart : {A : Type 0} → A → A → Type 0
Apart x y = x ≡ y → ⊥

-- no element stands twice
abbrev pub Once : {A : Type 0} → List A → Type 0
Once l = Ordered Apart l
