-- The first of greatest gain, where some gain is above 0.
use Rattle.std.specs.Prelude.{List, [], ◌∷◌, ℕ, nat_lt}
use Rattle.std.proofs.Math.Option.{Option, none, some}
use Rattle.ground.specs.Tests.{pick}

module _ {A : Type 0} (gain : A → ℕ) where
  -- x before what was chosen behind it: x stays unless the other gains more
  abbrev pub better : A → Option A → Option A
  better x none = pick (nat_lt 0 (gain x)) (some x) none
  better x (some y) = pick (nat_lt (gain x) (gain y)) (some y) (some x)

  abbrev pub first_of_greatest : List A → Option A
  first_of_greatest [] = none
  first_of_greatest (x ∷ l) = better x (first_of_greatest l)
