-- Lists of values, as "column B's distinct kept values rising" and refusal 15's "values not strictly rising" speak of them: whether
-- a value is among them, and whether they rise.
use Rattle.std.specs.Prelude.{ℕ, ◌+◌, Bool, true, ◌&&◌, List, [], ◌∷◌, nat_eq, nat_le}
use Rattle.ground.specs.Lists.{any}

abbrev pub among : List ℕ → ℕ → Bool
among values v = any (λ x. nat_eq x v) values

-- strictly rising, from low on; as a statement it is Rises
abbrev pub rises_from : ℕ → List ℕ → Bool
rises_from low [] = true
rises_from low (v ∷ values) = nat_le low v && rises_from (v + 1) values

unfoldable pub is_rising : List ℕ → Bool
is_rising values = rises_from 0 values
