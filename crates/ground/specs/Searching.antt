-- Looking through a run of numbers for the first at which a test holds.
use Rattle.std.specs.Prelude.{ℕ, zero, suc, ◌+◌, Bool}
use Rattle.ground.specs.Tests.{pick}

-- the first of n numbers from i on at which the test holds, or the one past them
unfoldable pub first_from : (ℕ → Bool) → ℕ → ℕ → ℕ
first_from f i zero = i
first_from f i (suc n) = pick (f i) i (first_from f (i + 1) n)
