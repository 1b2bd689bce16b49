-- Division: laws that hold whether it rounds down or up, so that what is proved with them stands when the rounding changes.
use mathlib.Core.Path.{◌≡◌, refl}
use mathlib.Core.Bool.{Bool, true, false}
use Prim.Native.Nat.{ℕ, ◌*◌, ◌/◌, ◌≤◌, zero-le}
use native.Mathlib.Nat.{mul_comm, mul-div_cancel, div-le_of_le-mul}
use native.Mathlib.Omega.{arith}
use lib.Dec.{eqb}
use borrow.Author.Tests.{eqb-false, ne_eqb}
use Rattle.ground.specs.Tests.{pick}
use Rattle.estimates.specs.Division.{over}

pub over_none : (x : ℕ) → over x 0 ≡ 0
unfolding over
over_none x = refl

-- a result that is not 0 has a divisor
pub over_some : (x d : ℕ) → (over x d ≡ 0 → ⊥) → 1 ≤ d
unfolding over
over_some x d h = go (eqb d 0) refl h
  where
    go : (b : Bool) → eqb d 0 ≡ b → (pick b 0 (x / d) ≡ 0 → ⊥) → 1 ≤ d
    go true e k = absurd (k refl)
    go false e k = let n : d ≡ 0 → ⊥ = eqb-false d 0 e in omega arith

pub over_most : (x y d : ℕ) → x ≤ y * d → over x d ≤ y
unfolding over
over_most x y d h = go (eqb d 0)
  where
    go : (b : Bool) → pick b 0 (x / d) ≤ y
    go true = zero-le
    go false = div-le_of_le-mul d (rw (mul_comm d y) h)

-- what comes out even
pub over_even : (y d : ℕ) → 1 ≤ d → over (y * d) d ≡ y
unfolding over
over_even y d h = rw (ne_eqb d 0 (λ e. omega arith)) (mul-div_cancel y h)
