-- A list rises by the test exactly where it rises by the statement.
use mathlib.Core.Path.{◌≡◌, refl}
use mathlib.Core.Bool.{true}
use mathlib.Core.Logic.{◌↔◌}
use mathlib.Core.List.{List, [], ◌∷◌}
use Prim.Native.Nat.{ℕ, ◌+◌}
use lib.Dec.{leb}
use borrow.Author.Tests.{leb-true, le-leb}
use Rattle.ground.specs.Rising.{Rises}
use Rattle.ground.proofs.TestLaws.{and_left, and_right, and_both}
use Rattle.tables.specs.Rising.{rises_from, is_rising}

pub rises_by : (low : ℕ) (l : List ℕ) → rises_from low l ≡ true → Rises low l
rises_by low [] t = tt
rises_by low (v ∷ l) t = (leb-true low v (and_left _ _ t), rises_by (v + 1) l (and_right (leb low v) _ t))

pub rises_test : (low : ℕ) (l : List ℕ) → Rises low l → rises_from low l ≡ true
rises_test low [] r = refl
rises_test low (v ∷ l) r = and_both (le-leb low v r.0) (rises_test (v + 1) l r.1)

pub rising_exact : (l : List ℕ) → (is_rising l ≡ true) ↔ Rises 0 l
unfolding is_rising
rising_exact l = (rises_by 0 l, rises_test 0 l)
