-- What each return of the code of division answers.
use mathlib.Core.Path.{◌≡◌, sym, ◌∙◌}
use Prim.Native.Nat.{ℕ, ◌+◌, ◌*◌, ◌/◌, ◌≤◌, ◌<◌}
use borrow.Author.Tests.{eq-eqb, ne_eqb}
use Rattle.estimates.specs.Division.{over}
use Rattle.estimates.specs.Short.{Y}
use Rattle.estimates.proofs.ShortLaws.{Y_short, Y_between, Y_long}

module _ (a b : ℕ) where
  pub over_nothing : b ≡ 0 → 0 ≡ over a b
  unfolding over
  over_nothing e = simp (eq-eqb b 0 e)

  pub over_number : (b ≡ 0 → ⊥) → a / b ≡ over a b
  unfolding over
  over_number n = simp (ne_eqb b 0 n)

-- Y, where a callee gives the division
pub Y_third : (m n r q : ℕ) → m ≤ 2 * r → r < 2 * m → q ≡ over (r + m) 3 → q ≡ Y m n r
Y_third m n r q h k e = e ∙ sym (Y_between m n r h k)

pub Y_rows_left : (m n r : ℕ) → 2 * r < m → r ≡ Y m n r
Y_rows_left m n r h = sym (Y_short m n r h)

pub Y_all_left : (m n r : ℕ) → 2 * m ≤ r → m ≡ Y m n r
Y_all_left m n r h = sym (Y_long m n r h)
