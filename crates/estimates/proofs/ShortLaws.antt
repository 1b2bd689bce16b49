-- Y: its three cases and what it gives where they meet, and that it is above neither the count nor the rows. By the laws
-- of division alone, so these stand whether it rounds down or up.
use mathlib.Core.Path.{◌≡◌, ◌∙◌}
use Prim.Native.Nat.{ℕ, ◌+◌, ◌*◌, ◌≤◌, ◌<◌}
use native.Mathlib.Omega.{arith}
use borrow.Author.Tests.{lt-ltb, le-ltb}
use Rattle.ground.proofs.CountLaws.{split}
use Rattle.estimates.specs.Division.{over}
use Rattle.estimates.specs.Short.{Y}
use Rattle.estimates.proofs.DivisionLaws.{over_most, over_even}

module _ (m n r : ℕ) where
  pub Y_short : 2 * r < m → Y m n r ≡ r
  unfolding Y
  Y_short h = rw (lt-ltb (2 * r) m h)

  pub Y_between : m ≤ 2 * r → r < 2 * m → Y m n r ≡ over (r + m) 3
  unfolding Y
  Y_between h k = rw (le-ltb (2 * r) m h, lt-ltb r (2 * m) k)

  pub Y_long : 2 * m ≤ r → Y m n r ≡ m
  unfolding Y
  Y_long h = rw (le-ltb (2 * r) m (omega arith), le-ltb r (2 * m) h)

  -- whatever holds in all three cases
  Y_cases : (Q : ℕ → Type 0) → (2 * r < m → Q r) → (m ≤ 2 * r → r < 2 * m → Q (over (r + m) 3)) → (2 * m ≤ r → Q m) → Q (Y m n r)
  Y_cases Q f g h =
      split m (2 * r)
      (λ a. split (2 * m) r (λ b. rw (Y_long b) (h b)) (λ b. rw (Y_between a b) (g a b)))
      (λ a. rw (Y_short a) (f a))

  pub Y_most : Y m n r ≤ m
  Y_most = Y_cases (λ x. x ≤ m) (λ h. omega arith) (λ h k. over_most (r + m) m 3 (omega arith)) (λ h. omega arith)

  pub Y_rows : m ≤ n → Y m n r ≤ r
  Y_rows few = Y_cases (λ x. x ≤ r) (λ h. omega arith) (λ h k. over_most (r + m) r 3 (omega arith)) (λ h. omega arith)

-- where two cases meet
pub Y_half : (n r : ℕ) → Y (2 * r) n r ≡ r
Y_half n r =
    split r 0
    (λ h. let z : r ≡ 0 = omega arith in Y_long (2 * r) n r (omega arith) ∙ omega arith)
    (λ h. Y_between (2 * r) n r (omega arith) (omega arith) ∙ (let s : r + 2 * r ≡ r * 3 = omega arith in rw s (over_even r 3 (omega arith))))

pub Y_double : (m n : ℕ) → Y m n (2 * m) ≡ m
Y_double m n = Y_long m n (2 * m) (omega arith)

-- without rows, without a count
pub Y_no_rows : (m n : ℕ) → Y m n 0 ≡ 0
Y_no_rows m n = split m 0 (λ h. Y_long m n 0 (omega arith) ∙ omega arith) (λ h. Y_short m n 0 (omega arith))

pub Y_no_count : (n r : ℕ) → Y 0 n r ≡ 0
Y_no_count n r = Y_long 0 n r (omega arith)
