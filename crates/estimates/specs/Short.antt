-- "Y(m,n,r): r if 2r < m; (r+m)/3 if m ≤ 2r and r < 2m; otherwise m."
use Rattle.std.specs.Prelude.{ℕ, ◌+◌, ◌*◌, nat_lt}
use Rattle.ground.specs.Tests.{pick}
use Rattle.estimates.specs.Division.{over}

unfoldable pub Y : ℕ → ℕ → ℕ → ℕ
Y m n r = pick (nat_lt (2 * r) m) r (pick (nat_lt r (2 * m)) (over (r + m) 3) m)
