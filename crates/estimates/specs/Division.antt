-- "Divisions round down (H)." The one definition through which every division of the estimates goes; "0 if d is 0".
use Rattle.std.specs.Prelude.{ℕ, ◌/◌, nat_eq}
use Rattle.ground.specs.Tests.{pick}

unfoldable pub over : ℕ → ℕ → ℕ
over a b = pick (nat_eq b 0) 0 (a / b)
