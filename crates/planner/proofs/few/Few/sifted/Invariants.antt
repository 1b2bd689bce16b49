use Rattle.std.proofs.Common.{◌≡◌, Bool, ◌≤◌}
use Rattle.std.specs.Fn.{FnReturnsAt}
use Rattle.planner.proofs.FewLaws.{Passing}
use Rattle.planner.proofs.few.Few.sifted.Given as goal

abbrev pub invariant-loop-value : goal.invariant-loop-value
invariant-loop-value g l =
    (l.few.count ≤ l.value-index)
    × ((p : _ → Bool) → ((x : _) (b : Bool) → FnReturnsAt g.F.Fn l.passes x b → b ≡ p x) → Passing l.fn.behind p l.some l.value-index l.few)
