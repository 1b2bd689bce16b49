use Prim.Native.Nat.{ℕ, ◌<◌, ◌^◌, min}
use Rattle.ground.specs.Outcome.{Outcome}
use Rattle.ground.proofs.FillingLaws.{Filling}
use Rattle.fields.specs.Lists.{ReadsBy}
use Rattle.fields.proofs.lists.read_many.Given as goal

abbrev pub invariant-loop-i : goal.invariant-loop-i
invariant-loop-i g l =
    (l.end < 2 ^ 64)
    × ((item : ℕ → Outcome _) → ReadsBy (goal.F-post g l.fn.read) item
    → Filling g.row.N l.fn.empty (λ _. item) (min l.fn.n g.row.N) l.fn.at l.i l.end l.out)
