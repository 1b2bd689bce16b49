-- A list of steps, or of numbers of steps, as the code holds it: "steps 0 to 156, which always holds every legal step once". And
-- what is chosen from one.
use Rattle.std.specs.Prelude.{List, Option, Some, None, length}
use Rattle.std.proofs.Math.Option.{Option as Choice, none, some}
use Rattle.ground.specs.Lists.{padded}
use Rattle.planner.specs.declared.few.Few.{Few}

unfoldable pub shown_few : {A : Type 0} → A → List A → Few A
shown_few behind l = record { count = length l; all = padded 156 behind l }

abbrev pub shown_choice : {A : Type 0} → Choice A → Option A
shown_choice none = None
shown_choice (some x) = Some x
