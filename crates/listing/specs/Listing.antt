-- "Step lines hold the step, its benefit and its cost in the program handed out; the last line the site, assembly cost,
-- total and local-only total. A refused envelope prints one line alone, as `refused 1 0`: number, then position."
use Rattle.std.specs.Prelude.{List, ◌++◌, ℕ, Result, Ok, Err}
use Rattle.ground.specs.Lists.{each}
use Rattle.ground.specs.Refusals.{number_of}
use Rattle.ground.specs.declared.refusals.Refusal.{Refusal}
use Rattle.paths.specs.declared.steps.Step.{Step}
use Rattle.estimates.specs.declared.lines.Line.{Line}
use Rattle.planner.specs.Promise.{lines_in}
use Rattle.planner.specs.declared.plans.Plan.{Plan}
use Rattle.listing.specs.Text.{text, decimal, behind}

abbrev pub heading : List ℕ
heading = text "left column right column benefit cost\n"

unfoldable pub step_text : Step → List ℕ
step_text s =
    decimal s.left.relation ++ behind " " s.left.column ++ behind " " s.right.relation ++ behind " " s.right.column

unfoldable pub step_line : Line → List ℕ
step_line l = step_text l.step ++ behind " " l.benefit ++ behind " " l.cost ++ text "\n"

unfoldable pub last_line : Plan → List ℕ
last_line p =
    behind "site " p.site ++ behind " assembly " p.assembly ++ behind " total " p.total ++ behind " local " p.local ++ text "\n"

unfoldable pub refused_line : ℕ → ℕ → List ℕ
refused_line number position = behind "refused " number ++ behind " " position ++ text "\n"

unfoldable pub plan_lines : Plan → List ℕ
plan_lines p = heading ++ each step_line (lines_in p) ++ last_line p

-- a plan, or the number and the position that it is refused by
unfoldable pub listing_of : Result Plan (ℕ × ℕ) → List ℕ
listing_of (Ok p) = plan_lines p
listing_of (Err (number, position)) = refused_line number position

unfoldable pub numbered : Result Plan Refusal → Result Plan (ℕ × ℕ)
numbered (Ok p) = Ok p
numbered (Err x) = Err (number_of x.reason, x.position)

unfoldable pub listing : Result Plan Refusal → List ℕ
listing (Ok p) = plan_lines p
listing (Err x) = refused_line (number_of x.reason) x.position
