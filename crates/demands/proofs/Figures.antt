-- "The P figures form one list of definitions' values under a single statement." Those of estimates and plans, and those on
-- tables; each list says beside a figure what it is of.
use mathlib.Core.List.{List, ◌++◌}
use Rattle.ground.specs.Figures.{Figure, Hold}
use Rattle.ground.proofs.FigureLaws.{hold_both}
use Rattle.planner.proofs.Figures as planned
use Rattle.semijoin.proofs.Figures as reduced

abbrev pub figures : List Figure
figures = planned.figures ++ reduced.figures

pub figures_hold : Hold figures
figures_hold = hold_both planned.figures reduced.figures planned.figures_hold reduced.figures_hold
