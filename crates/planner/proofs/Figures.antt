-- The figures of 01 that are estimates: one list of what the definitions give and what the paper says, under one statement.
-- E1 is the envelope of Figure 3.1: SUPPLIER at site 1, SUPPLY at 2, PART at 3; a dash is read as distinct 1; every column
-- but S# and P# has a domain of its own of size 5000; MA is 1.
use mathlib.Core.Path.{refl}
use mathlib.Core.List.{List, [], ◌∷◌, ◌++◌}
use Prim.Native.Nat.{ℕ}
use lib.ListN.{take, replicate}
use Rattle.ground.specs.Figures.{Figure, figure, Hold}
use Rattle.ground.specs.Lists.{each, padded, numbers_from}
use Rattle.ground.specs.Searching.{first_from}
use Rattle.ground.specs.Rising.{insert, rising}
use Rattle.entries.specs.Relations.{relation_with}
use Rattle.entries.specs.Places.{place, same_place}
use Rattle.entries.specs.Clauses.{domain_of}
use Rattle.contents.specs.Parts.{sizes_of, relations_of, clauses_of, targets_of, columns_in, with_version, with_sizes, with_relations, with_clauses, with_targets}
use Rattle.contents.specs.Sites.{site_of, is_at, holds}
use Rattle.contents.specs.Kept.{names, kept, kept_columns}
use Rattle.contents.specs.declared.envelope.Envelope.{Envelope}
use Rattle.paths.specs.Paths.{edges, on_path}
use Rattle.paths.specs.Steps.{step, places, is_place, legal_by, legal_steps}
use Rattle.paths.specs.Implied.{constants_of, selections_by}
use Rattle.paths.specs.declared.steps.Step.{Step}
use Rattle.papers.proofs.ExamplePapers.{selection, join, column_with, asks}
use Rattle.estimates.specs.Division.{over}
use Rattle.estimates.specs.Short.{Y}
use Rattle.estimates.specs.Columns.{column_of, domain_size, width_of}
use Rattle.estimates.specs.Profile.{distinct_of, given, shrunk, after_selection, rows_after, count_after, after_step, benefit, local_profile}
use Rattle.estimates.specs.Costs.{plain_costs, priced, step_cost, assembly_at}
use Rattle.estimates.specs.Kind.{total}
use Rattle.estimates.specs.Estimate.{kind_of, same_step, lines_of, estimated}
use Rattle.planner.specs.Plan.{site_for, greedy_steps, drops_at, after_drops, planned, plan_for}
use Rattle.estimates.specs.declared.lines.Line.{Line}
use Rattle.planner.specs.declared.plans.Plan.{Plan}

abbrev pub E1 : Envelope
E1 =
    asks (5000 ∷ 10000 ∷ replicate 9 5000)
    (relation_with 1 5 5000 (column_with 0 1 5000 ∷ column_with 2 3 1 ∷ column_with 3 3 1 ∷ column_with 4 3 1 ∷ column_with 5 3 50 ∷ [])
    ∷ relation_with 2 4 100000 (column_with 0 1 1000 ∷ column_with 1 1 10000 ∷ column_with 6 1 1 ∷ column_with 7 1 1 ∷ [])
    ∷ relation_with 3 4 10000 (column_with 1 1 10000 ∷ column_with 8 1 200 ∷ column_with 9 1 1 ∷ column_with 10 3 1 ∷ [])
    ∷ [])
    (selection 0 4 1 ∷ join 0 0 1 0 ∷ join 1 1 2 0 ∷ selection 2 1 7401 ∷ [])
    (place 0 0 ∷ place 0 1 ∷ place 0 2 ∷ place 0 3 ∷ place 0 4 ∷ place 1 0 ∷ place 1 1 ∷ place 1 3 ∷ place 2 0 ∷ place 2 1 ∷ place 2 2 ∷ [])

-- R at site 1, 100 rows, one column, width 1, 100 distinct; S at site 2, 1000 rows, width 1, 1000 distinct; domain 1000
abbrev pub fallen : Envelope
fallen =
    asks (1000 ∷ []) (relation_with 1 1 100 (column_with 0 1 100 ∷ []) ∷ relation_with 2 1 1000 (column_with 0 1 1000 ∷ []) ∷ []) (join 0 0 1 0 ∷ []) (place 0 0 ∷ [])

abbrev numbers : Step → List ℕ
numbers s = s.left.relation ∷ s.left.column ∷ s.right.relation ∷ s.right.column ∷ []

-- a plan as the numbers that are printed
abbrev shown : Plan → List ℕ
shown p =
    each (λ (l : Line). numbers l.step ++ l.benefit ∷ l.cost ∷ []) (take p.count p.lines)
    ++ p.site ∷ p.assembly ∷ p.total ∷ p.local ∷ []

abbrev pub figures : List Figure
figures =
    figure (Y 25 500 10 ∷ Y 1000 100000 500 ∷ []) (10 ∷ 500 ∷ [])
    ∷ figure (Y 10 100 4 ∷ Y 10 100 5 ∷ Y 10 100 19 ∷ Y 10 100 20 ∷ []) (4 ∷ 5 ∷ 9 ∷ 10 ∷ [])
    ∷ figure (Y 1 5 1 ∷ []) (0 ∷ [])
    -- the two-step program of Figure 3.1 with site 1; local operations alone
    ∷ figure (total (kind_of plain_costs E1) (local_profile E1) 1 (step (place 1 1) (place 2 0) ∷ step (place 1 0) (place 0 0) ∷ []) ∷ []) (330 ∷ [])
    ∷ figure ((plan_for plain_costs E1).local ∷ []) (1450 ∷ [])
    -- SUPPLY's P# behind the first step: with the 10000 of the figure 50, with the text's 5000 it would be 25
    ∷ figure (distinct_of (after_step E1 (local_profile E1) (step (place 1 1) (place 2 0))) (place 1 1) ∷ []) (50 ∷ [])
    -- its plan
    ∷ figure (shown (plan_for plain_costs E1))
    (1 ∷ 1 ∷ 2 ∷ 0 ∷ 298500 ∷ 50
    ∷ 1 ∷ 0 ∷ 0 ∷ 0 ∷ 1470 ∷ 100
    ∷ 0 ∷ 0 ∷ 1 ∷ 0 ∷ 1300 ∷ 10
    ∷ 2 ∷ 0 ∷ 1 ∷ 1 ∷ 150 ∷ 10
    ∷ 2 ∷ 0 ∷ 170 ∷ 1450 ∷ [])
    -- the fallback: the greedy program costs 200 in all, local-only 100; no steps, site 2
    ∷ figure (each numbers (greedy_steps plain_costs fallen)) (1 ∷ 0 ∷ 0 ∷ 0 ∷ [])
    ∷ figure (total (kind_of plain_costs fallen) (local_profile fallen) (after_drops plain_costs fallen).site (greedy_steps plain_costs fallen) ∷ []) (200 ∷ [])
    ∷ figure (shown (plan_for plain_costs fallen)) (2 ∷ 100 ∷ 100 ∷ 100 ∷ [])
    ∷ []

pub figures_hold : Hold figures
unfolding padded numbers_from first_from insert rising same_place domain_of sizes_of relations_of clauses_of targets_of columns_in with_version with_sizes with_relations with_clauses with_targets site_of is_at holds names kept kept_columns edges on_path places is_place legal_by legal_steps constants_of selections_by over Y column_of domain_size width_of given shrunk after_selection rows_after count_after after_step benefit local_profile plain_costs priced step_cost assembly_at same_step site_for greedy_steps drops_at after_drops planned lines_of estimated plan_for
figures_hold = refl
