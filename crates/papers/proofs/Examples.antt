-- Worked examples of the definitions, computed: the papers of ExamplePapers, what clauses imply, and the answers of the
-- same day.
use mathlib.Core.Path.{◌≡◌, refl}
use mathlib.Core.List.{List, [], ◌∷◌, ◌++◌}
use Prim.Native.Nat.{ℕ}
use lib.ListN.{replicate}
use Rattle.ground.specs.Figures.{Figure, Hold}
use Rattle.ground.specs.Lists.{each, filter, below, numbers_from, padded}
use Rattle.ground.specs.Outcome.{numbered}
use Rattle.ground.specs.Outcome.Outcome.{good}
use Rattle.ground.specs.Refusals.{number_of}
use Rattle.ground.specs.Bytes.{little_end, bytes_of}
use Rattle.ground.specs.Searching.{first_from}
use Rattle.ground.specs.Rising.{insert, rising}
use Rattle.fields.specs.Numbers.{number_at, number_that, marked, mark_at, version_at, head_of}
use Rattle.entries.specs.Relations.{relation_with, columns_of, column_at, column_bytes, columns_then, relation_at, relation_bytes}
use Rattle.entries.specs.Places.{place, same_place, place_at, place_bytes}
use Rattle.entries.specs.Clauses.{domain_of, selection_at, joined, join_at, clause_at, kind_bytes}
use Rattle.contents.specs.Parts.{columns_in, sizes_of, relations_of, clauses_of, targets_of, with_version, with_sizes, with_relations, with_clauses, with_targets}
use Rattle.contents.specs.Sites.{site_of, is_at, holds}
use Rattle.contents.specs.Kept.{names, kept, kept_columns, first_bare}
use Rattle.envelopes.specs.Envelope.{filled, list_into, ended, targets_then, clauses_then, relations_then, sizes_then, envelope_from, read_envelope, envelope_bytes, check_envelope}
use Rattle.envelopes.specs.Rules.{tidy_relation, tidy}
use Rattle.entries.specs.declared.clauses.Clause.{Clause}
use Rattle.contents.specs.declared.envelope.Envelope.{Envelope}
use Rattle.paths.specs.Paths.{edges, on_path}
use Rattle.paths.specs.Steps.{step, places, is_place, legal_by, legal_steps, step_bytes}
use Rattle.paths.specs.Implied.{constants_of, selections_by, equalities_by, implied_selections, implied_equalities}
use Rattle.papers.specs.Programs.{steps_of, program_with, step_at, ended_program, steps_then, program_by, read_program, program_bytes, check_program}
use Rattle.paths.specs.Meaning.{rows_in, tables_in, tables_of, meets_all, answer_on, answer_rows, answer_words}
use Rattle.paths.specs.declared.steps.Step.{Step}
use Rattle.paths.specs.declared.implied.Selected.{Selected}
use Rattle.paths.specs.declared.implied.Equal.{Equal}
use Rattle.papers.proofs.ExamplePapers.{◌gives◌, seen, taken, selection, join, column_with, small, asks, two, small_asked, largest, there, back, program, ends, heads, limits, rules, stuffed, structs, days, coupon_weigh}

-- ---- paths: legal steps, implied clauses, kept columns

abbrev legals : Envelope → List ℕ
legals e = each step_bytes (legal_steps e)

abbrev selections : Envelope → ℕ → List ℕ
selections e r = each (λ (s : Selected). s.column ∷ s.value ∷ []) (implied_selections e r)

abbrev equalities : Envelope → ℕ → List ℕ
equalities e r = each (λ (s : Equal). s.left ∷ s.right ∷ []) (implied_equalities e r)

-- the same relations with other clauses: R is relation 0, S relation 1; R.0 and S.0 are of one domain, R.1 is not
abbrev with : List Clause → Envelope
with clauses = asks (10 ∷ 20 ∷ []) two clauses (place 0 1 ∷ place 1 0 ∷ [])

-- R and S of three columns each, all of one domain
abbrev wide : List Clause → Envelope
wide clauses = asks (10 ∷ []) (replicate 2 (relation_with 0 3 5 (replicate 3 (column_with 0 1 5)))) clauses (place 0 0 ∷ place 1 0 ∷ [])

abbrev paths : List Figure
paths =
    -- through a constant: 5 and 5 in one domain; in two it is two nodes; 5 and 6 are two nodes
    legals (with (selection 0 0 5 ∷ selection 1 0 5 ∷ [])) gives (there ++ back)
    ∷ legals (with (selection 0 1 5 ∷ selection 1 0 5 ∷ [])) gives []
    ∷ legals (with (selection 0 0 5 ∷ selection 1 0 6 ∷ [])) gives []
    ∷ legals (with []) gives []
    -- not only the written clauses: R.0 = S.1 and S.1 = R.2 make R.0 = R.2, by a path that leaves R
    ∷ legals (wide (join 0 0 1 1 ∷ join 1 1 0 2 ∷ []))
    gives (0 ∷ 0 ∷ 1 ∷ 1 ∷ 0 ∷ 2 ∷ 1 ∷ 1 ∷ 1 ∷ 1 ∷ 0 ∷ 0 ∷ 1 ∷ 1 ∷ 0 ∷ 2 ∷ [])
    ∷ equalities (wide (join 0 0 1 1 ∷ join 1 1 0 2 ∷ [])) 0 gives (0 ∷ 2 ∷ [])
    ∷ equalities (wide (join 0 0 1 1 ∷ join 1 1 0 2 ∷ [])) 1 gives []
    -- within a relation through a constant; all three of a class
    ∷ equalities (wide (selection 0 2 5 ∷ selection 0 1 5 ∷ [])) 0 gives (1 ∷ 2 ∷ [])
    ∷ equalities (wide (join 0 2 0 0 ∷ join 0 1 0 2 ∷ [])) 0 gives (0 ∷ 1 ∷ 0 ∷ 2 ∷ 1 ∷ 2 ∷ [])
    -- two constants in one class: both, for every column of it, each once, by value
    ∷ selections (wide (selection 0 1 6 ∷ selection 0 1 5 ∷ selection 1 2 6 ∷ join 0 1 0 0 ∷ [])) 0 gives (0 ∷ 5 ∷ 0 ∷ 6 ∷ 1 ∷ 5 ∷ 1 ∷ 6 ∷ [])
    ∷ selections (wide (selection 0 1 6 ∷ selection 0 1 5 ∷ selection 1 2 6 ∷ join 0 1 0 0 ∷ [])) 1 gives (2 ∷ 5 ∷ 2 ∷ 6 ∷ [])
    ∷ selections (wide (selection 0 1 4294967295 ∷ selection 0 1 0 ∷ [])) 0 gives (1 ∷ 0 ∷ 1 ∷ 4294967295 ∷ [])
    ∷ selections (wide (selection 0 1 6 ∷ [])) 1 gives []
    ∷ selections (wide (selection 0 1 6 ∷ [])) 2 gives []
    -- kept columns: those in a clause or target
    ∷ each (kept_columns (wide (join 0 2 1 2 ∷ selection 1 1 7 ∷ []))) (0 ∷ 1 ∷ 2 ∷ []) gives (0 ∷ 2 ∷ 0 ∷ 1 ∷ 2 ∷ [])
    ∷ filter (holds (with [])) (below 9) gives (1 ∷ 2 ∷ [])
    ∷ []

-- ---- same day: COUPON (number, date), WEIGH (number, date, loss)

abbrev answers : List Figure
answers =
    answer_words (days (join 0 0 1 0 ∷ []) (place 0 0 ∷ place 1 2 ∷ [])) coupon_weigh gives (11 ∷ 5 ∷ 12 ∷ 7 ∷ 12 ∷ 7 ∷ [])
    ∷ answer_words (days (join 0 1 1 1 ∷ []) (place 0 0 ∷ place 1 2 ∷ [])) coupon_weigh
    gives (11 ∷ 5 ∷ 11 ∷ 7 ∷ 11 ∷ 7 ∷ 12 ∷ 5 ∷ 12 ∷ 7 ∷ 12 ∷ 7 ∷ [])
    -- no clause: each combination, relation 0 slowest; a target twice
    ∷ answer_words (days [] (place 1 0 ∷ place 0 0 ∷ place 0 0 ∷ [])) (2 ∷ 2 ∷ 1 ∷ 0 ∷ 2 ∷ 0 ∷ 3 ∷ 0 ∷ 0 ∷ 4 ∷ 0 ∷ 0 ∷ [])
    gives (3 ∷ 1 ∷ 1 ∷ 4 ∷ 1 ∷ 1 ∷ 3 ∷ 2 ∷ 2 ∷ 4 ∷ 2 ∷ 2 ∷ [])
    ∷ answer_words (days [] (place 0 0 ∷ [])) (2 ∷ 0 ∷ 1 ∷ 0 ∷ 2 ∷ 0 ∷ []) gives []
    ∷ answer_words (days (selection 1 2 7 ∷ join 0 0 1 0 ∷ []) (place 1 2 ∷ [])) coupon_weigh gives (7 ∷ 7 ∷ [])
    ∷ answer_words (days (selection 0 0 11 ∷ selection 0 0 12 ∷ []) (place 1 2 ∷ [])) coupon_weigh gives []
    ∷ []

-- ---- the statements

abbrev examples : List Figure
examples = ends ++ heads ++ limits ++ rules ++ structs ++ paths ++ answers

pub examples_hold : Hold examples
unfolding number_of numbered padded numbers_from little_end bytes_of first_from insert rising number_at number_that marked mark_at version_at head_of same_place place_at place_bytes columns_of column_at column_bytes columns_then relation_at relation_bytes domain_of selection_at joined join_at clause_at kind_bytes sizes_of relations_of clauses_of targets_of columns_in with_version with_sizes with_relations with_clauses with_targets site_of is_at holds names kept kept_columns first_bare ended filled list_into targets_then clauses_then relations_then sizes_then envelope_from envelope_bytes check_envelope edges on_path places is_place legal_by legal_steps step_bytes constants_of selections_by equalities_by steps_of step_at ended_program steps_then program_by read_program program_bytes check_program rows_in tables_in tables_of meets_all answer_on answer_rows
examples_hold = refl

abbrev steps : List Step
steps = step (place 0 0) (place 1 0) ∷ step (place 1 0) (place 0 0) ∷ []

-- the longest envelope is taken; bytes are read to the very struct, and the struct is written as the bytes
pub structs-hold :
    (seen (check_envelope largest) ≡ taken 621)
    × (read_envelope small ≡ good small_asked 54) × (envelope_bytes small_asked ≡ small)
    × (check_envelope (stuffed 1 2 2 1 1) ≡ good small_asked 54) × (tidy (stuffed 1 2 2 1 1) ≡ small_asked)
    × (read_program small_asked (program 2 (there ++ back)) ≡ good (program_with 1 steps) 15)
    × (program_bytes (program_with 1 steps) ≡ program 2 (there ++ back))
unfolding numbered padded numbers_from little_end bytes_of first_from number_at number_that marked mark_at version_at head_of same_place place_at place_bytes columns_of column_at column_bytes columns_then relation_at relation_bytes domain_of selection_at joined join_at clause_at kind_bytes sizes_of relations_of clauses_of targets_of columns_in with_version with_sizes with_relations with_clauses with_targets site_of is_at holds names kept kept_columns first_bare ended filled list_into targets_then clauses_then relations_then sizes_then envelope_from envelope_bytes check_envelope edges on_path is_place legal_by step_bytes steps_of step_at ended_program steps_then program_by read_program program_bytes tidy_relation tidy
structs-hold = (refl, refl, refl, refl, refl, refl, refl)
