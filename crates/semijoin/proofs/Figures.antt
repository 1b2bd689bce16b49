-- The figures of 01 on tables: one list of what the definitions give and what the paper says, under one statement.
-- Same day: COUPON (number, date) = (11,20) (12,20) (13,21); WEIGH (number, date, loss) = (11,20,5) (12,20,7) (12,20,7) (14,22,3).
use mathlib.Core.Path.{refl}
use mathlib.Core.List.{List, [], ◌∷◌}
use Prim.Native.Nat.{ℕ}
use Rattle.ground.specs.Figures.{Figure, figure, Hold}
use Rattle.ground.specs.Lists.{padded, numbers_from}
use Rattle.ground.specs.Outcome.{numbered, next_of, value_of, leaves}
use Rattle.ground.specs.Bytes.{little_end, bytes_of}
use Rattle.ground.specs.Searching.{first_from}
use Rattle.ground.specs.Rising.{insert, rising}
use Rattle.fields.specs.Numbers.{number_at, number_that, marked, mark_at, version_at, head_of}
use Rattle.entries.specs.Relations.{relation_with, columns_of, column_at, column_bytes, columns_then, relation_at, relation_bytes}
use Rattle.entries.specs.Places.{place, same_place, place_at, place_bytes}
use Rattle.entries.specs.Clauses.{clause, domain_of, selection_at, joined, join_at, clause_at, kind_bytes}
use Rattle.entries.specs.declared.places.Place.{Place}
use Rattle.entries.specs.declared.relations.Column.{Column}
use Rattle.entries.specs.declared.clauses.ClauseKind.TheVariants.{Join}
use Rattle.contents.specs.Parts.{columns_in, sizes_of, relations_of, clauses_of, targets_of, no_envelope, with_version, with_sizes, with_relations, with_clauses, with_targets}
use Rattle.contents.specs.Sites.{site_of, is_at, holds}
use Rattle.contents.specs.Kept.{names, kept, kept_columns, first_bare}
use Rattle.envelopes.specs.Envelope.{filled, list_into, ended, targets_then, clauses_then, relations_then, sizes_then, envelope_from, envelope_bytes, check_envelope}
use Rattle.contents.specs.declared.envelope.Envelope.{Envelope}
use Rattle.paths.specs.Paths.{edges, on_path}
use Rattle.paths.specs.Steps.{step, is_place, legal_by, step_bytes}
use Rattle.paths.specs.Implied.{constants_of, selections_by, equalities_by}
use Rattle.papers.specs.Programs.{steps_of, program_with, step_at, ended_program, steps_then, program_by, read_program, program_bytes, check_program}
use Rattle.papers.specs.Checks.{papers_of}
use Rattle.papers.proofs.ExamplePapers.{coupon_weigh}
use Rattle.paths.specs.Meaning.{rows_in, tables_in, tables_of, meets_all, answer_on, answer_rows, words_of_rows, answer_words}
use Rattle.tables.specs.Offsets.{count_in, words_before, rows_before, first_word, rows_at, marks_at, rows_over, marks_over}
use Rattle.tables.specs.Shape.{shaped}
use Rattle.tables.specs.Rows.{kept_of, kept_rows}
use Rattle.semijoin.specs.Marks.{sieved, reduced_by, removed_of, removed_by, sieved_over, removed_over}
use Rattle.tables.specs.Values.{values_of, rising_values, values_over}
use Rattle.semijoin.specs.Local.{passes_by, passes, opened_at, opened, opened_in, opening_mark}
use Rattle.semijoin.specs.Run.{stepped, stepped_all, run_marks, run_checked, run_outcome}

-- a column of a domain, of width 1, with so many distinct values
abbrev column : ℕ → ℕ → Column
column d n = record { domain = d; width = 1; distinct = n }

-- COUPON at site 1 and WEIGH at site 2, joined on one column; the targets are COUPON's number and the loss
abbrev same_day : Place → Place → Envelope
same_day a b =
    with_targets (place 0 0 ∷ place 1 2 ∷ [])
    (with_clauses (clause (Join a b) ∷ [])
    (with_relations
    (relation_with 1 2 3 (column 0 3 ∷ column 1 2 ∷ []) ∷ relation_with 2 3 4 (column 0 3 ∷ column 1 2 ∷ column 2 3 ∷ []) ∷ [])
    (with_sizes (100 ∷ 100 ∷ 100 ∷ [])
    (with_version 1 no_envelope))))

abbrev pub on_number : Envelope
on_number = same_day (place 0 0) (place 1 0)

abbrev pub on_date : Envelope
on_date = same_day (place 0 1) (place 1 1)

-- every row kept, and one byte past the last
abbrev pub all_kept : List ℕ
all_kept = 1 ∷ 1 ∷ 1 ∷ 1 ∷ 1 ∷ 1 ∷ 1 ∷ 9 ∷ []

-- any bytes, one past the last row
abbrev bytes : List ℕ
bytes = 0 ∷ 1 ∷ 2 ∷ 3 ∷ 4 ∷ 5 ∷ 6 ∷ 9 ∷ []

abbrev pub figures : List Figure
figures =
    -- joined on number, and on date
    figure (answer_words on_number coupon_weigh) (11 ∷ 5 ∷ 12 ∷ 7 ∷ 12 ∷ 7 ∷ [])
    ∷ figure (answer_words on_date coupon_weigh) (11 ∷ 5 ∷ 11 ∷ 7 ∷ 11 ∷ 7 ∷ 12 ∷ 5 ∷ 12 ∷ 7 ∷ 12 ∷ 7 ∷ [])
    -- COUPON reduced by WEIGH on date keeps its first two rows: by the dates rising, and in one place
    ∷ figure (rising_values on_date coupon_weigh all_kept (place 1 1)) (20 ∷ 22 ∷ [])
    ∷ figure (reduced_by on_date coupon_weigh (20 ∷ 22 ∷ []) (place 0 1) all_kept) (1 ∷ 1 ∷ 0 ∷ 1 ∷ 1 ∷ 1 ∷ 1 ∷ 9 ∷ [])
    ∷ figure (stepped on_date coupon_weigh (step (place 0 1) (place 1 1)) all_kept) (1 ∷ 1 ∷ 0 ∷ 1 ∷ 1 ∷ 1 ∷ 1 ∷ 9 ∷ [])
    ∷ figure (words_of_rows (kept_rows on_date coupon_weigh (stepped on_date coupon_weigh (step (place 0 1) (place 1 1)) all_kept) 0)) (11 ∷ 20 ∷ 12 ∷ 20 ∷ [])
    -- WEIGH reduced by COUPON on number keeps its first three rows: equal rows both survive
    ∷ figure (stepped on_number coupon_weigh (step (place 1 0) (place 0 0)) all_kept) (1 ∷ 1 ∷ 1 ∷ 1 ∷ 1 ∷ 1 ∷ 0 ∷ 9 ∷ [])
    -- both envelopes are taken, each of 72 bytes; the whole run, with its refusals, of that one step
    ∷ figure (next_of (check_envelope on_number) ∷ next_of (check_envelope on_date) ∷ []) (72 ∷ 72 ∷ [])
    ∷ figure (value_of bytes (run_outcome on_date (program_with 1 (step (place 0 1) (place 1 1) ∷ [])) coupon_weigh bytes)) (1 ∷ 1 ∷ 0 ∷ 1 ∷ 1 ∷ 1 ∷ 1 ∷ 9 ∷ [])
    -- an empty list of values removes every row
    ∷ figure (reduced_by on_date coupon_weigh [] (place 0 1) all_kept) (0 ∷ 0 ∷ 0 ∷ 1 ∷ 1 ∷ 1 ∷ 1 ∷ 9 ∷ [])
    ∷ figure (removed_by on_date coupon_weigh [] (place 0 1) all_kept ∷ []) (3 ∷ [])
    ∷ []

pub figures_hold : Hold figures
unfolding numbered padded numbers_from little_end bytes_of first_from insert rising number_at number_that marked mark_at version_at head_of same_place place_at place_bytes columns_of column_at column_bytes columns_then relation_at relation_bytes domain_of selection_at joined join_at clause_at kind_bytes sizes_of relations_of clauses_of targets_of columns_in with_version with_sizes with_relations with_clauses with_targets site_of is_at holds names kept kept_columns first_bare ended filled list_into targets_then clauses_then relations_then sizes_then envelope_from envelope_bytes check_envelope edges on_path is_place legal_by step_bytes constants_of selections_by equalities_by steps_of step_at ended_program steps_then program_by read_program program_bytes check_program papers_of rows_in tables_in tables_of meets_all answer_on answer_rows count_in words_before rows_before first_word rows_over marks_over rows_at marks_at kept_of kept_rows sieved sieved_over reduced_by removed_of removed_over removed_by values_over values_of rising_values stepped next_of shaped passes_by passes opening_mark opened_at opened opened_in stepped_all run_marks run_checked run_outcome leaves
figures_hold = refl
