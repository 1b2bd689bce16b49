-- A run of two stations, computed: COUPON at site 1 and WEIGH at site 2 as in 01, joined on number, each reduced by the other, and assembled at
-- site 1. It is a crew as demand 3 asks for, every message made is delivered, and the answer there is that of 01. So the model is not empty, and
-- neither is what demand 3 and Orderly ask for.
use mathlib.Core.Path.{◌≡◌, refl, subst, ◌∙◌}
use mathlib.Core.Bool.{Bool, true, false, false≢true}
use mathlib.Core.List.{List, [], ◌∷◌}
use Prim.Native.Nat.{ℕ, zero, suc, ◌≤◌, ◌<◌, ◌^◌}
use native.Mathlib.Omega.{arith}
use lib.Dec.{eqb}
use borrow.Author.Tests.{eqb-true}
use Rattle.ground.specs.Tests.{pick}
use Rattle.ground.specs.Outcome.Outcome.{good}
use Rattle.entries.specs.Places.{place, no_place}
use Rattle.entries.specs.Relations.{no_column, no_relation}
use Rattle.entries.specs.Clauses.{no_clause}
use Rattle.entries.specs.declared.places.Place.{Place}
use Rattle.contents.proofs.SiteLaws.{at_none}
use Rattle.envelopes.specs.Fits.{PlaceFits, ColumnFits, RelationFits, ClauseFits, Fits}
use Rattle.paths.specs.Steps.{step}
use Rattle.papers.specs.Programs.{program_with}
use Rattle.papers.specs.Checks.{papers_of}
use Rattle.papers.specs.declared.programs.Program.{Program}
use Rattle.papers.proofs.ExamplePapers.{coupon_weigh}
use Rattle.semijoin.proofs.Figures.{on_number}
use Rattle.demands.specs.Link.{Crew, Allowed, State, start, after_events, lent_store, site_opened, with_made, with_taken, after}
use Rattle.demands.specs.Orderly.{in_turn, in_order, Happens}
use Rattle.demands.specs.DemandThree.{answering}
use Rattle.demands.proofs.OrderlyLaws.{in_order_lem}
use Rattle.tables.specs.Offsets.{row_count}
use Rattle.ground.specs.Bytes.{little_end, bytes_of}
use Rattle.ground.specs.Lists.{padded, numbers_from}
use Rattle.ground.specs.Outcome.{numbered, leaves}
use Rattle.ground.specs.Rising.{insert, rising}
use Rattle.ground.specs.Searching.{first_from}
use Rattle.ground.proofs.EveryLaws.{every_replicate}
use Rattle.fields.specs.Numbers.{number_at, number_that, marked, mark_at, version_at, head_of}
use Rattle.fields.specs.Puts.{fitted}
use Rattle.entries.specs.Clauses.{domain_of, selection_at, joined, join_at, clause_at, kind_bytes}
use Rattle.entries.specs.Places.{same_place, place_at, place_bytes}
use Rattle.entries.specs.Relations.{columns_of, column_at, column_bytes, columns_then, relation_at, relation_bytes}
use Rattle.contents.specs.Kept.{names, kept, kept_columns, first_bare}
use Rattle.contents.specs.Parts.{sizes_of, relations_of, clauses_of, targets_of, columns_in, with_version, with_sizes, with_relations, with_clauses, with_targets}
use Rattle.contents.specs.Sites.{site_of, is_at, holds}
use Rattle.envelopes.specs.Envelope.{filled, list_into, ended, targets_then, clauses_then, relations_then, sizes_then, envelope_from, envelope_bytes, check_envelope}
use Rattle.paths.specs.Implied.{constants_of, selections_by, equalities_by}
use Rattle.paths.specs.Meaning.{rows_in, tables_in, tables_of, meets_all, answer_on, answer_rows}
use Rattle.paths.specs.Paths.{edges, on_path}
use Rattle.paths.specs.Steps.{is_place, legal_by, step_bytes}
use Rattle.papers.specs.Programs.{steps_of, step_at, ended_program, steps_then, program_by, read_program, program_bytes, check_program}
use Rattle.tables.specs.Offsets.{count_in, words_before, rows_before, first_word, rows_over, marks_over, rows_at, marks_at}
use Rattle.tables.specs.Rising.{is_rising}
use Rattle.tables.specs.Rows.{kept_of, kept_rows}
use Rattle.tables.specs.Shape.{shaped}
use Rattle.tables.specs.Values.{values_over, values_of, rising_values}
use Rattle.semijoin.specs.Local.{passes_by, passes, opening_mark, opened_at, opened, opened_in}
use Rattle.semijoin.specs.Marks.{sieved, sieved_over, reduced_by}
use Rattle.ends.specs.Ends.{over_at, over_applied, sound_end, usable, start_of}
use Rattle.ends.specs.Messages.{value_message, row_message, about_of, counted, sound_values, rows_of}
use Rattle.ends.specs.Reducing.{step_of, reduces, reducing, steps_before, is_missing, first_missing, missing_of}
use Rattle.station.specs.Making.{values_with, make_values_of, sent_rows, rows_with, make_rows_of}
use Rattle.station.specs.Opening.{open_with, open_of}
use Rattle.station.specs.Receiving.{applied_to, with_applied, with_arrived, values_taken, rows_taken, taken as Taken-of, receive_with, receive_of}
use Rattle.answerer.specs.Assembly.{first_awaited, source_answer, assembled, assembled_with, assembled_outcome}
use Rattle.answerer.specs.Sources.{word_from, row_from, table_from, tables_behind}
use Rattle.answerer.specs.Stores.{stands_in, lay_stored, met_by, message_at, due_in, lays_from, source_held, source_of}

-- WEIGH reduced by COUPON, then COUPON by WEIGH
abbrev program : Program
program = program_with 1 (step (place 1 0) (place 0 0) ∷ step (place 0 0) (place 1 0) ∷ [])

abbrev coupon : List ℕ
coupon = 3 ∷ 0 ∷ 11 ∷ 20 ∷ 12 ∷ 20 ∷ 13 ∷ 21 ∷ []

abbrev weigh : List ℕ
weigh = 0 ∷ 4 ∷ 11 ∷ 20 ∷ 5 ∷ 12 ∷ 20 ∷ 7 ∷ 12 ∷ 20 ∷ 7 ∷ 14 ∷ 22 ∷ 3 ∷ []

-- each station has its own rows alone, and other sites have none
abbrev pub crew : Crew
crew =
    record {
      envelope = on_number;
      program = program;
      papers = record { envelope = on_number; program = program };
      run = 7;
      whole = coupon_weigh;
      tables = λ site. pick (eqb site 1) coupon (pick (eqb site 2) weigh (0 ∷ 0 ∷ []));
      lent = λ _. 9 ∷ 9 ∷ 9 ∷ 9 ∷ [];
    }

-- ---- the run

abbrev finish : State
finish = after_events crew (start crew) (in_order crew 20)

-- the messages, the last first: rows of WEIGH and of COUPON, the numbers of WEIGH for COUPON and those of COUPON for WEIGH; what each
-- station keeps; and the answer
pub computed : (finish.made
    ≡ (7 ∷ 257 ∷ 3 ∷ 11 ∷ 5 ∷ 12 ∷ 7 ∷ 12 ∷ 7 ∷ []) ∷ (7 ∷ 256 ∷ 2 ∷ 11 ∷ 12 ∷ []) ∷ (7 ∷ 1 ∷ 2 ∷ 11 ∷ 12 ∷ [])
    ∷ (7 ∷ 0 ∷ 3 ∷ 11 ∷ 12 ∷ 13 ∷ []) ∷ [])
    × ((finish.at 1).marks ≡ 1 ∷ 1 ∷ 0 ∷ 9 ∷ []) × ((finish.at 2).marks ≡ 1 ∷ 1 ∷ 1 ∷ 0 ∷ [])
    × (assembled_outcome (answering crew finish).end (lent_store (answering crew finish) []) 6
    ≡ good (11 ∷ 5 ∷ 12 ∷ 7 ∷ 12 ∷ 7 ∷ []) 6)
unfolding little_end bytes_of padded numbers_from numbered insert rising first_from number_at number_that marked mark_at version_at head_of domain_of selection_at joined join_at clause_at kind_bytes same_place place_at place_bytes columns_of column_at column_bytes columns_then relation_at relation_bytes names kept kept_columns first_bare sizes_of relations_of clauses_of targets_of columns_in with_version with_sizes with_relations with_clauses with_targets site_of is_at holds filled list_into ended targets_then clauses_then relations_then sizes_then envelope_from envelope_bytes check_envelope constants_of selections_by equalities_by rows_in tables_in tables_of meets_all answer_on answer_rows edges on_path is_place legal_by step_bytes papers_of steps_of step_at ended_program steps_then program_by read_program program_bytes check_program count_in words_before rows_before first_word rows_over marks_over rows_at marks_at is_rising kept_of kept_rows shaped values_over values_of rising_values passes_by passes opening_mark opened_at opened opened_in sieved sieved_over reduced_by over_at over_applied sound_end usable start_of value_message row_message about_of counted sound_values rows_of step_of reduces reducing steps_before is_missing first_missing missing_of leaves fitted values_with make_values_of sent_rows rows_with make_rows_of open_with open_of applied_to with_applied with_arrived values_taken rows_taken Taken-of receive_with receive_of first_awaited source_answer assembled assembled_with assembled_outcome word_from row_from table_from tables_behind stands_in lay_stored met_by message_at due_in lays_from source_held source_of site_opened with_made with_taken after in_turn in_order
computed = (refl, refl, refl, refl)

-- ---- the crew is one that demand 3 speaks of

small : (a : Place) → a.relation < 256 → a.column < 256 → PlaceFits a
small a h k = record { relation = h; column = k }

narrow : (d n : ℕ) → d < 256 → n < 2 ^ 32 → ColumnFits (record { domain = d; width = 1; distinct = n })
narrow d n h k = record { domain = h; width = omega arith; distinct = k }

none_column : ColumnFits no_column
none_column = record { domain = omega arith; width = omega arith; distinct = omega arith }

none_relation : RelationFits no_relation
none_relation =
    record { site = omega arith; count = omega arith; rows = omega arith; columns = every_replicate ColumnFits 8 no_column none_column; long = refl }

fits : Fits on_number
unfolding padded with_version with_sizes with_relations with_clauses with_targets
fits =
    let w : 100 < 2 ^ 32 = omega arith in
    let c = small (place 0 0) (omega arith) (omega arith) in
    record {
      version = omega arith;
      domains = omega arith;
      sizes = (w, (w, (w, every_replicate (λ (n : ℕ). n < 2 ^ 32) 13 0 (omega arith))));
      long_sizes = refl;
      relations = omega arith;
      each = (
        record {
          site = omega arith;
          count = omega arith;
          rows = omega arith;
          columns = (narrow 0 3 (omega arith) (omega arith), (narrow 1 2 (omega arith) (omega arith), every_replicate ColumnFits 6 no_column none_column));
          long = refl;
        },
        (
          record {
            site = omega arith;
            count = omega arith;
            rows = omega arith;
            columns = (
              narrow 0 3 (omega arith) (omega arith),
              (narrow 1 2 (omega arith) (omega arith), (narrow 2 3 (omega arith) (omega arith), every_replicate ColumnFits 5 no_column none_column)),
            );
            long = refl;
          },
          every_replicate RelationFits 6 no_relation none_relation,
        ),
      );
      long_relations = refl;
      clauses = omega arith;
      rules = ((c, small (place 1 0) (omega arith) (omega arith)), every_replicate ClauseFits 11 no_clause (small no_place (omega arith) (omega arith), omega arith));
      long_clauses = refl;
      targets = omega arith;
      named = (c, (small (place 1 2) (omega arith) (omega arith), every_replicate PlaceFits 14 no_place (small no_place (omega arith) (omega arith))));
      long_targets = refl;
    }

taken : papers_of on_number program ≡ good crew.papers 15
unfolding little_end bytes_of padded numbers_from numbered first_from number_at number_that marked mark_at version_at head_of domain_of selection_at joined join_at clause_at kind_bytes same_place place_at place_bytes columns_of column_at column_bytes columns_then relation_at relation_bytes names kept kept_columns first_bare sizes_of relations_of clauses_of targets_of columns_in with_version with_sizes with_relations with_clauses with_targets site_of is_at holds filled list_into ended targets_then clauses_then relations_then sizes_then envelope_from envelope_bytes check_envelope edges on_path is_place legal_by step_bytes papers_of steps_of step_at ended_program steps_then program_by program_bytes
taken = refl

whole_shape : shaped on_number coupon_weigh ≡ true
unfolding padded numbers_from with_version with_sizes with_relations with_clauses with_targets relations_of columns_in site_of is_at count_in words_before rows_before first_word rows_over rows_at rows_in shaped
whole_shape = refl

shape : (a b : Bool) → shaped on_number (pick a coupon (pick b weigh (0 ∷ 0 ∷ []))) ≡ true
unfolding padded numbers_from with_version with_sizes with_relations with_clauses with_targets relations_of columns_in site_of is_at count_in words_before rows_before first_word rows_over rows_at rows_in shaped
shape true b = refl
shape false true = refl
shape false false = refl

marked_all : (a b : Bool) → row_count on_number (pick a coupon (pick b weigh (0 ∷ 0 ∷ []))) ≤ 4
unfolding padded numbers_from with_version with_sizes with_relations with_clauses with_targets relations_of columns_in site_of is_at count_in words_before rows_before first_word rows_over rows_at rows_in shaped
marked_all true b = let n : row_count on_number coupon ≡ 3 = refl in omega (arith, n)
marked_all false true = let n : row_count on_number weigh ≡ 4 = refl in omega (arith, n)
marked_all false false = let n : row_count on_number (0 ∷ 0 ∷ []) ≡ 0 = refl in omega (arith, n)

own_rows : (site r : ℕ) → is_at on_number site r ≡ true → rows_at on_number (crew.tables site) r ≡ rows_at on_number coupon_weigh r
unfolding padded numbers_from with_version with_sizes with_relations with_clauses with_targets relations_of columns_in site_of is_at count_in words_before rows_before first_word rows_over rows_at rows_in shaped
own_rows site zero h = subst (λ (k : ℕ). rows_at on_number (crew.tables k) 0 ≡ rows_at on_number coupon_weigh 0) (eqb-true 1 site h) refl
own_rows site (suc zero) h = subst (λ (k : ℕ). rows_at on_number (crew.tables k) 1 ≡ rows_at on_number coupon_weigh 1) (eqb-true 2 site h) refl
own_rows site (suc (suc r)) h = let two : 2 ≤ suc (suc r) = omega arith in absurd (false≢true (at_none on_number (suc (suc r)) site 2 refl two ∙ h))

pub two_allowed : Allowed crew
two_allowed =
    record {
      fits = fits;
      accepted = (15, taken);
      sizes = whole_shape;
      shapes = λ site _. shape (eqb site 1) (eqb site 2);
      parts = own_rows;
      marks = λ site _. marked_all (eqb site 1) (eqb site 2);
    }

-- so all of its calls are taken where there is room
pub all_happens : Happens crew 16400
all_happens = in_order_lem crew two_allowed 16400 (omega arith)
