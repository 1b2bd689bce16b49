-- What is printed of the envelope of Figure 3.1, byte for byte; of one whose plan has no steps; and of a refusal.
use mathlib.Core.Path.{◌≡◌, refl}
use Rattle.ground.specs.Lists.{padded, numbers_from}
use Rattle.ground.specs.Searching.{first_from}
use Rattle.ground.specs.Rising.{insert, rising}
use Rattle.std.specs.Prelude.{Ok}
use Rattle.ground.specs.Outcome.{taken_of}
use Rattle.ground.specs.Refusals.{number_of}
use Rattle.ground.specs.declared.refusals.Reason.TheVariants.{EndsInside}
use Rattle.entries.specs.Places.{same_place}
use Rattle.entries.specs.Clauses.{domain_of}
use Rattle.contents.specs.Parts.{sizes_of, relations_of, clauses_of, targets_of, columns_in, with_version, with_sizes, with_relations, with_clauses, with_targets}
use Rattle.contents.specs.Sites.{site_of, is_at, holds}
use Rattle.contents.specs.Kept.{names, kept, kept_columns}
use Rattle.paths.specs.Paths.{edges, on_path}
use Rattle.paths.specs.Steps.{places, is_place, legal_by, legal_steps}
use Rattle.paths.specs.Implied.{constants_of, selections_by}
use Rattle.estimates.specs.Division.{over}
use Rattle.estimates.specs.Short.{Y}
use Rattle.estimates.specs.Columns.{column_of, domain_size, width_of}
use Rattle.estimates.specs.Profile.{given, shrunk, after_selection, rows_after, count_after, after_step, benefit, local_profile}
use Rattle.estimates.specs.Costs.{plain_costs, priced, step_cost, assembly_at}
use Rattle.estimates.specs.Estimate.{same_step, lines_of, estimated}
use Rattle.planner.specs.Plan.{site_for, greedy_steps, drops_at, after_drops, planned, plan_for, plan_of}
use Rattle.ground.specs.Outcome.Outcome.{good, bad}
use Rattle.planner.proofs.Figures.{E1, fallen}
use Rattle.ground.specs.Outcome.{numbered}
use Rattle.ground.specs.Bytes.{little_end, bytes_of}
use Rattle.fields.specs.Numbers.{number_at, number_that, marked, mark_at, version_at, head_of}
use Rattle.entries.specs.Relations.{columns_of, column_at, column_bytes, columns_then, relation_at, relation_bytes}
use Rattle.entries.specs.Places.{place_at, place_bytes}
use Rattle.entries.specs.Clauses.{selection_at, joined, join_at, clause_at, kind_bytes}
use Rattle.contents.specs.Kept.{first_bare}
use Rattle.envelopes.specs.Envelope.{filled, list_into, ended, targets_then, clauses_then, relations_then, sizes_then, envelope_from, envelope_bytes}
use Rattle.envelopes.specs.Envelope.{read_envelope}
use Rattle.listing.specs.Text.{text, decimal_in, decimal}
use Rattle.listing.specs.Listing.{step_text, step_line, last_line, refused_line, plan_lines, listing}

pub figure_listed : listing (Ok (plan_for plain_costs E1))
    ≡ text "left column right column benefit cost\n1 1 2 0 298500 50\n1 0 0 0 1470 100\n0 0 1 0 1300 10\n2 0 1 1 150 10\nsite 2 assembly 0 total 170 local 1450\n"
unfolding padded numbers_from first_from insert rising same_place domain_of sizes_of relations_of clauses_of targets_of columns_in with_version with_sizes with_relations with_clauses with_targets site_of is_at holds names kept kept_columns edges on_path places is_place legal_by legal_steps constants_of selections_by over Y column_of domain_size width_of given shrunk after_selection rows_after count_after after_step benefit local_profile plain_costs priced step_cost assembly_at same_step site_for greedy_steps drops_at after_drops planned lines_of estimated plan_for decimal_in decimal step_text step_line last_line plan_lines listing
figure_listed = refl

pub fallback_listed : listing (Ok (plan_for plain_costs fallen)) ≡ text "left column right column benefit cost\nsite 2 assembly 100 total 100 local 100\n"
unfolding padded numbers_from first_from insert rising same_place domain_of sizes_of relations_of clauses_of targets_of columns_in with_version with_sizes with_relations with_clauses with_targets site_of is_at holds names kept kept_columns edges on_path places is_place legal_by legal_steps constants_of selections_by over Y column_of domain_size width_of given shrunk after_selection rows_after count_after after_step benefit local_profile plain_costs priced step_cost assembly_at same_step site_for greedy_steps drops_at after_drops planned lines_of estimated plan_for decimal_in decimal step_text step_line last_line plan_lines listing
fallback_listed = refl

pub refusal_listed : listing (taken_of (plan_of (bad EndsInside 0))) ≡ text "refused 1 0\n"
unfolding taken_of number_of plan_of decimal_in decimal refused_line listing
refusal_listed = refl

-- the same from its bytes on
figure_read : read_envelope (envelope_bytes E1) ≡ good E1 195
unfolding numbered padded numbers_from little_end bytes_of first_from number_at number_that marked mark_at version_at head_of same_place place_at place_bytes columns_of column_at column_bytes columns_then relation_at relation_bytes domain_of selection_at joined join_at clause_at kind_bytes sizes_of relations_of clauses_of targets_of columns_in with_version with_sizes with_relations with_clauses with_targets names kept kept_columns first_bare ended filled list_into targets_then clauses_then relations_then sizes_then envelope_from envelope_bytes
figure_read = refl

pub figure_printed : listing (taken_of (plan_of (read_envelope (envelope_bytes E1))))
    ≡ text "left column right column benefit cost\n1 1 2 0 298500 50\n1 0 0 0 1470 100\n0 0 1 0 1300 10\n2 0 1 1 150 10\nsite 2 assembly 0 total 170 local 1450\n"
unfolding taken_of plan_of
figure_printed = rw figure_read figure_listed
