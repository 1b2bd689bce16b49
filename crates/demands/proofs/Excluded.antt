-- "Excluded by name: refusing everything ..; one fixed plan or answer ..; stations that reduce nothing": none of them does what
-- demand 2 says, shown on the envelopes and tables of 01's figures. To ship whole tables, to apply the first step alone and to invent
-- a cost are excluded by the fields of DemandTwo and by Upper, which say each row and each number.
use mathlib.Core.Path.{◌≡◌, refl, sym, ap, ◌∙◌}
use mathlib.Core.Bool.{true}
use mathlib.Core.List.{List, []}
use Prim.Native.Nat.{ℕ}
use native.Mathlib.Omega.{arith}
use lib.ListN.{length, get_or, replicate}
use Rattle.ground.specs.Lists.{padded, numbers_from}
use Rattle.std.specs.Prelude.{Result, Ok}
use Rattle.ground.specs.declared.refusals.Refusal.{Refusal}
use Rattle.ground.specs.Outcome.{numbered, taken_of}
use Rattle.ground.specs.Outcome.Outcome.{good, bad}
use Rattle.ground.specs.Bytes.{little_end, bytes_of}
use Rattle.ground.specs.Searching.{first_from}
use Rattle.ground.specs.Rising.{insert, rising}
use Rattle.ground.proofs.OutcomeLaws.{good_bad}
use Rattle.fields.specs.Numbers.{number_at, number_that, marked, mark_at, version_at, head_of}
use Rattle.fields.specs.Puts.{fitted}
use Rattle.entries.specs.Relations.{columns_of, column_at, column_bytes, columns_then, relation_at, relation_bytes}
use Rattle.entries.specs.Places.{place, same_place, place_at, place_bytes}
use Rattle.entries.specs.Clauses.{domain_of, selection_at, joined, join_at, clause_at, kind_bytes}
use Rattle.contents.specs.Parts.{columns_in, sizes_of, relations_of, clauses_of, targets_of, with_version, with_sizes, with_relations, with_clauses, with_targets}
use Rattle.contents.specs.Kept.{names, kept, kept_columns, first_bare}
use Rattle.contents.specs.Sites.{site_of, is_at, holds}
use Rattle.contents.specs.declared.envelope.Envelope.{Envelope}
use Rattle.envelopes.specs.Envelope.{filled, list_into, ended, targets_then, clauses_then, relations_then, sizes_then, envelope_from, envelope_bytes, check_envelope}
use Rattle.paths.specs.Paths.{edges, on_path}
use Rattle.paths.specs.Steps.{step, is_place, legal_by, legal}
use Rattle.paths.specs.declared.steps.Step.{Step}
use Rattle.paths.specs.Implied.{constants_of, selections_by}
use Rattle.paths.specs.Meaning.{rows_in, tables_in, tables_of, meets_all, answer_on, answer_rows}
use Rattle.estimates.specs.Division.{over}
use Rattle.estimates.specs.Short.{Y}
use Rattle.estimates.specs.Columns.{column_of, width_of}
use Rattle.estimates.specs.Profile.{given, shrunk, after_selection, local_profile}
use Rattle.estimates.specs.Costs.{plain_costs, priced, assembly_at}
use Rattle.planner.specs.Plan.{site_for, plan_for, plan_of}
use Rattle.planner.specs.declared.plans.Plan.{Plan}
use Rattle.planner.proofs.Figures.{E1, fallen}
use Rattle.tables.specs.Offsets.{count_in, first_word, words_before}
use Rattle.tables.specs.Shape.{shaped}
use Rattle.semijoin.specs.Run.{stepped}
use Rattle.papers.proofs.ExamplePapers.{coupon_weigh}
use Rattle.semijoin.proofs.Figures.{on_number, on_date, all_kept}
use Rattle.semijoin.proofs.Figures as reduced
use Rattle.answerer.specs.Answer.{answer_checked, answer_outcome}
use Rattle.ground.specs.declared.refusals.Reason.{Reason}

-- ---- what the definitions give

-- both envelopes are taken, as they are
both_taken : (check_envelope E1 ≡ good E1 195) × (check_envelope fallen ≡ good fallen 44)
unfolding padded numbers_from numbered little_end bytes_of first_from number_at number_that marked mark_at version_at head_of columns_of column_at column_bytes columns_then relation_at relation_bytes same_place place_at place_bytes domain_of selection_at joined join_at clause_at kind_bytes columns_in sizes_of relations_of clauses_of targets_of with_version with_sizes with_relations with_clauses with_targets names kept kept_columns first_bare filled list_into ended targets_then clauses_then relations_then sizes_then envelope_from envelope_bytes check_envelope
both_taken = (refl, refl)

-- what local operations alone cost
locals : ((plan_for plain_costs E1).local ≡ 1450) × ((plan_for plain_costs fallen).local ≡ 100)
unfolding padded numbers_from first_from insert rising same_place domain_of sizes_of relations_of clauses_of targets_of columns_in with_version with_sizes with_relations with_clauses with_targets site_of is_at holds names kept kept_columns edges on_path constants_of selections_by over Y column_of width_of given shrunk after_selection local_profile plain_costs priced assembly_at site_for plan_for
locals = (refl, refl)

-- the answers to two envelopes on the same tables, into 12 words
abbrev answer_of : Envelope → ℕ → Type 0
answer_of e n = (w : List ℕ) × (u : ℕ) × (answer_outcome e coupon_weigh 12 ≡ good w u) × (length w ≡ n)

answers : answer_of on_number 6 × answer_of on_date 12
unfolding padded numbers_from numbered little_end bytes_of first_from number_at number_that marked mark_at version_at head_of columns_of column_at column_bytes columns_then relation_at relation_bytes same_place place_at place_bytes domain_of selection_at joined join_at clause_at kind_bytes columns_in sizes_of relations_of clauses_of targets_of with_version with_sizes with_relations with_clauses with_targets names kept kept_columns first_bare filled list_into ended targets_then clauses_then relations_then sizes_then envelope_from envelope_bytes check_envelope rows_in tables_in tables_of meets_all answer_on answer_rows count_in first_word words_before shaped fitted answer_checked answer_outcome
answers = ((_, 6, refl, refl), (_, 12, refl, refl))

-- a legal step, and that of the marks that keep every row it removes the third
abbrev on_dates : Step
on_dates = step (place 0 1) (place 1 1)

dates_legal : legal on_date on_dates ≡ true
unfolding padded same_place domain_of relations_of clauses_of columns_in with_version with_sizes with_relations with_clauses with_targets edges on_path is_place legal_by
dates_legal = refl

third_removed : get_or (stepped on_date coupon_weigh on_dates all_kept) 2 1 ≡ 0
third_removed = ap (λ (l : List (List ℕ)). get_or (get_or l 4 []) 2 1) reduced.figures_hold

-- ---- so

pub not_refusing_everything : ((e : Envelope) → (n : Reason) × (u : ℕ) × (check_envelope e ≡ bad n u)) → ⊥
not_refusing_everything all = let (n, u, h) = all E1 in good_bad E1 195 n u (sym both_taken.0 ∙ h)

same_plan : (x y : Plan) → ◌≡◌ {A = Result Plan Refusal} (Ok x) (Ok y) → x ≡ y
same_plan x y h = cc

-- of the envelopes that are taken
pub not_one_plan : (x : Plan) → ((e f : Envelope) (u : ℕ) → check_envelope e ≡ good f u → taken_of (plan_of (check_envelope e)) ≡ Ok x) → ⊥
unfolding plan_of taken_of
not_one_plan x all =
    let first : plan_for plain_costs E1 ≡ x = same_plan _ x (sym (ap (λ o. taken_of (plan_of o)) both_taken.0) ∙ all E1 E1 195 both_taken.0) in
    let second : plan_for plain_costs fallen ≡ x = same_plan _ x (sym (ap (λ o. taken_of (plan_of o)) both_taken.1) ∙ all fallen fallen 44 both_taken.1) in
    let same : (plan_for plain_costs E1).local ≡ (plan_for plain_costs fallen).local = ap (λ (p : Plan). p.local) (first ∙ sym second) in
    omega (arith, same, locals.0, locals.1)

-- of the answers that are given
pub not_one_answer : (w : List ℕ) → ((e : Envelope) (words out v : List ℕ) (u : ℕ) → answer_outcome e words (length out) ≡ good v u → v ≡ w) → ⊥
not_one_answer w all =
    let (v, u, h, six) = answers.0 in
    let (y, z, k, twelve) = answers.1 in
    let same : length v ≡ length y =
    ap (λ (l : List ℕ). length l) (all on_number coupon_weigh (replicate 12 0) v u h ∙ sym (all on_date coupon_weigh (replicate 12 0) y z k)) in
    omega (arith, same, six, twelve)

-- of legal steps
pub not_reducing_nothing : ((e : Envelope) (words marks : List ℕ) (s : Step) → legal e s ≡ true → stepped e words s marks ≡ marks) → ⊥
not_reducing_nothing all =
    let same : get_or (stepped on_date coupon_weigh on_dates all_kept) 2 1 ≡ 1 = ap (λ (l : List ℕ). get_or l 2 1) (all on_date coupon_weigh all_kept on_dates dates_legal) in
    omega (arith, same, third_removed)
