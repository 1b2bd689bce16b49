-- Of each public function that reads, checks, writes, plans, estimates or lists, or serves those, and of each method of an impl that does: its
-- contract determines it.
use Rattle.ground.proofs.least
use Rattle.ground.proofs.refusals
use Rattle.ground.proofs.used
use Rattle.fields.proofs.numbers
use Rattle.fields.proofs.puts
use Rattle.entries.proofs.clauses
use Rattle.entries.proofs.places
use Rattle.entries.proofs.relations
use Rattle.contents.proofs.envelope
use Rattle.contents.proofs.kept
use Rattle.contents.proofs.parts
use Rattle.contents.proofs.sites
use Rattle.envelopes.proofs.reading
use Rattle.paths.proofs.implied
use Rattle.paths.proofs.labels
use Rattle.paths.proofs.steps
use Rattle.papers.proofs.checks
use Rattle.papers.proofs.programs
use Rattle.estimates.proofs.costs
use Rattle.estimates.proofs.estimator
use Rattle.estimates.proofs.lines
use Rattle.estimates.proofs.locals
use Rattle.estimates.proofs.profiles
use Rattle.planner.proofs.planner
use Rattle.listing.proofs.listing
use denote.RattleType.{RattleType}
use denote.Param.Laws.{Laws}
use mathlib.Core.Path.{refl}
use Rattle.demands.proofs.Unique.{Determined, Shown, same}

-- ---- ground

pub in_use_one : Determined used.in_use.Kinds.ps used.in_use.Kinds.r used.in_use.Reads.Learnt
in_use_one κs a y z u v p q = (same p q, refl)

pub first_one : (T : RattleType) (l : Laws T) → Shown (used.first.Kinds.ps T l) (used.first.Kinds.r T l) (used.first.Reads.Learnt T l) (λ κs y. y.now)
first_one T l κs a y z u v p q = (same p q, refl)

pub nearer_of_one : Determined least.nearer_of.Kinds.ps least.nearer_of.Kinds.r least.nearer_of.Reads.Learnt
nearer_of_one κs a y z u v p q = (same p q, refl)

pub at_one : Determined refusals.Reason.at.Kinds.ps refusals.Reason.at.Kinds.r refusals.Reason.at.Reads.Learnt
at_one κs a y z u v p q = (same p q, refl)

pub from_one : Determined refusals.U8FromReason.from.Kinds.ps refusals.U8FromReason.from.Kinds.r refusals.U8FromReason.from.Reads.Learnt
from_one κs a y z u v p q = (same p q, refl)

-- ---- fields

pub number_at_one : Determined numbers.number_at.Kinds.ps numbers.number_at.Kinds.r numbers.number_at.Reads.Learnt
number_at_one κs a y z u v p q = (same p q, refl)

pub number_in_one : Determined numbers.number_in.Kinds.ps numbers.number_in.Kinds.r numbers.number_in.Reads.Learnt
number_in_one κs a y z u v p q = (same p q, refl)

pub number_below_one : Determined numbers.number_below.Kinds.ps numbers.number_below.Kinds.r numbers.number_below.Reads.Learnt
number_below_one κs a y z u v p q = (same p q, refl)

pub read_head_one : Determined numbers.read_head.Kinds.ps numbers.read_head.Kinds.r numbers.read_head.Reads.Learnt
read_head_one κs a y z u v p q = (same p q, refl)

pub put_number_one : Determined puts.put_number.Kinds.ps puts.put_number.Kinds.r puts.put_number.Reads.Learnt
put_number_one κs a y z u v p q = (refl, λ i. (same p q i, (tt, (tt, (tt, tt)))))

pub put_byte_one : Determined puts.U8Part.put.Kinds.ps puts.U8Part.put.Kinds.r puts.U8Part.put.Reads.Learnt
put_byte_one κs a y z u v p q = (same p.0 q.0, λ i. (tt, (same p.1.1 q.1.1 i, (tt, tt))))

pub put_size_one : Determined puts.U32Part.put.Kinds.ps puts.U32Part.put.Kinds.r puts.U32Part.put.Reads.Learnt
put_size_one κs a y z u v p q = (same p.0 q.0, λ i. (tt, (same p.1.1 q.1.1 i, (tt, tt))))

pub put_head_one : Determined puts.put_head.Kinds.ps puts.put_head.Kinds.r puts.put_head.Reads.Learnt
put_head_one κs a y z u v p q = (same p.0 q.0, λ i. (same p.1 q.1 i, (tt, (tt, (tt, (tt, tt))))))

pub write_front_one : Determined puts.write_front.Kinds.ps puts.write_front.Kinds.r puts.write_front.Reads.Learnt
write_front_one κs a y z u v p q = (same p.0 q.0, λ i. (tt, (same p.1 q.1 i, tt)))

-- ---- entries

pub no_clause_one : Determined clauses.no_clause.Kinds.ps clauses.no_clause.Kinds.r clauses.no_clause.Reads.Learnt
no_clause_one κs a y z u v p q = (same p q, refl)

pub domain_of_one : Determined clauses.domain_of.Kinds.ps clauses.domain_of.Kinds.r clauses.domain_of.Reads.Learnt
domain_of_one κs a y z u v p q = (same p q, refl)

pub read_clause_one : Determined clauses.read_clause.Kinds.ps clauses.read_clause.Kinds.r clauses.read_clause.Reads.Learnt
read_clause_one κs a y z u v p q = (same p q, refl)

pub no_place_one : Determined places.no_place.Kinds.ps places.no_place.Kinds.r places.no_place.Reads.Learnt
no_place_one κs a y z u v p q = (same p q, refl)

pub same_place_one : Determined places.same_place.Kinds.ps places.same_place.Kinds.r places.same_place.Reads.Learnt
same_place_one κs a y z u v p q = (same p q, refl)

pub named_column_one : Determined places.named_column.Kinds.ps places.named_column.Kinds.r places.named_column.Reads.Learnt
named_column_one κs a y z u v p q = (same p q, refl)

pub column_count_one : Determined places.column_count.Kinds.ps places.column_count.Kinds.r places.column_count.Reads.Learnt
column_count_one κs a y z u v p q = (same p q, refl)

pub read_place_one : Determined places.read_place.Kinds.ps places.read_place.Kinds.r places.read_place.Reads.Learnt
read_place_one κs a y z u v p q = (same p q, refl)

pub no_column_one : Determined relations.no_column.Kinds.ps relations.no_column.Kinds.r relations.no_column.Reads.Learnt
no_column_one κs a y z u v p q = (same p q, refl)

pub column_at_one : Determined relations.column_at.Kinds.ps relations.column_at.Kinds.r relations.column_at.Reads.Learnt
column_at_one κs a y z u v p q = (same p q, refl)

pub no_relation_one : Determined relations.no_relation.Kinds.ps relations.no_relation.Kinds.r relations.no_relation.Reads.Learnt
no_relation_one κs a y z u v p q = (same p q, refl)

pub read_relation_one : Determined relations.read_relation.Kinds.ps relations.read_relation.Kinds.r relations.read_relation.Reads.Learnt
read_relation_one κs a y z u v p q = (same p q, refl)

pub put_clause_one : Determined clauses.ClausePart.put.Kinds.ps clauses.ClausePart.put.Kinds.r clauses.ClausePart.put.Reads.Learnt
put_clause_one κs a y z u v p q = (same p.0 q.0, λ i. (tt, (same p.1.1 q.1.1 i, (tt, tt))))

pub put_place_one : Determined places.PlacePart.put.Kinds.ps places.PlacePart.put.Kinds.r places.PlacePart.put.Reads.Learnt
put_place_one κs a y z u v p q = (same p.0 q.0, λ i. (tt, (same p.1.1 q.1.1 i, (tt, tt))))

pub put_column_one : Determined relations.ColumnPart.put.Kinds.ps relations.ColumnPart.put.Kinds.r relations.ColumnPart.put.Reads.Learnt
put_column_one κs a y z u v p q = (same p.0 q.0, λ i. (tt, (same p.1.1 q.1.1 i, (tt, tt))))

pub put_relation_one : Determined relations.RelationPart.put.Kinds.ps relations.RelationPart.put.Kinds.r relations.RelationPart.put.Reads.Learnt
put_relation_one κs a y z u v p q = (same p.0 q.0, λ i. (tt, (same p.1.1 q.1.1 i, (tt, tt))))

-- ---- contents

pub no_envelope_one : Determined envelope.no_envelope.Kinds.ps envelope.no_envelope.Kinds.r envelope.no_envelope.Reads.Learnt
no_envelope_one κs a y z u v p q = (same p q, refl)

pub kept_columns_one : Determined kept.kept_columns.Kinds.ps kept.kept_columns.Kinds.r kept.kept_columns.Reads.Learnt
kept_columns_one κs a y z u v p q = (same p q, refl)

pub lowest_bare_one : Determined kept.lowest_bare.Kinds.ps kept.lowest_bare.Kinds.r kept.lowest_bare.Reads.Learnt
lowest_bare_one κs a y z u v p q = (same p q, refl)

pub columns_in_one : Determined parts.columns_in.Kinds.ps parts.columns_in.Kinds.r parts.columns_in.Reads.Learnt
columns_in_one κs a y z u v p q = (same p q, refl)

pub site_of_one : Determined sites.site_of.Kinds.ps sites.site_of.Kinds.r sites.site_of.Reads.Learnt
site_of_one κs a y z u v p q = (same p q, refl)

pub is_at_one : Determined sites.is_at.Kinds.ps sites.is_at.Kinds.r sites.is_at.Reads.Learnt
is_at_one κs a y z u v p q = (same p q, refl)

pub holds_relation_one : Determined sites.holds_relation.Kinds.ps sites.holds_relation.Kinds.r sites.holds_relation.Reads.Learnt
holds_relation_one κs a y z u v p q = (same p q, refl)

pub sizes_in_use_one : Shown envelope.Envelope.sizes_in_use.Kinds.ps envelope.Envelope.sizes_in_use.Kinds.r envelope.Envelope.sizes_in_use.Reads.Learnt (λ κs y. y.now)
sizes_in_use_one κs a y z u v p q = (same p q, refl)

pub relations_in_use_one : Shown envelope.Envelope.relations_in_use.Kinds.ps envelope.Envelope.relations_in_use.Kinds.r envelope.Envelope.relations_in_use.Reads.Learnt (λ κs y. y.now)
relations_in_use_one κs a y z u v p q = (same p q, refl)

pub clauses_in_use_one : Shown envelope.Envelope.clauses_in_use.Kinds.ps envelope.Envelope.clauses_in_use.Kinds.r envelope.Envelope.clauses_in_use.Reads.Learnt (λ κs y. y.now)
clauses_in_use_one κs a y z u v p q = (same p q, refl)

pub targets_in_use_one : Shown envelope.Envelope.targets_in_use.Kinds.ps envelope.Envelope.targets_in_use.Kinds.r envelope.Envelope.targets_in_use.Reads.Learnt (λ κs y. y.now)
targets_in_use_one κs a y z u v p q = (same p q, refl)

pub columns_in_use_one : Shown kept.Columns.in_use.Kinds.ps kept.Columns.in_use.Kinds.r kept.Columns.in_use.Reads.Learnt (λ κs y. y.now)
columns_in_use_one κs a y z u v p q = (same p q, refl)

-- ---- envelopes

pub read_envelope_one : Determined reading.read_envelope.Kinds.ps reading.read_envelope.Kinds.r reading.read_envelope.Reads.Learnt
read_envelope_one κs a y z u v p q = (same p q, refl)

pub check_envelope_one : Determined reading.check_envelope.Kinds.ps reading.check_envelope.Kinds.r reading.check_envelope.Reads.Learnt
check_envelope_one κs a y z u v p q = (same p q, refl)

pub write_envelope_one : Determined reading.write_envelope.Kinds.ps reading.write_envelope.Kinds.r reading.write_envelope.Reads.Learnt
write_envelope_one κs a y z u v p q = (same p.0 q.0, λ i. (tt, (same p.1 q.1 i, tt)))

-- ---- paths

pub selections_by_one : Determined implied.selections_by.Kinds.ps implied.selections_by.Kinds.r implied.selections_by.Reads.Learnt
selections_by_one κs a y z u v p q = (same p q, refl)

pub equalities_by_one : Determined implied.equalities_by.Kinds.ps implied.equalities_by.Kinds.r implied.equalities_by.Reads.Learnt
equalities_by_one κs a y z u v p q = (same p q, refl)

pub implied_selections_one : Determined implied.implied_selections.Kinds.ps implied.implied_selections.Kinds.r implied.implied_selections.Reads.Learnt
implied_selections_one κs a y z u v p q = (same p q, refl)

pub implied_equalities_one : Determined implied.implied_equalities.Kinds.ps implied.implied_equalities.Kinds.r implied.implied_equalities.Reads.Learnt
implied_equalities_one κs a y z u v p q = (same p q, refl)

pub labels_of_one : Determined labels.labels_of.Kinds.ps labels.labels_of.Kinds.r labels.labels_of.Reads.Learnt
labels_of_one κs a y z u v p q = (same p q, refl)

pub is_place_one : Determined steps.is_place.Kinds.ps steps.is_place.Kinds.r steps.is_place.Reads.Learnt
is_place_one κs a y z u v p q = (same p q, refl)

pub legal_by_one : Determined steps.legal_by.Kinds.ps steps.legal_by.Kinds.r steps.legal_by.Reads.Learnt
legal_by_one κs a y z u v p q = (same p q, refl)

pub is_legal_one : Determined steps.is_legal.Kinds.ps steps.is_legal.Kinds.r steps.is_legal.Reads.Learnt
is_legal_one κs a y z u v p q = (same p q, refl)

-- ---- papers

pub check_papers_one : Determined checks.check_papers.Kinds.ps checks.check_papers.Kinds.r checks.check_papers.Reads.Learnt
check_papers_one κs a y z u v p q = (same p q, refl)

pub no_step_one : Determined programs.no_step.Kinds.ps programs.no_step.Kinds.r programs.no_step.Reads.Learnt
no_step_one κs a y z u v p q = (same p q, refl)

pub no_program_one : Determined programs.no_program.Kinds.ps programs.no_program.Kinds.r programs.no_program.Reads.Learnt
no_program_one κs a y z u v p q = (same p q, refl)

pub read_program_one : Determined programs.read_program.Kinds.ps programs.read_program.Kinds.r programs.read_program.Reads.Learnt
read_program_one κs a y z u v p q = (same p q, refl)

pub check_program_one : Determined programs.check_program.Kinds.ps programs.check_program.Kinds.r programs.check_program.Reads.Learnt
check_program_one κs a y z u v p q = (same p q, refl)

pub write_program_one : Determined programs.write_program.Kinds.ps programs.write_program.Kinds.r programs.write_program.Reads.Learnt
write_program_one κs a y z u v p q = (same p.0 q.0, λ i. (tt, (tt, (same p.1 q.1 i, tt))))

-- ---- estimates

pub plain_costs_one : Determined costs.plain_costs.Kinds.ps costs.plain_costs.Kinds.r costs.plain_costs.Reads.Learnt
plain_costs_one κs a y z u v p q = (same p q, refl)

pub assembly_at_one : Determined costs.assembly_at.Kinds.ps costs.assembly_at.Kinds.r costs.assembly_at.Reads.Learnt
assembly_at_one κs a y z u v p q = (same p q, refl)

pub line_of_one : Determined estimator.line_of.Kinds.ps estimator.line_of.Kinds.r estimator.line_of.Reads.Learnt
line_of_one κs a y z u v p q = (same p q, refl)

pub estimated_one : Determined estimator.estimated.Kinds.ps estimator.estimated.Kinds.r estimator.estimated.Reads.Learnt
estimated_one κs a y z u v p q = (same p q, refl)

pub estimate_one : Determined estimator.estimate.Kinds.ps estimator.estimate.Kinds.r estimator.estimate.Reads.Learnt
estimate_one κs a y z u v p q = (same p q, refl)

pub no_line_one : Determined lines.no_line.Kinds.ps lines.no_line.Kinds.r lines.no_line.Reads.Learnt
no_line_one κs a y z u v p q = (same p q, refl)

pub local_profile_one : Determined locals.local_profile.Kinds.ps locals.local_profile.Kinds.r locals.local_profile.Reads.Learnt
local_profile_one κs a y z u v p q = (same p q, refl)

pub after_step_one : Determined profiles.Profile.after_step.Kinds.ps profiles.Profile.after_step.Kinds.r profiles.Profile.after_step.Reads.Learnt
after_step_one κs a y z u v p q = (same p q, refl)

-- ---- planner

pub plan_one : Determined planner.plan.Kinds.ps planner.plan.Kinds.r planner.plan.Reads.Learnt
plan_one κs a y z u v p q = (same p q, refl)

pub plan_paper_one : Determined planner.plan_paper.Kinds.ps planner.plan_paper.Kinds.r planner.plan_paper.Reads.Learnt
plan_paper_one κs a y z u v p q = (same p q, refl)

-- ---- listing

pub put_listing_one : Determined listing.put_listing.Kinds.ps listing.put_listing.Kinds.r listing.put_listing.Reads.Learnt
put_listing_one κs a y z u v p q = (same p.0 q.0, λ i. (same p.1 q.1 i, (tt, tt)))

pub list_paper_one : Determined listing.list_paper.Kinds.ps listing.list_paper.Kinds.r listing.list_paper.Reads.Learnt
list_paper_one κs a y z u v p q = (same p.0 q.0, λ i. (same p.1 q.1 i, (tt, tt)))
