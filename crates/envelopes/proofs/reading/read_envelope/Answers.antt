use borrow.Author.Rules.{rules}
use native.Mathlib.Omega.{arith}
use Rattle.ground.proofs.OutcomeLaws.{exits}
use Rattle.fields.proofs.HeadCodeLaws.{read_version}
use Rattle.contents.specs.Parts.{with_version}
use Rattle.envelopes.proofs.ReadingLaws.{envelope_no_head, envelope_no_sizes, envelope_no_relations, envelope_no_clauses, envelope_no_targets, envelope_is}
use Rattle.envelopes.proofs.reading.read_envelope.Goals as goal

pub returns-in_err-version : goal.returns-in_err-version
returns-in_err-version c = search (envelope_no_head, rules)

pub overflow_cast-start : goal.overflow_cast-start
overflow_cast-start c = omega (arith, read_version _ _ _ _ _ _ c.read_head.ensures c.in_ok-version.was)

pub returns-in_err-with_sizes : goal.returns-in_err-with_sizes
unfolding with_version
returns-in_err-with_sizes c =
    exits _ _ _ c.from_residual-in_err-with_sizes.ensures.1
    (envelope_no_sizes _ _ c.read_head.ensures _ _ c.in_ok-version.was _ (simp c.no_envelope.ensures) _ c.read_sizes.ensures _ c.in_err-with_sizes.was)

pub returns-in_err-with_relations : goal.returns-in_err-with_relations
unfolding with_version
returns-in_err-with_relations c =
    exits _ _ _ c.from_residual-in_err-with_relations.ensures.1
    (envelope_no_relations _ _ c.read_head.ensures _ _ c.in_ok-version.was _ (simp c.no_envelope.ensures) _ c.read_sizes.ensures
    _ _ c.in_ok-with_sizes.was _ c.read_relations.ensures _ c.in_err-with_relations.was)

pub returns-in_err-with_clauses : goal.returns-in_err-with_clauses
unfolding with_version
returns-in_err-with_clauses c =
    exits _ _ _ c.from_residual-in_err-with_clauses.ensures.1
    (envelope_no_clauses _ _ c.read_head.ensures _ _ c.in_ok-version.was _ (simp c.no_envelope.ensures) _ c.read_sizes.ensures
    _ _ c.in_ok-with_sizes.was _ c.read_relations.ensures
    _ _ c.in_ok-with_relations.was _ c.read_clauses.ensures _ c.in_err-with_clauses.was)

pub returns-in_err-with_targets : goal.returns-in_err-with_targets
unfolding with_version
returns-in_err-with_targets c =
    exits _ _ _ c.from_residual-in_err-with_targets.ensures.1
    (envelope_no_targets _ _ c.read_head.ensures _ _ c.in_ok-version.was _ (simp c.no_envelope.ensures) _ c.read_sizes.ensures
    _ _ c.in_ok-with_sizes.was _ c.read_relations.ensures
    _ _ c.in_ok-with_relations.was _ c.read_clauses.ensures
    _ _ c.in_ok-with_clauses.was _ c.read_targets.ensures _ c.in_err-with_targets.was)

pub returns : goal.returns
unfolding with_version
returns c =
    envelope_is _ _ c.read_head.ensures _ _ c.in_ok-version.was _ (simp c.no_envelope.ensures) _ c.read_sizes.ensures
    _ _ c.in_ok-with_sizes.was _ c.read_relations.ensures
    _ _ c.in_ok-with_relations.was _ c.read_clauses.ensures
    _ _ c.in_ok-with_clauses.was _ c.read_targets.ensures _ _ _ c.in_ok-with_targets.was c.at_end.ensures
