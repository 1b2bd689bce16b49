use native.Mathlib.Omega.{arith}
use lib.ListN.{length}
use Prim.Native.Nat.{◌≤◌}
use Rattle.fields.proofs.PartLaws.{exact}
use Rattle.envelopes.proofs.PutCodeLaws.{few_sizes, few_relations, few_clauses, few_targets, put_envelope}
use Rattle.envelopes.proofs.puts.put_envelope.Goals as goal

pub returns : goal.returns
returns c =
    let sizes : length c.sizes_in_use.result.now ≤ 16 = few_sizes c.args.envelope _ c.sizes_in_use.ensures (omega arith) in
    let relations : length c.relations_in_use.result.now ≤ 8 = few_relations c.args.envelope _ c.relations_in_use.ensures (omega arith) in
    let clauses : length c.clauses_in_use.result.now ≤ 12 = few_clauses c.args.envelope _ c.clauses_in_use.ensures (omega arith) in
    let targets : length c.targets_in_use.result.now ≤ 16 = few_targets c.args.envelope _ c.targets_in_use.ensures (omega arith) in
    put_envelope c.args.envelope _ _ _ _ c.sizes_in_use.ensures c.relations_in_use.ensures c.clauses_in_use.ensures c.targets_in_use.ensures
    _ _ _ _ _ _ _ _ _ _ _ sizes relations clauses targets c.put_head-p.ensures
    (exact _ _ _ _ _ _ c.put_list-q.ensures (omega arith))
    (exact _ _ _ _ _ _ c.put_list-u.ensures (omega arith))
    (exact _ _ _ _ _ _ c.put_list-v.ensures (omega arith))
    (exact _ _ _ _ _ _ c.put_list.ensures (omega arith))
