use Rattle.std.proofs.Common.{rules, arith}
use Rattle.ground.proofs.MappingLaws.{mapping_start, mapping_set, mapping_all}
use Rattle.paths.specs.Labels.{relabel}
use Rattle.paths.proofs.LabelCodeLaws.{renamed}
use Rattle.paths.proofs.labels.relabelled.Goals as goal

pub loop-i-init : goal.loop-i-init
loop-i-init c = let a = c.args in mapping_start (renamed a.a a.b) a.labels 76 (omega arith)

pub loop-i-preserved : goal.loop-i-preserved
loop-i-preserved c = let a = c.args in
    mapping_set (renamed a.a a.b) a.labels 76 _ _ c.loop-i.invariant 0 c.loop-i-test.true _ (search rules)

pub returns : goal.returns
unfolding relabel
returns c = let a = c.args in mapping_all (renamed a.a a.b) a.labels 76 _ _ c.loop-i.invariant (omega arith)
