use Rattle.std.proofs.Common.{◌≡◌, length, arith, rules}
use Rattle.ends.proofs.ReducingCodeLaws.{before_count, count_small}
use Rattle.ends.proofs.reducing.steps_before.Goals as goal

pub overflow_cast-result : goal.overflow_cast-result
overflow_cast-result c =
    let long : length c.args.program.steps ≡ 156 = search rules in
    let few = count_small c.args.program c.args.relation _ _ (rw c.steps_of-steps.ensures at c.count_of.ensures) in
    omega arith

pub returns : goal.returns
returns c =
    before_count c.args.program c.args.relation c.args.n _
    (rw (c.min.ensures, c.steps_of-steps.ensures) at c.count_of.ensures)
