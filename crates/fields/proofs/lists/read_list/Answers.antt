use native.Mathlib.Omega.{arith}
use Rattle.ground.proofs.OutcomeLaws.{exits}
use Rattle.fields.proofs.NumberLaws.{read_in, byte_limit}
use Rattle.fields.proofs.ListCodeLaws.{all_fit, list_no_count, list_no_element, list_is}
use Rattle.fields.proofs.lists.read_list.Goals as goal

pub returns-in_err-count : goal.returns-in_err-count
returns-in_err-count g c =
    λ item h. exits _ _ _ c.from_residual.ensures.1
    (list_no_count _ _ _ item _ _ c.number_in.result
    (byte_limit _ g.row.N _ c.args.s.now c.args.at _ c.number_in.ensures (omega arith) (omega (arith, c.type_inv.s c.args.at))) _ c.in_err-count.was)

pub returns-in_err-all : goal.returns-in_err-all
returns-in_err-all g c =
    λ item h. exits _ _ _ c.from_residual-in_err-all.ensures.1
    (list_no_element _ _ _ item _ _ c.number_in.result
    (byte_limit _ g.row.N _ c.args.s.now c.args.at _ c.number_in.ensures (omega arith) (omega (arith, c.type_inv.s c.args.at))) _ _
    c.in_ok-count.was c.read_many.result
    (all_fit _ _ _ _ item _ (omega (arith, read_in _ _ _ _ _ _ c.in_ok-count.was _ _ c.number_in.ensures)) (c.read_many.ensures item h)) _ c.in_err-all.was)

pub overflow_cast-result : goal.overflow_cast-result
overflow_cast-result g c = omega (arith, read_in _ _ _ _ _ _ c.in_ok-count.was _ _ c.number_in.ensures)

pub returns : goal.returns
returns g c =
    λ item h. list_is _ _ _ item _ _ c.number_in.result
    (byte_limit _ g.row.N _ c.args.s.now c.args.at _ c.number_in.ensures (omega arith) (omega (arith, c.type_inv.s c.args.at))) _ _
    c.in_ok-count.was c.read_many.result
    (all_fit _ _ _ _ item _ (omega (arith, read_in _ _ _ _ _ _ c.in_ok-count.was _ _ c.number_in.ensures)) (c.read_many.ensures item h)) _ _ c.in_ok-all.was
