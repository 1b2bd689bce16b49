use borrow.Author.Rules.{rules}
use Rattle.ground.proofs.OutcomeLaws.{exits}
use Rattle.fields.proofs.ListCodeLaws.{all_fit}
use Rattle.entries.specs.Relations.{column_at}
use Rattle.entries.proofs.RelationCodeLaws.{columns_bad, columns_are}
use Rattle.entries.proofs.relations.read_columns.Goals as goal

pub returns-in_err-all : goal.returns-in_err-all
returns-in_err-all c =
    exits _ _ _ c.from_residual.ensures.1
    (columns_bad _ _ _ _ _ _ _ _ c.no_column.ensures c.read_many.result
    (all_fit 8 _ _ _ (column_at c.args.count c.args.sizes.now c.args.rows c.args.s.now) _ c.requires
    (c.read_many.ensures (column_at c.args.count c.args.sizes.now c.args.rows c.args.s.now) (λ p r b k. search rules))) _ c.in_err-all.was)

pub returns : goal.returns
returns c =
    columns_are _ _ _ _ _ _ _ _ c.no_column.ensures c.read_many.result
    (all_fit 8 _ _ _ (column_at c.args.count c.args.sizes.now c.args.rows c.args.s.now) _ c.requires
    (c.read_many.ensures (column_at c.args.count c.args.sizes.now c.args.rows c.args.s.now) (λ p r b k. search rules))) _ _ c.in_ok-all.was
