use Rattle.estimates.proofs.StepCodeLaws.{selection_most, selection_none, selection_some}
use borrow.Author.Rules.{rules}
use Rattle.estimates.proofs.profiles.Profile.after_selection.Goals as goal

pub shrunk-requires-else-n-eq0 : goal.shrunk-requires-else-n-eq0
shrunk-requires-else-n-eq0 c =
    let a = c.args in
    search (
      selection_most a.self a.place _ _ _ c.rows_at-rows.ensures c.count_at.ensures c.over-n.ensures (c.requires.0
          a.place.relation),
      c.requires.1,
      rules,
    )

pub returns-then-n-eq0 : goal.returns-then-n-eq0
returns-then-n-eq0 c =
    let a = c.args in
    search (selection_none a.self a.place _ _ _ c.rows_at-rows.ensures c.count_at.ensures c.over-n.ensures, rules)

pub returns-else-n-eq0 : goal.returns-else-n-eq0
returns-else-n-eq0 c =
    let a = c.args in
    search (selection_some a.self a.place _ _ _ c.rows_at-rows.ensures c.count_at.ensures c.over-n.ensures, rules)
