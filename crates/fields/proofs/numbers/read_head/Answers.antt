use mathlib.Core.Path.{◌≡◌, refl, ◌∙◌}
use borrow.Author.Rules.{rules}
use Rattle.ground.specs.Outcome.{read_of}
use Rattle.fields.specs.Numbers.{number_at}
use Rattle.fields.proofs.NumberLaws.{between_low, between_high, between_in}
use Rattle.fields.proofs.HeadCodeLaws.{head_no_mark, head_no_version, head_no, head_yes}
use Rattle.fields.proofs.numbers.read_head.Goals as goal

pub returns-in_err-mark : goal.returns-in_err-mark
returns-in_err-mark c = search (head_no_mark, rules)

pub returns-in_err-version : goal.returns-in_err-version
returns-in_err-version c = search (head_no_version, rules)

pub returns-then-version-lt1 : goal.returns-then-version-lt1
returns-then-version-lt1 c =
    let f : c.number.result ≡ read_of (number_at 2 c.args.s.now 3) = c.number.ensures ∙ rw (c.moved.ensures.0, c.moved.ensures.1) refl in
    rw c.at.ensures (head_no _ _ _ _ _ _ c.mark.ensures c.in_ok-mark.was c.number.result f _ _ c.in_ok-version.was (search (between_low, between_high, rules)))

pub returns : goal.returns
returns c =
    let f : c.number.result ≡ read_of (number_at 2 c.args.s.now 3) = c.number.ensures ∙ rw (c.moved.ensures.0, c.moved.ensures.1) refl in
    head_yes _ _ _ _ _ _ c.mark.ensures c.in_ok-mark.was c.number.result f _ _ c.in_ok-version.was (search (between_in, rules))
