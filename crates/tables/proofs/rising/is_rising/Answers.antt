use lib.Dec.{ltb}
use Rattle.std.proofs.lemmas.List.Sorted.{answers_always}
use borrow.Author.Rules.{rules}
use Rattle.tables.proofs.RisingCodeLaws.{rising_neighbours}
use Rattle.tables.proofs.rising.is_rising.Goals as goal

pub returns : goal.returns
returns c = rising_neighbours _ _ (c.is_sorted_by.ensures.cases ltb (answers_always _ _ _ λ f a r g k. search rules))
