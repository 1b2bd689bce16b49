use Rattle.entries.proofs.PlaceCodeLaws.{same_is}
use borrow.Author.Rules.{rules}
use Rattle.entries.proofs.places.same_place.Goals as goal

pub returns : goal.returns
returns c = search (same_is, rules)
