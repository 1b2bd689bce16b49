use Rattle.listing.proofs.ListingCodeLaws.{last_put}
use Rattle.listing.proofs.listing.put_last_line.Goals as goal

pub returns : goal.returns
returns c =
    last_put _ _ _ _ _ _ _ _ _ _ c.args.plan _ _ c.put_behind-a.ensures c.put_behind-b.ensures c.put_behind-c.ensures
    c.put_behind-d.ensures c.put_words.ensures
