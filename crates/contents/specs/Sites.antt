-- Where relations are: "sites 0 to 7"; a site that holds a relation. No other place compares a
-- relation's site, but for the prices of estimates, which are 0 from a site to itself.
use Rattle.std.specs.Prelude.{ℕ, Bool, ◌&&◌, nat_eq, nat_lt}
use Rattle.ground.specs.Lists.{any, below}
use Rattle.contents.specs.Parts.{relation_count, relation_in}
use Rattle.contents.specs.declared.envelope.Envelope.{Envelope}

-- the site of a relation; 0, which is a site's number too, where the envelope has no such relation
unfoldable pub site_of : Envelope → ℕ → ℕ
site_of e r = (relation_in e r).site

-- relation r exists and is at a site
unfoldable pub is_at : Envelope → ℕ → ℕ → Bool
is_at e site r = nat_lt r (relation_count e) && nat_eq (site_of e r) site

-- a site holds a relation
unfoldable pub holds : Envelope → ℕ → Bool
holds e site = any (is_at e site) (below (relation_count e))
