-- The laws of sites: a place past the relations is at none, and what each return of the loop answers that looks for a relation at one.
use mathlib.Core.Path.{◌≡◌, sym, ◌∙◌}
use mathlib.Core.Bool.{Bool, true, false}
use Prim.Native.Nat.{ℕ, ◌+◌, ◌≤◌, ◌<◌, min}
use borrow.Author.Tests.{le-ltb}
use Rattle.ground.proofs.SearchingLaws.{some_from, Looking, some_more, some_found, some_none, any_numbers}
use Rattle.contents.specs.Sites.{is_at, holds}
use Rattle.contents.specs.declared.envelope.Envelope.{Envelope}

pub at_none : (e : Envelope) (r site n : ℕ) → n ≡ min 8 e.relation_count → n ≤ r → false ≡ is_at e site r
unfolding is_at
at_none e r site n g h = simp (← g, le-ltb _ _ h)

module _ (e : Envelope) (site end i : ℕ) (l : Looking some_from (is_at e site) end i) where
  pub site_passed : i < end → (b : Bool) → b ≡ is_at e site i → b ≡ false → Looking some_from (is_at e site) end (i + 1)
  site_passed h b f t = some_more (is_at e site) end i l h (sym f ∙ t)

  module _ (g : end ≡ min 8 e.relation_count) where
    all_places : some_from (is_at e site) 0 end ≡ holds e site
    unfolding holds
    all_places = rw g (sym (any_numbers (is_at e site) 0 (min 8 e.relation_count)))

    pub site_found : i < end → (b : Bool) → b ≡ is_at e site i → b ≡ true → true ≡ holds e site
    site_found h b f t = some_found (is_at e site) end i l h (sym f ∙ t) ∙ all_places

    pub site_none : end ≤ i → false ≡ holds e site
    site_none h = some_none (is_at e site) end i l h ∙ all_places
