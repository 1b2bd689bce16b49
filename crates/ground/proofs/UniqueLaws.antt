-- Two results that meet one contract are equal, where the contract is an equation with what a definition gives.
use mathlib.Core.Path.{◌≡◌, sym, ◌∙◌}

module _ {R : Type 0} (meant : R) (a b : R) where
  pub unique : a ≡ meant → b ≡ meant → a ≡ b
  unique p q = p ∙ sym q
