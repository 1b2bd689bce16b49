-- "Total: step costs plus assembly." Over any kind of estimate, so that other kinds can be added: P are its states, S its
-- steps.
use Rattle.std.specs.Prelude.{Bool, List, [], ◌∷◌, ℕ, ◌+◌}

-- what a step brings and costs in a state, what it leaves, what assembly at a site costs; which step is which
pub record Kind (P S : Type 0) : Type 0 where
  pub benefit : P → S → ℕ
  pub cost : P → S → ℕ
  pub after : P → S → P
  pub assembly : P → ℕ → ℕ
  pub same : S → S → Bool

module _ {P S : Type 0} (k : Kind P S) where
  -- the state that a program leaves
  abbrev pub after_all : P → List S → P
  after_all p [] = p
  after_all p (s ∷ ss) = after_all (k.after p s) ss

  -- each step's cost in the program
  abbrev pub costs : P → List S → List ℕ
  costs p [] = []
  costs p (s ∷ ss) = k.cost p s ∷ costs (k.after p s) ss

  -- step costs plus assembly
  abbrev pub total : P → ℕ → List S → ℕ
  total p site [] = k.assembly p site
  total p site (s ∷ ss) = k.cost p s + total (k.after p s) site ss
