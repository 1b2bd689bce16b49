-- The used words of a store are the row messages that were taken, one for each relation that arrived: none at the start, and
-- what is known of them may be weakened.
use mathlib.Core.Path.{◌≡◌, ap, ◌∙◌}
use mathlib.Core.Bool.{Bool, false}
use mathlib.Core.List.{List}
use Prim.Native.Nat.{ℕ}
use lib.ListN.{length, get_or, set}
use Rattle.ground.specs.Lists.{below}
use Rattle.ground.proofs.ListLaws.{filter_alike, filter_none}
use Rattle.contents.specs.Parts.{relation_count}
use Rattle.contents.specs.declared.envelope.Envelope.{Envelope}
use Rattle.answerer.specs.Stores.{due_in, OneOfEach}
use Rattle.answerer.specs.Stores.OneOfEach.{none, more}

pub none_due : (e : Envelope) (due : List Bool) → ((r : ℕ) → get_or due r false ≡ false) → due_in e due ≡ 0
unfolding due_in
none_due e due never =
    ap (λ (l : List ℕ). length l)
    (filter_alike (λ r. get_or due r false) (λ _. false) (below (relation_count e)) (λ r _. never r) ∙ filter_none (below (relation_count e)))

module _ (e : Envelope) {P : ℕ → List ℕ → Type 0} where
  pub held_map : {Q : ℕ → List ℕ → Type 0} → ((r : ℕ) (m : List ℕ) → P r m → Q r m) → (due : List Bool) (words : List ℕ)
      → OneOfEach e P due words → OneOfEach e Q due words
  held_map f due words (none no_due nil) = none no_due nil
  held_map f due words (more r m rest t own parts s) = more r m rest t (f r m own) parts (held_map f (set due r false) rest s)
