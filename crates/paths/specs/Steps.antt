-- "Legal steps R<A=B]S: R and S different, R.A and S.B on a path."
use Rattle.std.specs.Prelude.{◌≡◌, Result, Bool, true, ◌&&◌, not, List, map, ◌++◌, ◌⊎◌, ℕ, ◌<◌, nat_eq, nat_lt}
use Rattle.ground.specs.Lists.{filter, each, below}
use Rattle.ground.specs.Outcome.{Outcome, next, taken_of}
use Rattle.ground.specs.Outcome.Outcome.{good}
use Rattle.ground.specs.declared.refusals.Refusal.{Refusal}
use Rattle.entries.specs.Places.{place, place_bytes}
use Rattle.contents.specs.Parts.{relation_count, columns_in}
use Rattle.entries.specs.declared.places.Place.{Place}
use Rattle.contents.specs.declared.envelope.Envelope.{Envelope}
use Rattle.paths.specs.Paths.{Node, column, edges, PathBetween, on_path}
use Rattle.paths.specs.declared.steps.Step.{Step}

abbrev pub step : Place → Place → Step
step a b = record { left = a; right = b }

-- the columns of an envelope, relation by relation
unfoldable pub places : Envelope → List Place
places e = each (λ r. map (place r) (below (columns_in e r))) (below (relation_count e))

unfoldable pub is_place : Envelope → Place → Bool
is_place e a = nat_lt a.relation (relation_count e) && nat_lt a.column (columns_in e a.relation)

-- legal by a test for paths: two columns of the envelope, of different relations, on a path
unfoldable pub legal_by : (Node → Node → Bool) → Envelope → Step → Bool
legal_by path e s =
    is_place e s.left && is_place e s.right
    && (not (nat_eq s.left.relation s.right.relation) && path (column s.left) (column s.right))

abbrev pub legal : Envelope → Step → Bool
legal e = legal_by (on_path e) e

-- the same as a statement, by the path itself
pub record LegalStep (e : Envelope) (s : Step) : Type 0 where
  pub left : is_place e s.left ≡ true
  pub right : is_place e s.right ≡ true
  pub differ : s.left.relation ≡ s.right.relation → ⊥
  pub path : PathBetween (edges e) (column s.left) (column s.right)

-- the legal steps, by left relation, left column, right relation, right column
unfoldable pub legal_steps : Envelope → List Step
legal_steps e = filter (legal e) (each (λ (a : Place). map (step a) (places e)) (places e))

-- that order: of columns by relation, then column; of steps by the left column, then the right
abbrev pub PlaceBefore : Place → Place → Type 0
PlaceBefore a b = (a.relation < b.relation) ⊎ ((a.relation ≡ b.relation) × (a.column < b.column))

abbrev pub StepBefore : Step → Step → Type 0
StepBefore s t = PlaceBefore s.left t.left ⊎ ((s.left ≡ t.left) × PlaceBefore s.right t.right)

-- left relation, left column, right relation, right column
unfoldable pub step_bytes : Step → List ℕ
step_bytes s = place_bytes s.left ++ place_bytes s.right

-- the answer for an envelope that is a struct: it is checked first
abbrev pub legality_of : Outcome Envelope → Step → Result Bool Refusal
legality_of o s = taken_of (next o (λ (e : Envelope) p. good (legal e s) p))
