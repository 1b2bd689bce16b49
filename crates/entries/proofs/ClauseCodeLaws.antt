-- The laws of clauses: each return of the functions that read them, and their bytes.
use mathlib.Core.Path.{◌≡◌, refl, ap}
use Prim.Native.Nat.{ℕ}
use mathlib.Core.List.{List, ◌++◌}
use native.Mathlib.Omega.{arith}
use mathlib.Core.Bool.{Bool, true, false}
use borrow.Author.Tests.{eq-eqb, ne_eqb}
use Rattle.std.specs.Prelude.{Result, Ok, Err}
use Rattle.ground.specs.Outcome.{read_of}
use Rattle.ground.specs.Refusals.{refusal}
use Rattle.ground.specs.declared.refusals.Reason.TheVariants.{TwoDomains, SameColumn}
use Rattle.ground.specs.declared.refusals.Refusal.{Refusal}
use Rattle.ground.proofs.OutcomeLaws.{passes_on, goes_on}
use Rattle.ground.specs.Bytes.{bytes_of}
use Rattle.fields.specs.Numbers.{number_at, number_in}
use Rattle.fields.specs.Puts.{Puts}
use Rattle.fields.proofs.PartLaws.{wider_part}
use Rattle.entries.specs.Places.{same_place, named_column, place_at, place_bytes}
use Rattle.entries.specs.Clauses.{clause, domain_of, selection_at, joined, join_at, clause_at, kind_bytes, clause_bytes}
use Rattle.entries.specs.declared.relations.Column.{Column}
use Rattle.entries.specs.declared.relations.Relation.{Relation}
use Rattle.entries.specs.declared.places.Place.{Place}
use Rattle.entries.specs.declared.clauses.Clause.{Clause}
use Rattle.entries.specs.declared.clauses.ClauseKind.TheVariants.{Selection, Join}

-- ---- the domain of a column

pub domain_is : (relations : List Relation) (a : Place) (c : Column) → c ≡ named_column relations a → c.domain ≡ domain_of relations a
unfolding domain_of
domain_is relations a c e = ap (λ (x : Column). x.domain) e

-- ---- a selection

module _ (count : ℕ) (relations : List Relation) (s : List ℕ) (at : ℕ) (r : Result (Place × ℕ) Refusal)
    (e : r ≡ read_of (place_at count relations s at)) where
  pub selection_no_place : (x : Refusal) → r ≡ Err x → Err x ≡ read_of (selection_at count relations s at)
  unfolding selection_at
  selection_no_place x g = passes_on (place_at count relations s at) _ r e x g

  module _ (a : Place) (u : ℕ) (g : r ≡ Ok (a, u)) (r' : Result (ℕ × ℕ) Refusal) (e' : r' ≡ read_of (number_at 4 s u)) where
    pub selection_no_value : (x : Refusal) → r' ≡ Err x → Err x ≡ read_of (selection_at count relations s at)
    unfolding selection_at
    selection_no_value x g' = goes_on (place_at count relations s at) _ r e a u _ g (passes_on (number_at 4 s u) _ r' e' x g')

    pub selection_is : (v q : ℕ) → r' ≡ Ok (v, q) → Ok (clause (Selection a v), q) ≡ read_of (selection_at count relations s at)
    unfolding selection_at read_of
    selection_is v q g' = goes_on (place_at count relations s at) _ r e a u _ g (goes_on (number_at 4 s u) _ r' e' v q _ g' refl)

  -- ---- a join

  module _ (start : ℕ) where
    pub join_no_left : (x : Refusal) → r ≡ Err x → Err x ≡ read_of (join_at count relations s start at)
    unfolding join_at
    join_no_left x g = passes_on (place_at count relations s at) _ r e x g

    module _ (a : Place) (u : ℕ) (g : r ≡ Ok (a, u)) (r' : Result (Place × ℕ) Refusal) (e' : r' ≡ read_of (place_at count relations s u)) where
      pub join_no_right : (x : Refusal) → r' ≡ Err x → Err x ≡ read_of (join_at count relations s start at)
      unfolding join_at
      join_no_right x g' =
          goes_on (place_at count relations s at) _ r e a u _ g (passes_on (place_at count relations s u) _ r' e' x g')

      pub join_is : (b : Place) (q : ℕ) (t : Result (Clause × ℕ) Refusal) → r' ≡ Ok (b, q) → t ≡ read_of (joined relations start a b q)
          → t ≡ read_of (join_at count relations s start at)
      unfolding join_at
      join_is b q t g' h =
          goes_on (place_at count relations s at) _ r e a u t g (goes_on (place_at count relations s u) _ r' e' b q t g' h)

module _ (relations : List Relation) (start : ℕ) (a b : Place) (q c d : ℕ) (e : c ≡ domain_of relations a) (f : d ≡ domain_of relations b) where
  pub joined_two : (c ≡ d → ⊥) → Err (refusal TwoDomains start) ≡ read_of (joined relations start a b q)
  unfolding read_of joined
  joined_two h = simp (← e, ← f, ne_eqb _ _ h)

  module _ (h : c ≡ d) (t : Bool) (k : t ≡ same_place a b) where
    pub joined_same : t ≡ true → Err (refusal SameColumn start) ≡ read_of (joined relations start a b q)
    unfolding read_of joined
    joined_same y = simp (← e, ← f, eq-eqb _ _ h, ← k, y)

    pub joined_is : t ≡ false → Ok (clause (Join a b), q) ≡ read_of (joined relations start a b q)
    unfolding read_of joined
    joined_is y = simp (← e, ← f, eq-eqb _ _ h, ← k, y)

-- ---- a clause

module _ (count : ℕ) (relations : List Relation) (s : List ℕ) (at : ℕ) (r : Result (ℕ × ℕ) Refusal)
    (e : r ≡ read_of (number_in 1 1 2 s at)) where
  pub clause_no_kind : (x : Refusal) → r ≡ Err x → Err x ≡ read_of (clause_at count relations s at)
  unfolding clause_at
  clause_no_kind x g = passes_on (number_in 1 1 2 s at) _ r e x g

  module _ (k u : ℕ) (g : r ≡ Ok (k, u)) (t : Result (Clause × ℕ) Refusal) where
    pub clause_selection : k ≡ 1 → t ≡ read_of (selection_at count relations s u) → t ≡ read_of (clause_at count relations s at)
    unfolding clause_at
    clause_selection h y = goes_on (number_in 1 1 2 s at) _ r e k u t g (simp (eq-eqb _ _ h) y)

    pub clause_join : (k ≡ 1 → ⊥) → t ≡ read_of (join_at count relations s at u) → t ≡ read_of (clause_at count relations s at)
    unfolding clause_at
    clause_join h y = goes_on (number_in 1 1 2 s at) _ r e k u t g (simp (ne_eqb _ _ h) y)

-- ---- the bytes of a clause, by its kind

module _ (x : Clause) (o t : List ℕ) (at r : ℕ) (a : Place) where
  pub selection_put : (v : ℕ) → x.kind ≡ Selection a v → Puts o at 7 (bytes_of 1 1 ++ place_bytes a ++ bytes_of 4 v) r t
      → Puts o at 7 (clause_bytes x) r t
  unfolding kind_bytes
  selection_put v e h = rw e h

  pub join_put : (b : Place) → x.kind ≡ Join a b → Puts o at 5 (bytes_of 1 2 ++ place_bytes a ++ place_bytes b) r t
      → Puts o at 7 (clause_bytes x) r t
  unfolding kind_bytes
  join_put b e h = rw e (wider_part _ _ _ _ _ _ h 7 (omega arith))
