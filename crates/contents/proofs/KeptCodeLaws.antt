-- The laws of kept columns: what each return of the loops that look for them, and collect them, answers.
use mathlib.Core.Path.{◌≡◌, refl, ap, sym, ◌∙◌}
use mathlib.Core.Bool.{Bool, true, false}
use mathlib.Core.List.{List, [], ◌∷◌}
use Prim.Native.Nat.{ℕ, ◌+◌, ◌≤◌, ◌<◌}
use native.Mathlib.Omega.{arith}
use borrow.Author.Tests.{lt-ltb, le-ltb}
use lib.ListN.{length, set, replicate}
use Rattle.std.specs.Prelude.{Some, None}
use Rattle.ground.specs.Lists.{empty, filter, below}
use Rattle.ground.specs.Searching.{first_from}
use Rattle.ground.proofs.SearchingLaws.{Looking, first_more, first_found, first_none}
use Rattle.ground.proofs.CollectingLaws.{Collecting, Picking, picking_below, picking_count, number_yes, number_no, number_done}
use Rattle.entries.specs.Places.{place}
use Rattle.contents.specs.Parts.{relation_count, columns_in}
use Rattle.contents.specs.Kept.{kept, kept_columns, first_bare, shown_columns, lowest_bare}
use Rattle.contents.specs.declared.kept.Columns.{Columns}
use Rattle.contents.specs.declared.envelope.Envelope.{Envelope}

-- ---- collecting the kept columns of a relation

-- column c of relation r is kept
abbrev pub keeps : Envelope → ℕ → ℕ → Bool
keeps e r = λ (c : ℕ). kept e (place r c)

-- of the columns c are looked at, and the kept ones of them stand in out
abbrev pub Keeping : Envelope → ℕ → ℕ → ℕ → ℕ → List ℕ → Type 0
Keeping e r end c count out = Picking 8 0 (keeps e r) (below end) end c count out

module _ (e : Envelope) (r end : ℕ) where
  pub keeping_start : end ≡ columns_in e r → Keeping e r end 0 0 (replicate 8 0)
  unfolding columns_in
  keeping_start g = picking_below 8 0 (keeps e r) end (omega arith)

  module _ (c count : ℕ) (out : List ℕ) (k : Keeping e r end c count out) where
    pub keeping_room : c < end → count < 8
    keeping_room h = omega (arith, picking_count 8 0 (keeps e r) (below end) end c count out k, k.room)

    module _ (h : c < end) (b : Bool) (g : b ≡ kept e (place r c)) where
      pub keeping_yes : b ≡ true → (count' : ℕ) (out' : List ℕ) → out' ≡ set out count c → count' ≡ count + 1
          → Keeping e r end (c + 1) count' out'
      keeping_yes t count' out' s u = rw (s, u) (number_yes 8 0 (keeps e r) end c count out k h (sym g ∙ t))

      pub keeping_no : b ≡ false → (count' : ℕ) (out' : List ℕ) → out' ≡ out → count' ≡ count → Keeping e r end (c + 1) count' out'
      keeping_no t count' out' s u = rw (s, u) (number_no 8 0 (keeps e r) end c count out k h (sym g ∙ t))

    pub keeping_done : end ≤ c → end ≡ columns_in e r
        → record { count = count; numbers = out } ≡ shown_columns (kept_columns e r)
    unfolding kept_columns
    keeping_done h g =
        let d : Collecting 8 0 (filter (keeps e r) (below end)) count out = number_done 8 0 (keeps e r) end c count out k h in
        rw (d.counted, d.array, g)

-- ---- the lowest relation with no kept column

-- relation r has no kept column
abbrev pub bare : Envelope → ℕ → Bool
bare e = λ (r : ℕ). empty (kept_columns e r)

empty_nothing : (l : List ℕ) → length l ≡ 0 → empty l ≡ true
empty_nothing [] h = refl
empty_nothing (x ∷ l) h = absurd (omega arith)

empty_something : (l : List ℕ) → (length l ≡ 0 → ⊥) → empty l ≡ false
empty_something [] h = absurd (h refl)
empty_something (x ∷ l) h = refl

module _ (e : Envelope) (end r : ℕ) (l : Looking first_from (bare e) end r) where
  module _ (h : r < end) (k : Columns) (g : k ≡ shown_columns (kept_columns e r)) where
    counted : k.count ≡ length (kept_columns e r)
    counted = ap (λ (c : Columns). c.count) g

    pub bare_passed : (k.count ≡ 0 → ⊥) → Looking first_from (bare e) end (r + 1)
    bare_passed t = first_more (bare e) end r l h (empty_something (kept_columns e r) (λ z. t (counted ∙ z)))

    pub bare_found : end ≡ relation_count e → k.count ≡ 0 → Some r ≡ lowest_bare e
    unfolding first_bare
    bare_found u t =
        let f : r ≡ first_from (bare e) 0 (relation_count e) =
        rw (← u) (first_found (bare e) end r l h (empty_nothing (kept_columns e r) (sym counted ∙ t))) in
        rw (← f, lt-ltb r (relation_count e) (omega arith))

  pub bare_none : end ≡ relation_count e → end ≤ r → None ≡ lowest_bare e
  unfolding first_bare
  bare_none u h =
      let f : relation_count e ≡ first_from (bare e) 0 (relation_count e) = rw (← u) (first_none (bare e) end r l h) in
      rw (← f, le-ltb (relation_count e) (relation_count e) (omega arith))
