-- Lists, by tests that compute: those elements that pass, whether all or some pass, each element's list joined, the
-- combinations of one element from each list, the numbers below another, a list in an array of fixed size.
use Rattle.std.specs.Prelude.{Bool, true, false, cond, List, [], ◌∷◌, ◌++◌, map, ℕ, zero, suc, ◌+◌, ◌-◌, length, replicate}
-- the library's words, which its iterators' answers are said with: the elements that pass, in their order; whether all or
-- some pass; each element's list, joined in order
pub use Rattle.std.specs.List.{filter, list_all as all, list_any as any, flat_map as each}

module _ {A : Type 0} where
  -- an element before a list, where a test passes
  abbrev pub cons_if : Bool → A → List A → List A
  cons_if b x l = cond b (x ∷ l) l

  abbrev pub empty : List A → Bool
  empty [] = true
  empty (x ∷ l) = false

  -- what holds of every element, as a statement
  abbrev pub Every : (A → Type 0) → List A → Type 0
  Every P [] = Unit {0}
  Every P (x ∷ l) = P x × Every P l

  -- a list in an array of a fixed size: the places behind it hold z
  unfoldable pub padded : ℕ → A → List A → List A
  padded size z l = l ++ replicate (size - length l) z

-- one element of each list, the first list slowest
abbrev pub combinations : {A : Type 0} → List (List A) → List (List A)
combinations [] = [] ∷ []
combinations {A} (l ∷ ls) = each (λ (x : A). map (λ (c : List A). x ∷ c) (combinations ls)) l

-- n numbers one after the other, from i on
unfoldable pub numbers_from : ℕ → ℕ → List ℕ
numbers_from i zero = []
numbers_from i (suc n) = i ∷ numbers_from (i + 1) n

-- the numbers below n
abbrev pub below : ℕ → List ℕ
below n = numbers_from 0 n

abbrev pub sum : List ℕ → ℕ
sum [] = 0
sum (x ∷ l) = x + sum l
