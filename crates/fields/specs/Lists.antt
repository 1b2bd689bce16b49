-- So many of a kind read one after the other, and put into an array of a fixed size.
use Rattle.std.specs.Prelude.{Result, ℕ, List, ◌≡◌, ◌<◌, ◌^◌}
use Rattle.ground.specs.Lists.{padded}
use Rattle.ground.specs.Outcome.{Outcome, next, many, read_of}
use Rattle.ground.specs.Outcome.Outcome.{good}
use Rattle.ground.specs.declared.refusals.Refusal.{Refusal}
use Rattle.fields.specs.Numbers.{number_in}

-- what a closure may answer of a position is what is read there
abbrev pub ReadsBy : {A : Type 0} → (ℕ → Result (A × ℕ) Refusal → Type 0) → (ℕ → Outcome A) → Type 0
ReadsBy {A} post item = (p : ℕ) (r : Result (A × ℕ) Refusal) → p < 2 ^ 64 → post p r → r ≡ read_of (item p)

-- what was read, in an array
abbrev pub arrayed : {A : Type 0} → ℕ → A → Outcome (List A) → Outcome (List A)
arrayed size z o = next o (λ vs p. good (padded size z vs) p)

-- a count from low to the array's size, and as many, in an array behind it
unfoldable pub counted : {A : Type 0} → ℕ → ℕ → A → (ℕ → Outcome A) → List ℕ → ℕ → Outcome (ℕ × List A)
counted low size z item s at =
    next (number_in 1 low size s at)
    (λ n p. next (many item n p)
    (λ vs q. good (n, padded size z vs) q))
