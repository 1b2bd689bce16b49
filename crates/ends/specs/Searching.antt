-- "The receiver applies a relation's steps in program order." The search for the next step of a relation, step by step, and what it
-- finds: of the numbers of the relation's steps, the one behind so many.
use Rattle.std.specs.Prelude.{ℕ, Bool, ◌+◌, ◌-◌, ◌≤◌, ◌<◌, ◌≡◌, true, false, min, Option, Some, None, List, [], ◌∷◌, length, slice_index, nat_le, nat_eq}
use Rattle.ground.specs.Tests.{pick}
use Rattle.papers.specs.Programs.{steps_of}
use Rattle.paths.specs.declared.steps.Step.{Step}
use Rattle.papers.specs.declared.programs.Program.{Program}
use Rattle.ends.specs.Reducing.{reducing, steps_before}

-- a search: the relation, how many of its steps are still passed over, where it ends, and what was found
pub record Search : Type 0 where
  pub relation : ℕ
  pub skip : ℕ
  pub end : ℕ
  pub found : Bool
  pub at : ℕ

-- one step is looked at
unfoldable pub seen_of : Search → Step → ℕ → Search
seen_of c s at =
    pick c.found c
    (pick (nat_le c.end at) c
    (pick (nat_eq s.left.relation c.relation)
    (pick (nat_eq c.skip 0)
    record { relation = c.relation; skip = c.skip; end = c.end; found = true; at = at }
    record { relation = c.relation; skip = c.skip - 1; end = c.end; found = c.found; at = c.at })
    c))

-- the steps from number i on are looked at
unfoldable pub sought_from : List Step → ℕ → Search → Search
sought_from [] i c = c
sought_from (s ∷ steps) i c = sought_from steps (i + 1) (seen_of c s i)

-- a search through lent steps for the one of a relation behind so many, of those below n, and the number that it has found
abbrev pub search_for : ℕ → ℕ → ℕ → Search
search_for r skip end = record { relation = r; skip = skip; end = end; found = false; at = 0 }

abbrev pub number_found : Search → Option ℕ
number_found c = pick c.found (Some c.at) None

abbrev pub sought_next : List Step → ℕ → ℕ → ℕ → Option ℕ
sought_next steps r skip n = number_found (sought_from steps 0 (search_for r skip (min n (length steps))))

-- what a search behind so many steps of r says of the steps of r below n: the next one is found, or all of them were passed over
pub record Found (p : Program) (r skip n : ℕ) (c : Search) : Type 0 where
  pub few : steps_before p r n ≤ 156
  pub one : c.found ≡ true → (skip < steps_before p r n) × (slice_index (reducing (steps_of p) r n) skip ≡ c.at)
  pub none : c.found ≡ false → steps_before p r n + c.skip ≡ skip
