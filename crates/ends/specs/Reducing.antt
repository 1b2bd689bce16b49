-- "Every earlier step reducing S." "The receiver applies a relation's steps in program order." So a count of applied steps
-- says which steps of a relation were applied, and which is the first missing.
use Rattle.std.specs.Prelude.{Option, Some, None, ℕ, min, Bool, List, length, slice_index, slice_index_or, nat_eq, nat_lt}
use Rattle.ground.specs.Tests.{pick}
use Rattle.ground.specs.Lists.{filter, below}
use Rattle.papers.specs.Programs.{no_step, steps_of}
use Rattle.paths.specs.declared.steps.Step.{Step}
use Rattle.papers.specs.declared.programs.Program.{Program}

abbrev pub step_count : Program → ℕ
step_count p = length (steps_of p)

unfoldable pub step_of : Program → ℕ → Step
step_of p i = slice_index_or (steps_of p) i no_step

-- step i reduces relation r
unfoldable pub reduces : List Step → ℕ → ℕ → Bool
reduces steps r i = nat_eq (slice_index_or steps i no_step).left.relation r

-- the numbers below n of the steps that reduce relation r
unfoldable pub reducing : List Step → ℕ → ℕ → List ℕ
reducing steps r n = filter (reduces steps r) (below (min n (length steps)))

-- how many there are: of a step that reduces r, its place among the steps of r
unfoldable pub steps_before : Program → ℕ → ℕ → ℕ
steps_before p r n = length (reducing (steps_of p) r n)

-- with so many steps of r applied, one of those below n is missing; the first of them
unfoldable pub is_missing : Program → ℕ → ℕ → ℕ → Bool
is_missing p r applied n = nat_lt applied (steps_before p r n)

unfoldable pub first_missing : Program → ℕ → ℕ → ℕ → ℕ
first_missing p r applied n = slice_index (reducing (steps_of p) r n) applied

-- what the function answers
unfoldable pub missing_of : Program → ℕ → ℕ → ℕ → Option ℕ
missing_of p r applied n = pick (is_missing p r applied n) (Some (first_missing p r applied n)) None
