-- "All numbers little end first." Refusal 1: "ends inside a field", "start of that field". Refusal 4: "a number beyond its
-- limit or naming nothing", "start". "The three letters .. and a 16-bit version."
-- Each reading goes from the bytes of a paper and a position to an outcome.
use Rattle.std.specs.Prelude.{ℕ, ◌+◌, List, [], ◌∷◌, Bool, true, ◌&&◌, length, slice_index, nat_lt, nat_le, nat_eq}
use Rattle.ground.specs.Tests.{pick}
use Rattle.ground.specs.Outcome.{Outcome, next}
use Rattle.ground.specs.Outcome.Outcome.{good, bad}
use Rattle.ground.specs.Bytes.{little_end}
use Rattle.ground.specs.declared.refusals.Reason.TheVariants.{EndsInside, WrongMark, WrongVersion, BeyondLimit}
use Rattle.fields.specs.declared.numbers.Width.{Width}
use Rattle.fields.specs.declared.numbers.Width.TheVariants.{One, Two, Four}

-- the bytes of a width
abbrev pub bytes_wide : Width → ℕ
bytes_wide One = 1
bytes_wide Two = 2
bytes_wide Four = 4

-- a number of w bytes, with the position past it
unfoldable pub number_at : ℕ → List ℕ → ℕ → Outcome ℕ
number_at w s at = pick (nat_le (at + w) (length s)) (good (little_end w s at) (at + w)) (bad EndsInside at)

-- a number that passes a test
unfoldable pub number_that : (ℕ → Bool) → ℕ → List ℕ → ℕ → Outcome ℕ
number_that fits w s at = next (number_at w s at) (λ v p. pick (fits v) (good v p) (bad BeyondLimit at))

-- from low to high
abbrev pub between : ℕ → ℕ → ℕ → Bool
between low high v = nat_le low v && nat_le v high

abbrev pub number_in : ℕ → ℕ → ℕ → List ℕ → ℕ → Outcome ℕ
number_in w low high = number_that (between low high) w

-- below a limit
abbrev pub under : ℕ → ℕ → Bool
under limit v = nat_lt v limit

abbrev pub number_below : ℕ → ℕ → List ℕ → ℕ → Outcome ℕ
number_below w limit = number_that (under limit) w

-- the letters stand from at on
unfoldable pub marked : List ℕ → List ℕ → ℕ → Bool
marked [] s at = true
marked (m ∷ ms) s at = nat_eq (slice_index s at) m && marked ms s (at + 1)

-- a mark is one field
unfoldable pub mark_at : List ℕ → List ℕ → ℕ → Outcome (List ℕ)
mark_at letters s at =
    pick (nat_le (at + length letters) (length s))
    (pick (marked letters s at) (good letters (at + length letters)) (bad WrongMark at))
    (bad EndsInside at)

-- a 16-bit version from 1 to the newest that is taken
unfoldable pub version_at : ℕ → List ℕ → ℕ → Outcome ℕ
version_at newest s at = next (number_at 2 s at) (λ v p. pick (between 1 newest v) (good v p) (bad WrongVersion at))

-- at the front of a paper: the mark and the version
unfoldable pub head_of : List ℕ → ℕ → List ℕ → Outcome ℕ
head_of letters newest s = next (mark_at letters s 0) (λ _ p. version_at newest s p)
