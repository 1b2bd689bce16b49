-- Refusal 10: "tables not of the envelope's shape or beyond the sizes". "True rows at most 4,096 per relation, all tables together at
-- most 16,384 words, row counts included." "An end has one mark byte per true row." Refusal 11: "lent buffer too short".
use Rattle.std.specs.Prelude.{ℕ, Bool, ◌&&◌, not, List, [], ◌∷◌, ◌++◌, length, nat_eq, nat_le, nat_lt}
use Rattle.ground.specs.Lists.{all, below}
use Rattle.ground.specs.Refusing.{Test, test}
use Rattle.ground.specs.declared.refusals.Reason.TheVariants.{WrongShape, TooShort, NotOurs}
use Rattle.contents.specs.Parts.{relation_count}
use Rattle.entries.specs.declared.places.Place.{Place}
use Rattle.contents.specs.declared.envelope.Envelope.{Envelope}
use Rattle.paths.specs.Steps.{is_place}
use Rattle.tables.specs.Offsets.{count_in, first_word, row_count}

-- each count is within its size, the words are the counts and as many as they say, and all of it is within the size
unfoldable pub shaped : Envelope → List ℕ → Bool
shaped e words =
    all (λ r. nat_le (count_in e words r) 4096) (below (relation_count e))
    && nat_eq (length words) (first_word e words (relation_count e))
    && nat_le (length words) 16384

-- ---- the refusals that calls on tables and marks begin with

-- 10: the shape; 11: so many marks, one for each row at least
abbrev pub shape_test : Envelope → List ℕ → Test
shape_test e words = test (not (shaped e words)) WrongShape 0

abbrev pub mark_count_test : Envelope → List ℕ → ℕ → Test
mark_count_test e words n = test (nat_lt n (row_count e words)) TooShort 0

-- 10, 11: both
abbrev pub marks_tests : Envelope → List ℕ → ℕ → List Test
marks_tests e words n = shape_test e words ∷ mark_count_test e words n ∷ []

-- 10, 11, 14: these, and the envelope has the column
abbrev pub column_tests : Envelope → Place → List ℕ → ℕ → List Test
column_tests e a words n = marks_tests e words n ++ test (not (is_place e a)) NotOurs 0 ∷ []
