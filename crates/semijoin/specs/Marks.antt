-- "The step keeps exactly the rows of R whose A occurs in column B of the kept rows of S." "Stores 0 at each row removed."
-- "Receiving: 10, 11 (marks), .. 15": values that do not rise.
use Rattle.std.specs.Prelude.{Result, Ok, Err, ℕ, ◌+◌, not, List, [], ◌∷◌, ◌++◌, length}
use Rattle.std.proofs.lemmas.List.Edits.{sets}
use Rattle.ground.specs.Tests.{pick}
use Rattle.ground.specs.Outcome.{Outcome}
use Rattle.ground.specs.Outcome.Outcome.{good, bad}
use Rattle.ground.specs.Refusing.{test, judged}
use Rattle.ground.specs.declared.refusals.Reason.TheVariants.{NotSound}
use Rattle.entries.specs.declared.places.Place.{Place}
use Rattle.contents.specs.declared.envelope.Envelope.{Envelope}
use Rattle.paths.specs.Meaning.{Table, word_in}
use Rattle.tables.specs.Offsets.{extent_of, rows_over, marks_over}
use Rattle.tables.specs.Shape.{column_tests}
use Rattle.tables.specs.Rows.{is_kept}
use Rattle.tables.specs.Rising.{among, is_rising}
use Rattle.tables.specs.declared.offsets.Extent.{Extent}
use Rattle.ground.specs.Refusals.{refusal}
use Rattle.ground.specs.declared.refusals.Refusal.{Refusal}

-- ---- one relation reduced by some values in a column

-- 0 at each row whose column is not among the values; the mark as it is at each other
unfoldable pub sieved : List ℕ → ℕ → List ℕ → Table → List ℕ
sieved values c [] rows = []
sieved values c (m ∷ ms) [] = m ∷ ms
sieved values c (m ∷ ms) (row ∷ rows) = pick (among values (word_in row c)) m 0 ∷ sieved values c ms rows

-- the marks after one step by some values: other relations' marks and bytes past the last row stay
unfoldable pub sieved_over : Extent → ℕ → List ℕ → List ℕ → List ℕ → List ℕ
sieved_over x c words values marks = sets marks x.mark (sieved values c (marks_over x marks) (rows_over x words))

unfoldable pub reduced_by : Envelope → List ℕ → List ℕ → Place → List ℕ → List ℕ
reduced_by e words values a marks = sieved_over (extent_of e words a.relation) a.column words values marks

-- how many rows that removes: those that were kept and are no more
unfoldable pub removed_of : List ℕ → ℕ → List ℕ → Table → ℕ
removed_of values c [] rows = 0
removed_of values c (m ∷ ms) [] = 0
removed_of values c (m ∷ ms) (row ∷ rows) = pick (among values (word_in row c)) 0 (pick (is_kept m) 1 0) + removed_of values c ms rows

unfoldable pub removed_over : Extent → ℕ → List ℕ → List ℕ → List ℕ → ℕ
removed_over x c words values marks = removed_of values c (marks_over x marks) (rows_over x words)

unfoldable pub removed_by : Envelope → List ℕ → List ℕ → Place → List ℕ → ℕ
removed_by e words values a marks = removed_over (extent_of e words a.relation) a.column words values marks

-- ---- with its refusals: 10, 11, 14, 15

unfoldable pub reduce_outcome : Envelope → List ℕ → List ℕ → Place → List ℕ → Outcome (List ℕ)
reduce_outcome e words values a marks =
    judged
    (column_tests e a words (length marks) ++ test (not (is_rising values)) NotSound 0 ∷ [])
    (good (reduced_by e words values a marks) 0)

-- the answer, for so many rows removed
unfoldable pub reduced_of : ℕ → Outcome (List ℕ) → Result ℕ Refusal
reduced_of n (good after p) = Ok n
reduced_of n (bad m p) = Err (refusal m p)
