-- The numbers we refuse by: 01's table, once. With each stands what goes with it. And a refusal as what a call answers with, and as it is
-- printed.
use Rattle.std.specs.Prelude.{ℕ, List, ◌++◌, codes, decimal}
use Rattle.ground.specs.declared.refusals.Reason.{Reason}
use Rattle.ground.specs.declared.refusals.Reason.TheVariants.{EndsInside, WrongMark, WrongVersion, BeyondLimit, TwoDomains, SameColumn, LeftOver, NotLegal, NoKeptColumn, WrongShape, TooShort, Waiting, OtherRun, NotOurs, NotSound, AlreadyTaken, StepMissing}
use Rattle.ground.specs.declared.refusals.Refusal.{Refusal}

unfoldable pub number_of : Reason → ℕ
-- ends inside a field: the start of that field; a message under 3 words: 0
number_of EndsInside = 1
-- the mark; the version: their start
number_of WrongMark = 2
number_of WrongVersion = 3
-- a number beyond its limit or naming nothing: its start; 0 at opening
number_of BeyondLimit = 4
-- a join of two domains; of a column with itself: the start of the clause
number_of TwoDomains = 5
number_of SameColumn = 6
-- bytes left over: the first of them
number_of LeftOver = 7
-- a step that is not legal: the step's number
number_of NotLegal = 8
-- a relation with no kept column: the lowest such
number_of NoKeptColumn = 9
-- tables not of the envelope's shape or beyond the sizes: 0
number_of WrongShape = 10
-- a lent buffer too short: 0
number_of TooShort = 11
-- waiting: the first missing step, or the lowest missing relation when the answer is asked
number_of Waiting = 12
-- another run: 0
number_of OtherRun = 13
-- not this end's message, or no such step or relation: 0
number_of NotOurs = 14
-- words not as many as the count says, a count above 4,096, values not strictly rising, a store not sound: 0
number_of NotSound = 15
-- already applied or arrived: 0
number_of AlreadyTaken = 16
-- an earlier step of the same relation is missing: 0
number_of StepMissing = 17

abbrev pub refusal : Reason → ℕ → Refusal
refusal reason position = record { reason = reason; position = position }

-- what is printed of one: its number, then its position, in decimal
abbrev pub refusal_text : Refusal → List ℕ
refusal_text x = codes "refused " ++ (decimal (number_of x.reason) ++ (codes " " ++ decimal x.position))
