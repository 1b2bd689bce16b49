-- "Value message, in words: run, step number from 0, count, then column B's distinct kept values rising." "Row message: run,
-- 256 plus relation, row count, kept columns of kept rows in table order." How a message's words are made, and how they are
-- understood; the code names their places in one module.
use Rattle.std.specs.Prelude.{ℕ, ◌+◌, ◌*◌, ◌-◌, Bool, ◌&&◌, List, ◌∷◌, length, slice_index, drop, nat_eq, nat_lt, nat_le}
use Rattle.ground.specs.Tests.{pick}
use Rattle.paths.specs.Meaning.{Table, rows_in, words_of_rows}
use Rattle.tables.specs.Rising.{is_rising}
use Rattle.ends.specs.declared.messages.About.{About}
use Rattle.ends.specs.declared.messages.About.TheVariants.{Step, Rows, Nothing}

-- so many words stand in front of the body; a row message's second word is this much above its relation's number
abbrev pub front_length : ℕ
front_length = 3

abbrev pub rows_from : ℕ
rows_from = 256

-- ---- made

-- the run, what it speaks of, the count, then the body
abbrev pub message_of : ℕ → ℕ → ℕ → List ℕ → List ℕ
message_of run second count body = run ∷ second ∷ count ∷ body

unfoldable pub value_message : ℕ → ℕ → List ℕ → List ℕ
value_message run step values = message_of run step (length values) values

unfoldable pub row_message : ℕ → ℕ → Table → List ℕ
row_message run r rows = message_of run (rows_from + r) (length rows) (words_of_rows rows)

-- ---- understood

abbrev pub run_of : List ℕ → ℕ
run_of m = slice_index m 0

abbrev pub second_of : List ℕ → ℕ
second_of m = slice_index m 1

abbrev pub count_of : List ℕ → ℕ
count_of m = slice_index m 2

abbrev pub body_of : List ℕ → List ℕ
body_of m = drop front_length m

-- what the second word speaks of, of so many steps and relations: a step, a relation's rows, or nothing that there is
unfoldable pub about_of : ℕ → ℕ → ℕ → About
about_of steps relations second =
    pick (nat_lt second steps) (Step second)
    (pick (nat_le rows_from second && nat_lt second (rows_from + relations)) (Rows (second - rows_from)) Nothing)

-- how many words a message has by its own count, of k words for each that is counted
abbrev pub message_length : ℕ → List ℕ → ℕ
message_length k m = front_length + count_of m * k

-- "words not as many as the count says; count above 4,096"
unfoldable pub counted : ℕ → List ℕ → Bool
counted k m = nat_le (count_of m) 4096 && nat_eq (length m) (message_length k m)

-- and "values not strictly rising"
unfoldable pub sound_values : List ℕ → Bool
sound_values m = counted 1 m && is_rising (body_of m)

-- the rows of a row message, of k columns each
unfoldable pub rows_of : ℕ → List ℕ → Table
rows_of k m = rows_in k (count_of m) (body_of m)
