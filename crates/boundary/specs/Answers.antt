-- A call's answer is one number of 64 bits: the refusal's number times 2^32, and its position; taken, the number is 0 and the
-- length written stands for the position, or 0 where nothing is written. A position or a length that a word cannot say is
-- said as the greatest word.
use Rattle.std.specs.Prelude.{ℕ, ◌+◌, ◌*◌, min, Result, Ok, Err}
use Rattle.ground.specs.Least.{top}
use Rattle.ground.specs.Refusals.{number_of}
use Rattle.ground.specs.declared.refusals.Refusal.{Refusal}

-- a number as a word
abbrev pub greatest_word : ℕ
greatest_word = 4294967295

unfoldable pub as_word : ℕ → ℕ
as_word n = min n greatest_word

unfoldable pub answer_number : ℕ → ℕ → ℕ
answer_number number value = number * top + as_word value

-- what the calls below answer, as that number: whether it is taken, whatever is taken; and the length written
unfoldable pub verdict_number : {A : Type 0} → Result A Refusal → ℕ
verdict_number (Ok _) = answer_number 0 0
verdict_number (Err x) = answer_number (number_of x.reason) x.position

unfoldable pub written_number : Result ℕ Refusal → ℕ
written_number (Ok n) = answer_number 0 n
written_number (Err x) = answer_number (number_of x.reason) x.position
