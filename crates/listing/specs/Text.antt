-- Text as bytes, and numbers in decimal, without padding.
use Rattle.std.specs.Prelude.{List, [], ◌∷◌, ◌++◌, ℕ, zero, suc, ◌+◌, ◌/◌, ◌%◌, nat_lt}
use Prim.Native.Char.{code}
use Prim.Native.String.{String, len, char_at}
use Rattle.ground.specs.Tests.{pick}

-- words of plain letters, one byte each: n of them, from i on
abbrev pub letters_from : String → ℕ → ℕ → List ℕ
letters_from s i zero = []
letters_from s i (suc n) = code (char_at s i) ∷ letters_from s (i + 1) n

abbrev pub text : String → List ℕ
text s = letters_from s 0 (len s)

-- a number that has at most k digits
unfoldable pub decimal_in : ℕ → ℕ → List ℕ
decimal_in zero n = []
decimal_in (suc k) n = pick (nat_lt n 10) [] (decimal_in k (n / 10)) ++ ((48 + n % 10) ∷ [])

-- 20 digits hold every number of 64 bits
unfoldable pub decimal : ℕ → List ℕ
decimal n = decimal_in 20 n

-- a number behind some words
abbrev pub behind : String → ℕ → List ℕ
behind s n = text s ++ decimal n
