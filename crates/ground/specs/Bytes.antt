-- Numbers as bytes, little end first.
use Rattle.std.specs.Prelude.{ℕ, zero, suc, ◌+◌, ◌*◌, ◌/◌, ◌%◌, ◌<◌, List, [], ◌∷◌, ◌≡◌, length, slice_index, take, drop}
use Rattle.ground.specs.Lists.{Every}

-- the number of w bytes from at on
unfoldable pub little_end : ℕ → List ℕ → ℕ → ℕ
little_end zero s at = 0
little_end (suc w) s at = slice_index s at + 256 * little_end w s (at + 1)

-- the w bytes of a number
unfoldable pub bytes_of : ℕ → ℕ → List ℕ
bytes_of zero v = []
bytes_of (suc w) v = v % 256 ∷ bytes_of w (v / 256)

-- every element is a byte
abbrev pub Bytes : List ℕ → Type 0
Bytes s = Every (λ (b : ℕ). b < 256) s

-- the list w stands in s from at on
abbrev pub Stands : List ℕ → List ℕ → ℕ → Type 0
Stands w s at = take (length w) (drop at s) ≡ w
