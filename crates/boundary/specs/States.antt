-- What an end remembers between calls, as 19 words: site, run, used, applied 0 to 7, arrived 0 to 7. An arrived word is 0 or 1.
-- Applied words behind the envelope's last relation play no part and stay, and so do words behind the nineteenth.
use Rattle.std.specs.Prelude.{ℕ, ◌+◌, Bool, false, List, [], ◌∷◌, ◌++◌, map, length, slice_index, slice_index_or, nat_eq, nat_lt}
use Rattle.std.proofs.lemmas.List.Edits.{sets}
use Rattle.ground.specs.Tests.{pick}
use Rattle.ground.specs.Lists.{any, below}
use Rattle.ground.specs.Refusing.{Test, test}
use Rattle.ground.specs.declared.refusals.Reason.TheVariants.{TooShort}
use Rattle.contents.specs.Parts.{relation_count}
use Rattle.papers.specs.declared.checks.Papers.{Papers}
use Rattle.ends.specs.declared.ends.End.{End}
use Rattle.boundary.specs.Answers.{as_word}

-- where the words stand, and how many there are
abbrev pub site_at : ℕ
site_at = 0

abbrev pub run_at : ℕ
run_at = 1

abbrev pub used_at : ℕ
used_at = 2

abbrev pub applied_at : ℕ
applied_at = 3

abbrev pub arrived_at : ℕ
arrived_at = 11

abbrev pub state_length : ℕ
state_length = 19

-- 11: fewer words than these
abbrev pub state_test : List ℕ → Test
state_test s = test (nat_lt (length s) state_length) TooShort 0

-- the numbers that a relation can have: below 8, written out so that it computes
abbrev pub relation_numbers : List ℕ
relation_numbers = 0 ∷ 1 ∷ 2 ∷ 3 ∷ 4 ∷ 5 ∷ 6 ∷ 7 ∷ []

-- ---- read

unfoldable pub applied_in : List ℕ → List ℕ
applied_in s = map (λ r. slice_index s (applied_at + r)) relation_numbers

unfoldable pub arrived_in : List ℕ → List Bool
arrived_in s = map (λ r. nat_eq (slice_index s (arrived_at + r)) 1) relation_numbers

-- an arrived word that is neither 0 nor 1; one of the eight
unfoldable pub unclear_at : List ℕ → ℕ → Bool
unclear_at s r = nat_lt 1 (slice_index s (arrived_at + r))

unfoldable pub unclear : List ℕ → Bool
unclear s = any (unclear_at s) (below 8)

-- the end that the papers and the words are
unfoldable pub end_of : Papers → List ℕ → End
end_of q s =
    record {
      envelope = q.envelope;
      program = q.program;
      site = slice_index s site_at;
      run = slice_index s run_at;
      applied = applied_in s;
      arrived = arrived_in s;
      used = slice_index s used_at;
    }

-- ---- written

unfoldable pub bit_of : Bool → ℕ
bit_of b = pick b 1 0

-- the applied word of a relation: behind the last one it stays
unfoldable pub applied_word : ℕ → List ℕ → List ℕ → ℕ → ℕ
applied_word relations applied s r = pick (nat_lt r relations) (slice_index applied r) (slice_index s (applied_at + r))

unfoldable pub state_words : End → List ℕ → List ℕ
state_words x s =
    x.site
    ∷ x.run
    ∷ as_word x.used
    ∷ map (applied_word (relation_count x.envelope) x.applied s) relation_numbers
    ++ map (λ r. bit_of (slice_index_or x.arrived r false)) relation_numbers

-- the state afterwards
unfoldable pub state_after : End → List ℕ → List ℕ
state_after x s = sets s 0 (state_words x s)
