-- "Envelope: the three letters CPN and a 16-bit version, 1; domain count, 1 byte; sizes, 4 bytes each; relation count,
-- 1; per relation ..; clause count, 1; clauses; target count, 1; targets as relation 1, column 1."
-- "Domains 1 to 16, each of size 1 to 16,777,215. Relations 1 to 8 .. Clauses 0 to 12, target columns 1 to 16."
-- "Papers are checked field by field as they stand, then 7, then 9."
use Rattle.std.specs.Prelude.{Result, Option, Some, None, ℕ, List, [], ◌∷◌, ◌++◌, length, nat_lt}
use Rattle.ground.specs.Tests.{pick}
use Rattle.ground.specs.Lists.{each}
use Rattle.ground.specs.Outcome.{Outcome, next, many}
use Rattle.ground.specs.Outcome.Outcome.{good, bad}
use Rattle.ground.specs.Bytes.{bytes_of}
use Rattle.ground.specs.declared.refusals.Reason.TheVariants.{LeftOver, NoKeptColumn}
use Rattle.ground.specs.declared.refusals.Refusal.{Refusal}
use Rattle.fields.specs.Numbers.{number_in, head_of}
use Rattle.fields.specs.Puts.{fitted, written_of, written_in}
use Rattle.entries.specs.Relations.{relation_at, relation_bytes}
use Rattle.entries.specs.Places.{place_at, place_bytes}
use Rattle.entries.specs.Clauses.{clause_at, clause_bytes}
use Rattle.contents.specs.Parts.{sizes_of, relations_of, clauses_of, targets_of, no_envelope, with_version, with_sizes, with_relations, with_clauses, with_targets}
use Rattle.contents.specs.Kept.{lowest_bare}
use Rattle.contents.specs.declared.envelope.Envelope.{Envelope}

-- ---- the paper, read

-- some of a kind, and the envelope with them
unfoldable pub filled : {A : Type 0} → (List A → Envelope → Envelope) → (ℕ → Outcome A) → ℕ → ℕ → Envelope → Outcome Envelope
filled put item n at e = next (many item n at) (λ vs p. good (put vs e) p)

-- a count from low to high, and as many of a kind
unfoldable pub list_into : {A : Type 0} → ℕ → ℕ → (List A → Envelope → Envelope) → (ℕ → Outcome A) → List ℕ → ℕ → Envelope → Outcome Envelope
list_into low high put item s at e = next (number_in 1 low high s at) (λ n p. filled put item n p e)

abbrev pub size_at : List ℕ → ℕ → Outcome ℕ
size_at s = number_in 4 1 16777215 s

abbrev pub sizes_into : List ℕ → ℕ → Envelope → Outcome Envelope
sizes_into s at e = list_into 1 16 with_sizes (size_at s) s at e

abbrev pub relations_into : List ℕ → ℕ → Envelope → Outcome Envelope
relations_into s at e = list_into 1 8 with_relations (relation_at e.domain_count e.sizes s) s at e

abbrev pub clauses_into : List ℕ → ℕ → Envelope → Outcome Envelope
clauses_into s at e = list_into 0 12 with_clauses (clause_at e.relation_count e.relations s) s at e

abbrev pub targets_into : List ℕ → ℕ → Envelope → Outcome Envelope
targets_into s at e = list_into 1 16 with_targets (place_at e.relation_count e.relations s) s at e

-- the letters CPN
abbrev pub CPN : List ℕ
CPN = 67 ∷ 80 ∷ 78 ∷ []

-- 9 with the lowest relation that has no kept column, or the envelope
abbrev pub bare_outcome : Option ℕ → Envelope → ℕ → Outcome Envelope
bare_outcome (Some r) e at = bad NoKeptColumn r
bare_outcome None e at = good e at

-- nothing may be left over, then each relation has a kept column
unfoldable pub ended : List ℕ → ℕ → Envelope → Outcome Envelope
ended s at e = pick (nat_lt at (length s)) (bad LeftOver at) (bare_outcome (lowest_bare e) e at)

-- the parts one after the other, each with what follows it
unfoldable pub targets_then : List ℕ → ℕ → Envelope → Outcome Envelope
targets_then s at e = next (targets_into s at e) (λ e p. ended s p e)

unfoldable pub clauses_then : List ℕ → ℕ → Envelope → Outcome Envelope
clauses_then s at e = next (clauses_into s at e) (λ e p. targets_then s p e)

unfoldable pub relations_then : List ℕ → ℕ → Envelope → Outcome Envelope
relations_then s at e = next (relations_into s at e) (λ e p. clauses_then s p e)

unfoldable pub sizes_then : List ℕ → ℕ → Envelope → Outcome Envelope
sizes_then s at e = next (sizes_into s at e) (λ e p. relations_then s p e)

-- the whole paper, of a version from 1 to the newest that is taken
unfoldable pub envelope_from : ℕ → List ℕ → Outcome Envelope
envelope_from newest s = next (head_of CPN newest s) (λ v p. sizes_then s p (with_version v no_envelope))

abbrev pub read_envelope : List ℕ → Outcome Envelope
read_envelope = envelope_from 1

-- ---- the paper, written

unfoldable pub envelope_bytes : Envelope → List ℕ
envelope_bytes e =
    CPN ++ bytes_of 2 e.version
    ++ bytes_of 1 e.domain_count ++ each (bytes_of 4) (sizes_of e)
    ++ bytes_of 1 e.relation_count ++ each relation_bytes (relations_of e)
    ++ bytes_of 1 e.clause_count ++ each clause_bytes (clauses_of e)
    ++ bytes_of 1 e.target_count ++ each place_bytes (targets_of e)

-- "An envelope .. not given as bytes .. is checked first as its bytes would be"
unfoldable pub check_envelope : Envelope → Outcome Envelope
check_envelope e = read_envelope (envelope_bytes e)

-- writing it into so much room: the envelope is checked first, then 11
unfoldable pub write_envelope_of : Envelope → ℕ → Outcome (List ℕ)
write_envelope_of e room = next (check_envelope e) (λ _ _. fitted room (envelope_bytes e))

abbrev pub envelope_written : Envelope → List ℕ → Result ℕ Refusal
envelope_written e out = written_of (write_envelope_of e (length out))

abbrev pub envelope_written_in : Envelope → List ℕ → List ℕ
envelope_written_in e out = written_in out (write_envelope_of e (length out))
