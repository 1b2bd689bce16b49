-- The laws of kept columns: no more are kept than there are, and so at most eight.
use Prim.Native.Nat.{ℕ, ◌≤◌}
use native.Mathlib.Omega.{arith}
use lib.ListN.{length}
use Rattle.ground.specs.Lists.{below}
use Rattle.ground.proofs.ListLaws.{filter_length}
use Rattle.ground.proofs.NumbersLaws.{below_length}
use Rattle.entries.specs.Places.{place}
use Rattle.contents.specs.Parts.{columns_in}
use Rattle.contents.specs.Kept.{kept, kept_columns}
use Rattle.contents.specs.declared.envelope.Envelope.{Envelope}
use Rattle.contents.proofs.PartLaws.{columns_few}

pub kept_few : (e : Envelope) (r : ℕ) → length (kept_columns e r) ≤ columns_in e r
unfolding kept_columns
kept_few e r = omega (arith, filter_length (λ c. kept e (place r c)) (below (columns_in e r)), below_length (columns_in e r))

pub kept_most : (e : Envelope) (r : ℕ) → length (kept_columns e r) ≤ 8
kept_most e r = omega (arith, kept_few e r, columns_few e r)
