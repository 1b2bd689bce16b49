-- What the functions behind the checks go by: an envelope that was taken, prices that are at most 1, and the profile behind
-- local operations. Then no sum or product passes 64 bits.
use Rattle.std.specs.Prelude.{◌≡◌, List, ℕ, ◌≤◌, slice_index}
use Rattle.envelopes.specs.Rules.{Within, tidy}
use Rattle.contents.specs.declared.envelope.Envelope.{Envelope}
use Rattle.paths.specs.declared.steps.Step.{Step}
use Rattle.estimates.specs.Profile.{estimated_rows, rows_after, local_profile}
use Rattle.estimates.specs.declared.profiles.Profile.{Profile}
use Rattle.estimates.specs.declared.costs.Costs.{Costs}

-- prices 0 and 1
abbrev pub Cheap : Costs → Type 0
Cheap k = (i : ℕ) → slice_index k.prices i ≤ 1

-- a million rows or values at most
abbrev pub Low : List ℕ → Type 0
Low l = (i : ℕ) → slice_index l i ≤ 1000000

-- 8 columns of width 255 at most
abbrev pub Narrow : List ℕ → Type 0
Narrow l = (i : ℕ) → slice_index l i ≤ 2040

pub record Ready (k : Costs) (e : Envelope) (p : Profile) : Type 0 where
  pub within : Within e
  pub tidied : tidy e ≡ e
  pub cheap : Cheap k
  pub local : p ≡ local_profile e

pub record Bounded (k : Costs) (p : Profile) : Type 0 where
  pub prices : Cheap k
  pub rows : Low p.rows
  pub counts : Low p.counts
  pub widths : Narrow p.widths

-- the rows that a step leaves are no more than there were
abbrev pub Shrinks : Envelope → Profile → Step → Type 0
Shrinks e p s = rows_after e p s ≤ estimated_rows p s.left.relation
