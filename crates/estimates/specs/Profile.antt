-- "Selection A = k: rows N/d where d is A's distinct count, 0 if d is 0; A's count becomes 1, or 0 with no rows; each other
-- column's count c becomes Y(c, N, new rows). Implied selections go in order of relation, column, value."
-- "Step R<A=B]S: rows N×s/D, s the distinct count of S.B, D the domain size; A's count a becomes a×s/D; others by Y."
-- "Benefit: width times rows lost."
use Rattle.std.specs.Prelude.{ℕ, ◌+◌, ◌*◌, ◌-◌, ◌/◌, ◌%◌, List, [], ◌∷◌, map, slice_index, set, nat_eq}
use Rattle.ground.specs.Tests.{pick}
use Rattle.ground.specs.Lists.{below}
use Rattle.entries.specs.Places.{place}
use Rattle.contents.specs.Parts.{relation_count, relation_in}
use Rattle.entries.specs.declared.places.Place.{Place}
use Rattle.contents.specs.declared.envelope.Envelope.{Envelope}
use Rattle.paths.specs.Implied.{implied_selections}
use Rattle.paths.specs.declared.steps.Step.{Step}
use Rattle.paths.specs.declared.implied.Selected.{Selected}
use Rattle.estimates.specs.Division.{over}
use Rattle.estimates.specs.Short.{Y}
use Rattle.estimates.specs.Columns.{column_of, domain_size, width_of}
use Rattle.estimates.specs.declared.profiles.Profile.{Profile}

-- ---- a profile

abbrev pub estimated_rows : Profile → ℕ → ℕ
estimated_rows p r = slice_index p.rows r

abbrev pub distinct_of : Profile → Place → ℕ
distinct_of p a = slice_index p.counts (8 * a.relation + a.column)

abbrev pub width_at : Profile → ℕ → ℕ
width_at p r = slice_index p.widths r

-- the envelope's own estimates, and the width of each relation, which nothing changes
unfoldable pub given : Envelope → Profile
given e =
    record {
      rows = map (λ r. (relation_in e r).rows) (below 8);
      counts = map (λ k. (column_of e (place (k / 8) (k % 8))).distinct) (below 64);
      widths = map (width_of e) (below 8);
    }

-- a column's relation with n rows, the column with a new count, each other column of the relation by Y
unfoldable pub shrunk : Profile → Place → ℕ → ℕ → Profile
shrunk p a n count =
    record {
      rows = set p.rows a.relation n;
      counts =
          map
          (λ k.
          pick (nat_eq (k / 8) a.relation)
          (pick (nat_eq (k % 8) a.column) count (Y (slice_index p.counts k) (estimated_rows p a.relation) n))
          (slice_index p.counts k))
          (below 64);
      widths = p.widths;
    }

unfoldable pub after_selection : Profile → Place → Profile
after_selection p a = let n = over (estimated_rows p a.relation) (distinct_of p a) in shrunk p a n (pick (nat_eq n 0) 0 1)

-- what a step leaves of a number n of its left relation: n×s/D
abbrev pub remaining : Envelope → Profile → Step → ℕ → ℕ
remaining e p s n = over (n * distinct_of p s.right) (domain_size e s.left)

-- of its rows, and of its left count
unfoldable pub rows_after : Envelope → Profile → Step → ℕ
rows_after e p s = remaining e p s (estimated_rows p s.left.relation)

unfoldable pub count_after : Envelope → Profile → Step → ℕ
count_after e p s = remaining e p s (distinct_of p s.left)

unfoldable pub after_step : Envelope → Profile → Step → Profile
after_step e p s = shrunk p s.left (rows_after e p s) (count_after e p s)

unfoldable pub benefit : Envelope → Profile → Step → ℕ
benefit e p s = width_at p s.left.relation * (estimated_rows p s.left.relation - rows_after e p s)

-- ---- local operations

abbrev pub after_selections : Profile → ℕ → List Selected → Profile
after_selections p r [] = p
after_selections p r (s ∷ l) = after_selections (after_selection p (place r s.column)) r l

abbrev pub after_relations : Envelope → Profile → List ℕ → Profile
after_relations e p [] = p
after_relations e p (r ∷ l) = after_relations e (after_selections p r (implied_selections e r)) l

unfoldable pub local_profile : Envelope → Profile
local_profile e = after_relations e (given e) (below (relation_count e))
