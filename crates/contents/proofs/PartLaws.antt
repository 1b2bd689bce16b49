-- The laws of an envelope's parts that are in use: a relation within the count, one past it, and the columns of each.
use mathlib.Core.Path.{◌≡◌, ap, sym, ◌∙◌}
use Prim.Native.Nat.{ℕ, ◌≤◌, ◌<◌}
use native.Mathlib.Omega.{arith}
use lib.ListN.{get_or}
use Rattle.ground.proofs.UsedLaws.{used_inside, used_outside}
use Rattle.entries.specs.Relations.{past_relation, column_count}
use Rattle.contents.specs.Parts.{relations_of, relation_in, columns_in}
use Rattle.contents.specs.declared.envelope.Envelope.{Envelope}

module _ (e : Envelope) (r : ℕ) where
  pub relation_inside : r < e.relation_count → relation_in e r ≡ get_or e.relations r past_relation
  unfolding relations_of
  relation_inside h = used_inside e.relations e.relation_count r past_relation h

  pub relation_outside : e.relation_count ≤ r → relation_in e r ≡ past_relation
  unfolding relations_of
  relation_outside h = used_outside e.relations e.relation_count r past_relation h

  pub columns_inside : (k : ℕ) → r < e.relation_count → k ≡ column_count (get_or e.relations r past_relation) → k ≡ columns_in e r
  unfolding columns_in
  columns_inside k h g = g ∙ ap column_count (sym (relation_inside h))

  pub columns_outside : e.relation_count ≤ r → 0 ≡ columns_in e r
  unfolding columns_in
  columns_outside h = ap column_count (sym (relation_outside h))

-- a relation has no more columns than its array
pub columns_few : (e : Envelope) (r : ℕ) → columns_in e r ≤ 8
unfolding columns_in
columns_few e r = omega arith
