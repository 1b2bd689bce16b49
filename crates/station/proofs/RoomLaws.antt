-- "16,400 words hold every run on tables within the sizes." Each relation's row message has three words and no more than the
-- words of its rows; the tables have one word for each relation and those of the rows, 16,384 at most; so eight messages have two
-- words more for each relation.
use mathlib.Core.Path.{◌≡◌, refl, sym, ◌∙◌}
use mathlib.Core.Bool.{Bool, true, false, false≢true}
use mathlib.Core.List.{List, map}
use Prim.Native.Nat.{ℕ, zero, suc, ◌+◌, ◌*◌, ◌≤◌, ◌<◌}
use native.Mathlib.Nat.{mul-le-mul, not-suc-le-zero}
use native.Mathlib.Numerals.{add-one}
use native.Mathlib.Decide.{ℕ_discrete}
use native.Mathlib.Omega.{arith}
use lib.ListN.{length}
use lib.Seq.{get_or-set_same, get_or-set_other}
use Rattle.ground.specs.Tests.{pick}
use Rattle.ground.specs.Lists.{below, sum}
use Rattle.contents.specs.Parts.{relation_count, columns_in}
use Rattle.contents.specs.declared.envelope.Envelope.{Envelope}
use Rattle.contents.proofs.KeptLaws.{kept_few}
use Rattle.tables.specs.Offsets.{count_in, first_word}
use Rattle.tables.specs.Shape.{shaped}
use Rattle.tables.specs.Rows.{SameRows}
use Rattle.ground.proofs.SumLaws.{sum_none, sum_below}
use Rattle.tables.proofs.OffsetLaws.{first_none, first_more}
use Rattle.tables.proofs.ShapeLaws.{shaped_shape}
use Rattle.tables.proofs.RowLaws.{same_counts}
use Rattle.ends.specs.Ends.{has_arrived}
use Rattle.ends.specs.Messages.{front_length, row_message}
use Rattle.station.specs.Making.{sent_rows}
use Rattle.station.specs.Receiving.{with_arrived}
use Rattle.ends.specs.declared.ends.End.{End}
use Rattle.station.proofs.RowCodeLaws.{chosen, chosen_few, message_long}

-- ---- one row message

module _ (e : Envelope) (whole : List ℕ) where
  -- the most words that the row message of a relation can have
  abbrev pub most_of : ℕ → ℕ
  most_of r = front_length + count_in e whole r * columns_in e r

  pub message_most : (words marks : List ℕ) (run r : ℕ) → SameRows e r words whole → length (row_message run r (sent_rows e words marks r)) ≤ most_of r
  message_most words marks run r same =
      let rows : length (chosen e words marks r) ≤ count_in e whole r = omega (arith, chosen_few e words marks r, same_counts e words whole r same) in
      omega (arith, message_long e words marks r run, mul-le-mul rows (kept_few e r))

  -- ---- the messages that have arrived

  abbrev most_if : (ℕ → Bool) → ℕ → ℕ
  most_if arrived r = pick (arrived r) (most_of r) 0

  -- the most words that they can have together, of the first n relations
  abbrev pub most_held : (ℕ → Bool) → ℕ → ℕ
  most_held arrived n = sum (map (most_if arrived) (below n))

  held_more : (arrived : ℕ → Bool) (n : ℕ) → most_held arrived (suc n) ≡ most_held arrived n + most_if arrived n
  held_more arrived n = rw (add-one n) at (sum_below (most_if arrived) n)

  -- all of them: three words for each relation, and the words of the tables but for the counts
  all_held : (n : ℕ) → most_held (λ r. true) n + relation_count e ≡ first_word e whole n + 3 * n
  all_held zero = omega (arith, sum_none (most_if (λ r. true)), first_none e whole)
  all_held (suc n) =
      let more : first_word e whole (suc n) ≡ first_word e whole n + count_in e whole n * columns_in e n = rw (add-one n) at (first_more e whole n) in
      omega (arith, held_more (λ r. true) n, all_held n)

  pub held_fits : shaped e whole ≡ true → most_held (λ r. true) (relation_count e) ≤ 16400
  held_fits shape =
      let s = shaped_shape e whole shape in
      omega (arith, all_held (relation_count e), s.whole, s.within)

  -- fewer messages have fewer words
  module _ (arrived more : ℕ → Bool) (h : (r : ℕ) → arrived r ≡ true → more r ≡ true) where
    one_fewer : (r : ℕ) → most_if arrived r ≤ most_if more r
    one_fewer r = go (arrived r) (more r) (h r)
      where
        go : (a b : Bool) → (a ≡ true → b ≡ true) → pick a (most_of r) 0 ≤ pick b (most_of r) 0
        go true true k = omega arith
        go true false k = absurd (false≢true (k refl))
        go false b k = omega arith

    pub held_fewer : (n : ℕ) → most_held arrived n ≤ most_held more n
    held_fewer zero = omega (arith, sum_none (most_if arrived), sum_none (most_if more))
    held_fewer (suc n) = omega (arith, held_more arrived n, held_more more n, one_fewer n, held_fewer n)

  -- one message more has its words more
  module _ (arrived after : ℕ → Bool) (r : ℕ) (before : arrived r ≡ false) (now : after r ≡ true)
      (others : (i : ℕ) → (i ≡ r → ⊥) → after i ≡ arrived i) where
    same_below : (n : ℕ) → n ≤ r → most_held after n ≡ most_held arrived n
    same_below zero k = sum_none (most_if after) ∙ sym (sum_none (most_if arrived))
    same_below (suc n) k =
        let other : after n ≡ arrived n = others n (λ e. omega arith) in
        let same : most_if after n ≡ most_if arrived n = rw other in
        omega (arith, held_more after n, held_more arrived n, same_below n (omega arith))

    pub held_one : (n : ℕ) → r < n → most_held after n ≡ most_held arrived n + most_of r
    held_one zero k = absurd (not-suc-le-zero k)
    held_one (suc n) k = go (ℕ_discrete n r) (held_one n)
      where
        go : Dec (n ≡ r) → (r < n → most_held after n ≡ most_held arrived n + most_of r) → most_held after (suc n) ≡ most_held arrived (suc n) + most_of r
        go (yes e) ih =
            let a : most_if after n ≡ most_of r = rw (e, now) in
            let b : most_if arrived n ≡ 0 = rw (e, before) in
            omega (arith, held_more after n, held_more arrived n, same_below n (omega arith))
        go (no d) ih =
            let other : after n ≡ arrived n = others n d in
            let a : most_if after n ≡ most_if arrived n = rw other in
            omega (arith, held_more after n, held_more arrived n, ih (omega arith))

-- ---- an end's store: what is used is no more than the messages that arrived can have

module _ (e : Envelope) (whole : List ℕ) (x : End) (within : x.used ≤ most_held e whole (has_arrived x) (relation_count e)) (m : List ℕ) (r : ℕ)
    (exists : r < relation_count e) (first : has_arrived x r ≡ false) (most : length m ≤ most_of e whole r) (eight : length x.arrived ≡ 8) where
  abbrev after : End
  after = with_arrived x r (length m)

  now : has_arrived after r ≡ true
  unfolding with_arrived
  now = get_or-set_same x.arrived r true false (omega arith)

  others : (i : ℕ) → (i ≡ r → ⊥) → has_arrived after i ≡ has_arrived x i
  unfolding with_arrived
  others i d = get_or-set_other x.arrived r i true false d

  one : most_held e whole (has_arrived after) (relation_count e) ≡ most_held e whole (has_arrived x) (relation_count e) + most_of e whole r
  one = held_one e whole (has_arrived x) (has_arrived after) r first now others (relation_count e) exists

  -- so it is after one more
  pub held_within : after.used ≤ most_held e whole (has_arrived after) (relation_count e)
  unfolding with_arrived
  held_within = omega (arith, one)

  -- and one more fits into 16,400 words
  pub room_suffices : shaped e whole ≡ true → x.used + length m ≤ 16400
  room_suffices shape =
      omega (arith, one, held_fewer e whole (has_arrived after) (λ i. true) (λ i t. refl) (relation_count e), held_fits e whole shape)
