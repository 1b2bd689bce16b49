-- A state and the end that it is say the same: words to an end and back on every state that a call takes, an end to words and back
-- on every end that a call leaves.
use mathlib.Core.Path.{◌≡◌, refl, sym, ap, ◌∙◌}
use mathlib.Core.Bool.{Bool, true, false}
use mathlib.Core.List.{List, ◌++◌, map}
use mathlib.Core.Logic.{◌↔◌}
use Prim.Native.Nat.{ℕ, zero, suc, ◌+◌, ◌≤◌, ◌<◌}
use native.Mathlib.Numerals.{add-one}
use native.Mathlib.Omega.{arith}
use lib.ListN.{length, get_or, drop}
use lib.Seq.{sets, sets-eq, set-get_or, ext_get_or}
use lib.Dec.{ltb, eqb}
use borrow.Author.Tests.{ltb-false}
use Rattle.ground.specs.Tests.{pick}
use Rattle.ground.specs.Lists.{below, numbers_from}
use Rattle.ground.proofs.SearchingLaws.{any_numbers, none_at}
use Rattle.ground.proofs.ListLaws.{get_d_map}
use Rattle.ground.proofs.NumbersLaws.{below_get_d}
use Rattle.ground.proofs.CountLaws.{split}
use Rattle.contents.specs.Parts.{relation_count}
use Rattle.papers.specs.declared.checks.Papers.{Papers}
use Rattle.ends.specs.Ends.{papers_of_end}
use Rattle.ends.specs.declared.ends.End.{End}
use Rattle.boundary.specs.Answers.{as_word}
use Rattle.boundary.specs.States.{relation_numbers, applied_in, arrived_in, unclear_at, unclear, end_of, bit_of, applied_word, state_words, state_after}
use Rattle.boundary.proofs.AnswerLaws.{word_least}
use Rattle.boundary.proofs.StateLaws.{words_are, words_long, applied_own, applied_behind}

-- ---- the words of an end that was read from words

-- every word written as it stands changes nothing
sets_same : (s : List ℕ) (i n : ℕ) → sets s i (map (λ j. get_or s j 0) (numbers_from i n)) ≡ s
unfolding numbers_from
sets_same s i zero = refl
sets_same s i (suc n) =
    ap (λ (l : List ℕ). sets l (suc i) (map (λ j. get_or s j 0) (numbers_from (i + 1) n))) (set-get_or s i 0)
    ∙ rw (add-one i) (sets_same s (suc i) n)

bit_back : (n : ℕ) → n ≤ 1 → bit_of (eqb n 1) ≡ n
unfolding bit_of
bit_back zero h = refl
bit_back (suc zero) h = refl
bit_back (suc (suc n)) h = absurd (omega (arith, h))

either_same : (b : Bool) (n : ℕ) → pick b n n ≡ n
either_same true n = refl
either_same false n = refl

module _ (q : Papers) (s : List ℕ) (sure : unclear s ≡ false) (counted : get_or s 2 0 ≤ 4294967295) where
  clear : (r : ℕ) → r < 8 → get_or s (11 + r) 0 ≤ 1
  unfolding unclear unclear_at
  clear r h = ltb-false _ _ (none_at (unclear_at s) 0 8 (sym (any_numbers (unclear_at s) 0 8) ∙ sure) r (omega arith) (omega (arith, h)))

  bit : (r : ℕ) → r < 8 → get_or s (11 + r) 0 ≡ bit_of (eqb (get_or s (11 + r) 0) 1)
  bit r h = sym (bit_back (get_or s (11 + r) 0) (clear r h))

  -- behind the last relation or not, an applied word is as it was
  stays : (r : ℕ) → get_or s (3 + r) 0 ≡ pick (ltb r (relation_count q.envelope)) (get_or s (3 + r) 0) (get_or s (3 + r) 0)
  stays r = sym (either_same (ltb r (relation_count q.envelope)) (get_or s (3 + r) 0))

  words_back : map (λ j. get_or s j 0) (numbers_from 0 19) ≡ state_words (end_of q s) s
  unfolding end_of applied_in arrived_in applied_word as_word numbers_from
  words_back =
      words_are (end_of q s) s (relation_count q.envelope) refl _ _ _ _ _ _ _ _ _ (omega (arith, counted)) (stays 0) (stays 1) (stays 2)
      (stays 3) (stays 4) (stays 5) (stays 6) (stays 7) _ _ _ _ _ _ _ _ (bit 0 (omega arith)) (bit 1 (omega arith)) (bit 2 (omega arith))
      (bit 3 (omega arith)) (bit 4 (omega arith)) (bit 5 (omega arith)) (bit 6 (omega arith)) (bit 7 (omega arith))

  state_back : state_after (end_of q s) s ≡ s
  unfolding state_after
  state_back = sym (ap (λ (w : List ℕ). sets s 0 w) words_back) ∙ sets_same s 0 19

-- ---- what is read of words that were written

module _ (x : End) (s : List ℕ) (long : 19 ≤ length s) where
  stands : state_after x s ≡ state_words x s ++ drop 19 s
  unfolding state_after state_words
  stands = sets-eq (state_words x s) s 0 (omega (arith, long, words_long x s))

  bit_least : (b : Bool) → ltb 1 (bit_of b) ≡ false
  unfolding bit_of
  bit_least true = refl
  bit_least false = refl

  bit_said : (b : Bool) → eqb (bit_of b) 1 ≡ b
  unfolding bit_of
  bit_said true = refl
  bit_said false = refl

  -- no call refuses them by 4
  pub state_clear : unclear (state_after x s) ≡ false
  unfolding unclear unclear_at state_words numbers_from
  state_clear =
      rw stands (simp bit_least)

  -- the end that they are: x, with what the words said behind its last relation
  read_back : end_of (papers_of_end x) (state_after x s)
      ≡ record {
        envelope = x.envelope;
        program = x.program;
        site = x.site;
        run = x.run;
        applied = map (applied_word (relation_count x.envelope) x.applied s) relation_numbers;
        arrived = map (λ r. get_or x.arrived r false) relation_numbers;
        used = as_word x.used;
      }
  unfolding end_of applied_in arrived_in state_words
  read_back =
      rw stands (simp bit_said)

-- ---- both ways, exactly

-- a state of 19 words is what is written of the end that it is, exactly where no arrived word is unclear and used is a word
pub state_exact : (q : Papers) (s : List ℕ) → 19 ≤ length s → (state_after (end_of q s) s ≡ s) ↔ ((unclear s ≡ false) × (get_or s 2 0 ≤ 4294967295))
unfolding end_of state_words
state_exact q s long = (
  λ e. (
    ap unclear (sym e) ∙ state_clear (end_of q s) s long,
    let used : as_word (get_or s 2 0) ≡ get_or s 2 0 = sym (ap (λ (l : List ℕ). get_or l 2 0) (stands (end_of q s) s long)) ∙ ap (λ (l : List ℕ). get_or l 2 0) e in
        rw used at (word_least (get_or s 2 0)),
  ),
  λ (sure, counted). state_back q s sure counted,
)

-- an end that 19 words can say: it uses as many words as a word can count, and has of eight relations, behind its last one, what they say
pub record Sayable (x : End) (s : List ℕ) : Type 0 where
  pub counted : x.used ≤ 4294967295
  pub eight : (length x.applied ≡ 8) × (length x.arrived ≡ 8)
  pub behind : (r : ℕ) → relation_count x.envelope ≤ r → r < 8 → get_or x.applied r 0 ≡ get_or s (3 + r) 0

eight_places : relation_numbers ≡ below 8
unfolding numbers_from
eight_places = refl

pub place_get_d : {A : Type 0} (f : ℕ → A) (r : ℕ) (d : A) → r < 8 → get_or (map f relation_numbers) r d ≡ f r
place_get_d f r d h = get_d_map f relation_numbers r 0 d h ∙ ap f (ap (λ (l : List ℕ). get_or l r 0) eight_places ∙ below_get_d 8 r 0 h)

module _ (x : End) (s : List ℕ) (long : 19 ≤ length s) where
  abbrev own : ℕ → ℕ
  own r = applied_word (relation_count x.envelope) x.applied s r

  end_back : Sayable x s → end_of (papers_of_end x) (state_after x s) ≡ x
  unfolding as_word
  end_back h =
      read_back x s long
      ∙ rw (applied_same, arrived_same, used_same) refl
    where
      used_same : as_word x.used ≡ x.used
      used_same = omega (arith, h.counted)

      applied_same : map own relation_numbers ≡ x.applied
      applied_same = ext_get_or 0 (map own relation_numbers) x.applied (sym h.eight.0) (λ r k.
          place_get_d own r 0 k ∙ split (relation_count x.envelope) r
          (λ l. sym (applied_behind (relation_count x.envelope) x.applied s r l) ∙ sym (h.behind r l k))
          (λ l. sym (applied_own (relation_count x.envelope) x.applied s r l)))

      arrived_same : map (λ r. get_or x.arrived r false) relation_numbers ≡ x.arrived
      arrived_same = ext_get_or false (map (λ r. get_or x.arrived r false) relation_numbers) x.arrived (sym h.eight.1) (λ r k. place_get_d (λ r. get_or x.arrived r false) r false k)

  end_sayable : end_of (papers_of_end x) (state_after x s) ≡ x → Sayable x s
  end_sayable e =
      let same = sym (read_back x s long) ∙ e in
      let applied : map own relation_numbers ≡ x.applied = ap (λ (y : End). y.applied) same in
      let arrived : map (λ r. get_or x.arrived r false) relation_numbers ≡ x.arrived = ap (λ (y : End). y.arrived) same in
      let used : as_word x.used ≡ x.used = ap (λ (y : End). y.used) same in
      record {
        counted = rw used at (word_least x.used);
        eight = (sym (ap length applied), sym (ap length arrived));
        behind = λ r l k. sym (ap (λ (t : List ℕ). get_or t r 0) applied) ∙ place_get_d own r 0 k ∙ sym (applied_behind (relation_count x.envelope) x.applied s r l);
      }

  -- an end is what is read of the words that are written of it, exactly where they can say it
  pub end_exact : (end_of (papers_of_end x) (state_after x s) ≡ x) ↔ Sayable x s
  end_exact = (end_sayable, end_back)
