-- The laws of a state: each return.
use mathlib.Core.Path.{◌≡◌, refl, sym, ap, ◌∙◌}
use mathlib.Core.Bool.{Bool, true, false}
use mathlib.Core.List.{List, [], ◌∷◌, ◌++◌, map, append_assoc}
use Prim.Native.Nat.{ℕ, zero, suc, ◌+◌, ◌≤◌, ◌<◌}
use native.Mathlib.Omega.{arith}
use lib.ListN.{length, get_or, take, drop}
use lib.Seq.{sets, sets-eq, length-sets, take_all, drop-cons, drop-drop}
use lib.Dec.{eqb, ltb}
use borrow.Rule.Slice.PartMut.{put_mid}
use mir.Val.{bool_byte}
use borrow.Author.Tests.{lt-ltb, le-ltb}
use Rattle.ground.specs.Lists.{any, below, numbers_from}
use Rattle.contents.specs.Parts.{relation_count}
use Rattle.papers.specs.declared.checks.Papers.{Papers}
use Rattle.ends.specs.declared.ends.End.{End}
use Rattle.boundary.specs.Answers.{as_word}
use Rattle.boundary.specs.States.{applied_in, arrived_in, unclear_at, unclear, end_of, bit_of, applied_word, state_words, state_after}

-- ---- the words of a state one after the other

module _ {A : Type 0} (d : A) (s : List A) (a : ℕ) where
  places_from : (i n : ℕ) → a + i + n ≤ length s → map (λ r. get_or s (a + r) d) (numbers_from i n) ≡ take n (drop (a + i) s)
  unfolding numbers_from
  places_from i zero h = refl
  places_from i (suc n) h =
      let next : a + (i + 1) ≡ suc (a + i) = omega arith in
      ap (λ (l : List A). get_or s (a + i) d ∷ l) (places_from (i + 1) n (omega (arith, h)) ∙ ap (λ (k : ℕ). take n (drop k s)) next)
      ∙ sym (ap (take (suc n)) (drop-cons s (a + i) d (omega (arith, h))))

-- an arrived word that is neither 0 nor 1
pub unclear_in : (s : List ℕ) → 19 ≤ length s → any (ltb 1) (take 8 (drop 11 s)) ≡ unclear s
unfolding unclear unclear_at numbers_from
unclear_in s h = ap (any (ltb 1)) (sym (places_from 0 s 11 0 8 (omega (arith, h))))

-- ---- words written

pub bit_is : (b : Bool) (n : ℕ) → n ≡ bool_byte b → n ≡ bit_of b
unfolding bit_of
bit_is true n e = e
bit_is false n e = e

-- words put from a place on, as a copy to a part shows it
mid_sets : (l : List ℕ) (at k : ℕ) (vs : List ℕ) → k ≡ length vs → at + length vs ≤ length l → put_mid at k l vs ≡ sets l at vs
mid_sets l at k vs e h =
    sym (
    sets-eq vs l at h ∙ append_assoc (take at l) vs (drop (at + length vs) l)
    ∙ ap (λ (r : List ℕ). take at l ++ (vs ++ r)) (ap (λ (n : ℕ). drop (at + n) l) (sym e) ∙ sym (drop-drop k at l))
    )

module _ (relations : ℕ) (applied s : List ℕ) (r : ℕ) where
  pub applied_own : r < relations → get_or applied r 0 ≡ applied_word relations applied s r
  unfolding applied_word
  applied_own h = rw (lt-ltb r relations h)

  pub applied_behind : relations ≤ r → get_or s (3 + r) 0 ≡ applied_word relations applied s r
  unfolding applied_word
  applied_behind h = rw (le-ltb r relations h)

-- the end that the words are, as its fields are read
pub end_is : (q : Papers) (s applied : List ℕ) (arrived : List Bool) (used : ℕ) → applied ≡ map (λ r. get_or s (3 + r) 0) (below 8)
    → arrived ≡ map (λ r. eqb (get_or s (11 + r) 0) 1) (below 8) → used ≡ get_or s 2 0
    → record {
      envelope = q.envelope;
      program = q.program;
      site = get_or s 0 0;
      run = get_or s 1 0;
      applied = applied;
      arrived = arrived;
      used = used;
    }
    ≡ end_of q s
unfolding end_of applied_in arrived_in numbers_from
end_is q s applied arrived used e f g = rw (e, f, g) refl

-- the words of an end, each as something gave it
module _ (x : End) (s : List ℕ) (n : ℕ) (e : n ≡ relation_count x.envelope) where
  abbrev own : ℕ → ℕ
  own r = applied_word n x.applied s r

  abbrev mark : ℕ → ℕ
  mark r = bit_of (get_or x.arrived r false)

  pub words_are : (u a b c d f g h i : ℕ) → u ≡ as_word x.used → a ≡ own 0 → b ≡ own 1 → c ≡ own 2 → d ≡ own 3 → f ≡ own 4 → g ≡ own 5
      → h ≡ own 6 → i ≡ own 7 → (A B C D F G H I : ℕ) → A ≡ mark 0 → B ≡ mark 1 → C ≡ mark 2 → D ≡ mark 3 → F ≡ mark 4 → G ≡ mark 5 → H ≡ mark 6
      → I ≡ mark 7
      → (x.site ∷ x.run ∷ u ∷ a ∷ b ∷ c ∷ d ∷ f ∷ g ∷ h ∷ i ∷ A ∷ B ∷ C ∷ D ∷ F ∷ G ∷ H ∷ I ∷ []) ≡ state_words x s
  unfolding state_words
  words_are u a b c d f g h i eu ea eb ec ed ef eg eh ei A B C D F G H I eA eB eC eD eF eG eH eI =
      rw (eu, ea, eb, ec, ed, ef, eg, eh, ei, eA, eB, eC, eD, eF, eG, eH, eI, e) refl

pub words_long : (x : End) (s : List ℕ) → length (state_words x s) ≡ 19
unfolding state_words
words_long x s = refl

-- the state afterwards, as its three parts are put
module _ (x : End) (s : List ℕ) (n w : ℕ) (applied bits : List ℕ) (whole : 19 ≤ length s) (a : n ≡ relation_count x.envelope) (g : w ≡ as_word x.used)
    (e : applied ≡ map (applied_word n x.applied s) (below 8)) (f : bits ≡ map bit_of x.arrived) (long : length x.arrived ≡ 8) where
  abbrev head : List ℕ
  head = x.site ∷ x.run ∷ w ∷ []

  bits_are : bits ≡ map (λ r. bit_of (get_or x.arrived r false)) (below 8)
  unfolding numbers_from
  bits_are =
      f ∙ ap (map bit_of) (sym (places_from false x.arrived 0 0 8 (omega (arith, long)) ∙ take_all 8 x.arrived (omega (arith, long))))

  applied_long : length applied ≡ 8
  unfolding numbers_from
  applied_long = ap length e

  bits_long : length bits ≡ 8
  unfolding numbers_from
  bits_long = ap length bits_are

  words_put : sets (sets (sets s 0 head) 3 applied) 11 bits ≡ state_after x s
  unfolding state_after state_words numbers_from
  words_put = rw (e, bits_are, g, a) refl

  pub state_put : (front middle back : List ℕ) → front ≡ head → middle ≡ applied → back ≡ bits
      → put_mid 11 8 (put_mid 3 8 (front ++ drop 3 s) middle) back ≡ state_after x s
  state_put front middle back i j k =
      let first : front ++ drop 3 s ≡ sets s 0 head = ap (λ (l : List ℕ). l ++ drop 3 s) i ∙ sym (sets-eq head s 0 (omega (arith, whole))) in
      let once : length (sets s 0 head) ≡ length s = length-sets s 0 head in
      let twice : length (sets (sets s 0 head) 3 applied) ≡ length s = length-sets (sets s 0 head) 3 applied ∙ once in
      rw (first, j, k) (
      ap (λ (l : List ℕ). put_mid 11 8 l bits) (mid_sets (sets s 0 head) 3 8 applied (sym applied_long) (omega (arith, once, whole, applied_long)))
      ∙ mid_sets (sets (sets s 0 head) 3 applied) 11 8 bits (sym bits_long) (omega (arith, twice, whole, bits_long))
      ∙ words_put
      )
