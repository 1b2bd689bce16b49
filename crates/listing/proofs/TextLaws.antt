-- The laws of text: words, digits and numbers put one behind the other; and that a decimal number reads back.
use mathlib.Core.Path.{◌≡◌, refl, sym, ap, subst, ◌∙◌}
use mathlib.Core.List.{List, [], ◌∷◌, ◌++◌}
use Prim.Native.Nat.{ℕ, zero, suc, ◌+◌, ◌*◌, ◌-◌, ◌/◌, ◌%◌, ◌^◌, ◌≤◌, ◌<◌}
use native.Mathlib.Nat.{pow-succ', add-zero, add_assoc}
use native.Mathlib.Omega.{arith}
use borrow.Author.Tests.{lt-ltb, le-ltb}
use lib.ListN.{length, get_or, set, length-append}
use lib.Seq.{sets, take_all}
use Rattle.ground.specs.Bytes.{bytes_of}
use Rattle.ground.proofs.CountLaws.{split}
use Rattle.ground.proofs.PuttingLaws.{sets_append, Copying, copying_start, copying_more, copying_done, copying_length}
use Rattle.fields.specs.Puts.{Puts}
use Rattle.listing.specs.Text.{decimal_in, decimal}

-- bytes put behind others
pub both_put : (o m t : List ℕ) (at p r k l : ℕ) (a b : List ℕ) → Puts o at k a p m → Puts m p l b r t → Puts o at (k + l) (a ++ b) r t
both_put o m t at p r k l a b (e, f, x) (g, h, y) = (
  omega (arith, length-append a b),
  h ∙ ap (λ (s : List ℕ). sets s p b) f ∙ ap (λ (i : ℕ). sets (sets o at a) i b) e ∙ sym (sets_append o at a b),
  omega arith,
)

module _ (o x y : List ℕ) (at a b k l m : ℕ) (p q u : List ℕ) (f : Puts o at k p a x) (g : Puts x a l q b y) where
  pub three_put : (t : List ℕ) (r : ℕ) → Puts y b m u r t → Puts o at (k + l + m) (p ++ q ++ u) r t
  three_put t r h = both_put o y t at b r (k + l) m (p ++ q) u (both_put o x y at a b k l p q f g) h

  pub four_put : (z : List ℕ) (c : ℕ) → Puts y b m u c z → (n : ℕ) (v : List ℕ) (t : List ℕ) (r : ℕ) → Puts z c n v r t
      → Puts o at (k + l + m + n) (p ++ q ++ u ++ v) r t
  four_put z c h n v t r i = both_put o z t at c r (k + l + m) n (p ++ q ++ u) v (three_put z c h) i

-- ---- digits

small_byte : (v : ℕ) → v < 256 → bytes_of 1 v ≡ v ∷ []
unfolding bytes_of
small_byte v h = let e : v % 256 ≡ v = omega arith in rw e

pub letter_put : (o t : List ℕ) (at v : ℕ) → v < 256 → t ≡ sets o at (bytes_of 1 v) → t ≡ set o at v
letter_put o t at v h e = e ∙ ap (sets o at) (small_byte v h)

module _ (n : ℕ) where
  decimal_one : (k : ℕ) → n < 10 → decimal_in (suc k) n ≡ (48 + n) ∷ []
  unfolding decimal_in
  decimal_one k h = let e : n % 10 ≡ n = omega arith in rw (lt-ltb n 10 h, e)

  decimal_more : (k : ℕ) → 10 ≤ n → decimal_in (suc k) n ≡ decimal_in k (n / 10) ++ ((48 + n % 10) ∷ [])
  unfolding decimal_in
  decimal_more k h = rw (le-ltb n 10 h)

  module _ (k : ℕ) (few : 0 < k) (o t : List ℕ) (at r : ℕ) where
    pub digits_one : n < 10 → Puts o at 1 ((48 + n) ∷ []) r t → Puts o at k (decimal_in k n) r t
    digits_one h (e, f, g) =
        let s : decimal_in k n ≡ (48 + n) ∷ [] = go k few in (e ∙ rw s, f ∙ rw s, omega arith)
      where
        go : (j : ℕ) → 0 < j → decimal_in j n ≡ (48 + n) ∷ []
        go zero l = absurd (omega arith)
        go (suc j) l = decimal_one j h

    pub digits_more : 10 ≤ n → (m : List ℕ) (p : ℕ) → Puts o at (k - 1) (decimal_in (k - 1) (n / 10)) p m → Puts m p 1 ((48 + n % 10) ∷ []) r t
        → Puts o at k (decimal_in k n) r t
    digits_more h m p x y =
        let (e, f, g) = both_put o m t at p r (k - 1) 1 (decimal_in (k - 1) (n / 10)) ((48 + n % 10) ∷ []) x y in
        let s : decimal_in k n ≡ decimal_in (k - 1) (n / 10) ++ ((48 + n % 10) ∷ []) = go k few in
        (e ∙ rw s, f ∙ rw s, omega arith)
      where
        go : (j : ℕ) → 0 < j → decimal_in j n ≡ decimal_in (j - 1) (n / 10) ++ ((48 + n % 10) ∷ [])
        go zero l = absurd (omega arith)
        go (suc j) l = let q : suc j - 1 ≡ j = omega arith in rw q (decimal_more j h)

  -- with a digit less the rest has room, and there is a digit left
  pub digits_room : (k : ℕ) → 10 ≤ n → n < 10 ^ k → n / 10 < 10 ^ (k - 1)
  digits_room zero h l = absurd (omega arith)
  digits_room (suc k) h l =
      let q : suc k - 1 ≡ k = omega arith in
      let s : 10 ^ suc k ≡ 10 * 10 ^ k = pow-succ' 10 k in
      rw q (omega arith)

  pub digits_left : (k : ℕ) → 10 ≤ n → n < 10 ^ k → 0 < k - 1
  digits_left zero h l = absurd (omega arith)
  digits_left (suc zero) h l = absurd (omega arith)
  digits_left (suc (suc k)) h l = omega arith

pub decimal_put : (n : ℕ) (o t : List ℕ) (at r : ℕ) → Puts o at 20 (decimal_in 20 n) r t → Puts o at 20 (decimal n) r t
unfolding decimal
decimal_put n o t at r x = x

-- ---- words

abbrev pub Spelling : List ℕ → List ℕ → ℕ → ℕ → List ℕ → Type 0
Spelling words before at i out = Copying words before at (length words) i (at + i) out

module _ (words before : List ℕ) (at : ℕ) where
  pub spelling_start : Spelling words before at 0 before
  spelling_start =
      subst (λ (p : ℕ). Copying words before at (length words) 0 p before) (sym (add-zero at))
      (copying_start words before at (length words) (omega arith))

  module _ (i : ℕ) (out : List ℕ) (c : Spelling words before at i out) where
    pub spelling_more : i < length words → (after : List ℕ) → after ≡ set out (at + i) (get_or words i 0) → Spelling words before at (i + 1) after
    spelling_more h after e =
        subst (λ (p : ℕ). Copying words before at (length words) (i + 1) p after) (add_assoc at i 1)
        (rw e (copying_more words before at (length words) i (at + i) out c 0 h))

    pub spelling_long : length out ≡ length before
    spelling_long = copying_length words before at (length words) i (at + i) out c

    pub spelling_done : length words ≤ i → Puts before at (length words) words (at + i) out
    spelling_done h =
        let e : i ≡ length words = omega (arith, c.within) in (
          ap (λ (j : ℕ). at + j) e,
          copying_done words before at (length words) i (at + i) out c h ∙ ap (sets before at) (take_all (length words) words (omega arith)),
          omega arith,
        )

-- ---- a decimal number reads back

-- the number that digits say, behind what was read before
unfoldable pub said : ℕ → List ℕ → ℕ
said before [] = before
said before (d ∷ l) = said (10 * before + (d - 48)) l

said_more : (before : ℕ) (l : List ℕ) (d : ℕ) → said before (l ++ (d ∷ [])) ≡ 10 * said before l + (d - 48)
unfolding said
said_more before [] d = refl
said_more before (x ∷ l) d = said_more (10 * before + (x - 48)) l d

said_none : (n : ℕ) → n < 10 ^ 0 → said 0 (decimal_in 0 n) ≡ n
unfolding said decimal_in
said_none n h = omega arith

said_one : (n : ℕ) → said 0 ((48 + n) ∷ []) ≡ n
unfolding said
said_one n = omega arith

digits_said : (k n : ℕ) → n < 10 ^ k → said 0 (decimal_in k n) ≡ n
digits_said zero n h = said_none n h
digits_said (suc k) n h =
    split 10 n
    (λ l.
    let s : 10 ^ suc k ≡ 10 * 10 ^ k = pow-succ' 10 k in
    let r : said 0 (decimal_in k (n / 10)) ≡ n / 10 = digits_said k (n / 10) (omega arith) in
    ap (said 0) (decimal_more n k l) ∙ said_more 0 (decimal_in k (n / 10)) (48 + n % 10) ∙ rw r (omega arith))
    (λ l. ap (said 0) (decimal_one n k l) ∙ said_one n)

-- 20 digits are enough for every number of 64 bits
pub decimal_said : (n : ℕ) → n < 2 ^ 64 → said 0 (decimal n) ≡ n
unfolding decimal
decimal_said n h = digits_said 20 n (omega arith)
