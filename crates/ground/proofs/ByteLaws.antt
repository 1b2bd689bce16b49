-- Bytes that stand in others, numbers as bytes, and what bytes in front of others tell: what is written is read back, and
-- what is read is what was written.
use mathlib.Core.Path.{◌≡◌, refl, sym, ap, ap₂, ◌∙◌}
use mathlib.Core.List.{List, [], ◌∷◌, ◌++◌, map, map-id, append_assoc, append_cancel_left, nil≢cons, head-eq_of_cons-eq}
use Prim.Native.Nat.{ℕ, zero, suc, ◌+◌, ◌*◌, ◌/◌, ◌%◌, ◌^◌, ◌≤◌, ◌<◌}
use native.Mathlib.Nat.{pow-suc, mod-add-div, div-lt_iff_lt-mul}
use native.Mathlib.Omega.{arith}
use lib.ListN.{length, get_or, take, drop, length-append, length-take, length-drop}
use lib.Seq.{take-add, take-take, drop-drop, take_all, take-length, take-append_seam}
use Rattle.ground.specs.Lists.{Every, each}
use Rattle.ground.specs.Bytes.{little_end, bytes_of, Bytes, Stands}
use Rattle.ground.proofs.EveryLaws.{every_append, every_get_d, every_each}

-- ---- a list that stands in another

-- of two lists joined, the first stands at the place and the second behind it
stands_parts : (u w s : List ℕ) (at : ℕ)
    → take (length (u ++ w)) (drop at s) ≡ take (length u) (drop at s) ++ take (length w) (drop (at + length u) s)
stands_parts u w s at = rw (length-append u w, take-add (length u) (length w) (drop at s), drop-drop (length u) at s)

pub stands_left : (u w s : List ℕ) (at : ℕ) → Stands (u ++ w) s at → Stands u s at
stands_left u w s at h =
    let short : length u ≤ length (u ++ w) = rw length-append (omega arith) in
    sym (take-take (length u) (length (u ++ w)) (drop at s) short) ∙ ap (take (length u)) h ∙ take-append_seam u w

pub stands_right : (u w s : List ℕ) (at : ℕ) → Stands (u ++ w) s at → Stands w s (at + length u)
stands_right u w s at h =
    append_cancel_left u _ w
    (ap (λ (l : List ℕ). l ++ take (length w) (drop (at + length u) s)) (sym (stands_left u w s at h)) ∙ sym (stands_parts u w s at) ∙ h)

pub stands_both : (u w s : List ℕ) (at : ℕ) → Stands u s at → Stands w s (at + length u) → Stands (u ++ w) s at
stands_both u w s at hu hw = stands_parts u w s at ∙ ap₂ ◌++◌ hu hw

pub stands_inside : (w s : List ℕ) (at : ℕ) → Stands w s at → 0 < length w → at + length w ≤ length s
stands_inside w s at h some = omega (arith, simp (length-take, length-drop) at (ap length h))

pub stands_self : (s : List ℕ) → Stands s s 0
stands_self s = take-length s

-- what stands in front and is as long is all there is
pub stands_whole : (w s : List ℕ) → Stands w s 0 → length s ≤ length w → s ≡ w
stands_whole w s h long = sym (take_all (length w) s long) ∙ h

pub stands_one : (x : ℕ) (s : List ℕ) (at : ℕ) → Stands (x ∷ []) s at → get_or s at 0 ≡ x
stands_one x [] zero h = absurd (nil≢cons h)
stands_one x [] (suc at) h = absurd (nil≢cons h)
stands_one x (y ∷ s) zero h = head-eq_of_cons-eq h
stands_one x (y ∷ s) (suc at) h = stands_one x s at h

pub one_stands : (s : List ℕ) (at : ℕ) → at < length s → Stands (get_or s at 0 ∷ []) s at
one_stands [] at h = absurd (omega arith)
one_stands (y ∷ s) zero h = refl
one_stands (y ∷ s) (suc at) h = one_stands s at (omega arith)

-- ---- numbers as bytes

pub bytes_length : (w v : ℕ) → length (bytes_of w v) ≡ w
unfolding bytes_of
bytes_length zero v = refl
bytes_length (suc w) v = ap suc (bytes_length w (v / 256))

pub bytes_bytes : (w v : ℕ) → Bytes (bytes_of w v)
unfolding bytes_of
bytes_bytes zero v = tt
bytes_bytes (suc w) v = (omega arith, bytes_bytes w (v / 256))

pub bytes_append : (u w : List ℕ) → Bytes u → Bytes w → Bytes (u ++ w)
bytes_append = every_append (λ (b : ℕ). b < 256)

pub bytes_each : {A : Type 0} (f : A → List ℕ) → ((x : A) → Bytes (f x)) → (l : List A) → Bytes (each f l)
bytes_each = every_each (λ (b : ℕ). b < 256)

-- a number whose bytes stand there is read
pub read_written : (w v : ℕ) (s : List ℕ) (at : ℕ) → v < 256 ^ w → Stands (bytes_of w v) s at → little_end w s at ≡ v
unfolding bytes_of little_end
read_written zero v s at small h = omega arith
read_written (suc w) v s at small h =
    let below : v / 256 < 256 ^ w = (div-lt_iff_lt-mul {k = 256} {x = v} {y = 256 ^ w} (omega arith)).1 (rw pow-suc at small) in
    let first : get_or s at 0 ≡ v % 256 = stands_one (v % 256) s at (stands_left (v % 256 ∷ []) (bytes_of w (v / 256)) s at h) in
    let rest : little_end w s (at + 1) ≡ v / 256 =
    read_written w (v / 256) s (at + 1) below (stands_right (v % 256 ∷ []) (bytes_of w (v / 256)) s at h) in
    omega (arith, first, rest, mod-add-div v 256)

-- the bytes of the number that is read stand there
pub written_read : (w : ℕ) (s : List ℕ) (at : ℕ) → Bytes s → at + w ≤ length s
    → (little_end w s at < 256 ^ w) × Stands (bytes_of w (little_end w s at)) s at
unfolding bytes_of little_end
written_read zero s at bytes inside = (omega arith, refl)
written_read (suc w) s at bytes inside =
    let (small, rest) = written_read w s (at + 1) bytes (omega arith) in
    let byte : get_or s at 0 < 256 = every_get_d (λ (b : ℕ). b < 256) s at 0 (omega arith) bytes in
    let low : (get_or s at 0 + 256 * little_end w s (at + 1)) % 256 ≡ get_or s at 0 = omega arith in
    let high : (get_or s at 0 + 256 * little_end w s (at + 1)) / 256 ≡ little_end w s (at + 1) = omega arith in (
      rw pow-suc (omega arith),
      rw (low, high) (stands_both (get_or s at 0 ∷ []) (bytes_of w (little_end w s (at + 1))) s at (one_stands s at (omega arith)) rest),
    )

-- ---- what bytes in front of others tell

-- two things whose bytes stand in front are, as far as they are seen, the same, and so is what stands behind
abbrev pub Tells : {A B : Type 0} → (A → List ℕ) → (A → Type 0) → (A → Type 0) → (A → B) → Type 0
Tells {A} bytes Some Other view =
    (a b : A) (x y : List ℕ) → Some a → Other b → bytes a ++ x ≡ bytes b ++ y → (view a ≡ view b) × (x ≡ y)

pub number_tells : (w : ℕ) → Tells (bytes_of w) (λ v. v < 256 ^ w) (λ v. v < 256 ^ w) (λ v. v)
number_tells w a b x y small small' e =
    let same : a ≡ b =
    sym (read_written w a (bytes_of w a ++ x) 0 small (take-append_seam (bytes_of w a) x))
    ∙ ap (λ (l : List ℕ). little_end w l 0) e
    ∙ read_written w b (bytes_of w b ++ y) 0 small' (take-append_seam (bytes_of w b) y) in
    (same, append_cancel_left (bytes_of w a) x y (e ∙ ap (λ (v : ℕ). bytes_of w v ++ y) (sym same)))

pub each_tells : {A B : Type 0} (bytes : A → List ℕ) (Some Other : A → Type 0) (view : A → B) → Tells bytes Some Other view
    → (l m : List A) → length l ≡ length m → (x y : List ℕ) → Every Some l → Every Other m → each bytes l ++ x ≡ each bytes m ++ y
    → (map view l ≡ map view m) × (x ≡ y)
each_tells bytes Some Other view tells [] [] long x y h k e = (refl, e)
each_tells bytes Some Other view tells [] (b ∷ m) long x y h k e = absurd (omega arith)
each_tells bytes Some Other view tells (a ∷ l) [] long x y h k e = absurd (omega arith)
each_tells bytes Some Other view tells (a ∷ l) (b ∷ m) long x y h k e =
    let (same, more) =
    tells a b (each bytes l ++ x) (each bytes m ++ y) h.0 k.0
    (sym (append_assoc (bytes a) (each bytes l) x) ∙ e ∙ append_assoc (bytes b) (each bytes m) y) in
    let (rest, behind) = each_tells bytes Some Other view tells l m (omega arith) x y h.1 k.1 more in
    (ap₂ (λ v vs. v ∷ vs) same rest, behind)

pub all_tell : {A : Type 0} (bytes : A → List ℕ) (Some Other : A → Type 0) → Tells bytes Some Other (λ v. v)
    → (l m : List A) → length l ≡ length m → (x y : List ℕ) → Every Some l → Every Other m → each bytes l ++ x ≡ each bytes m ++ y
    → (l ≡ m) × (x ≡ y)
all_tell bytes Some Other tells l m long x y h k e =
    let (same, behind) = each_tells bytes Some Other (λ v. v) tells l m long x y h k e in
    (sym (map-id l) ∙ same ∙ map-id m, behind)
