-- The laws of a paper's mark and version: one for each return of the functions that read them.
use mathlib.Core.Path.{◌≡◌, refl, sym, ap, ◌∙◌}
use Prim.Native.Nat.{ℕ, ◌+◌, ◌-◌, ◌≤◌, ◌<◌}
use native.Mathlib.Omega.{arith}
use mathlib.Core.List.{List, [], ◌∷◌}
use mathlib.Core.Bool.{Bool, true, false, ◌&&◌}
use lib.ListN.{length, get_or}
use lib.Dec.{leb, eqb}
use borrow.Author.Tests.{lt-leb, le-leb, eq-eqb, ne_eqb}
use Rattle.ground.specs.Tests.{pick}
use Rattle.ground.specs.Outcome.{verdict_of}
use Rattle.ground.specs.Outcome.Outcome.{good, bad}
use Rattle.fields.specs.Numbers.{number_at, between, marked, mark_at, version_at, head_of}
use Rattle.ground.proofs.OutcomeLaws.{good_bad, next_good, pick_good, passes_on, read_good, verdict_good, verdict_bad}
use Rattle.fields.proofs.NumberLaws.{between_true}
use Rattle.ground.specs.Outcome.{read_of, Verdict}
use Rattle.ground.specs.declared.refusals.Reason.TheVariants.{EndsInside, WrongMark, WrongVersion}
use Rattle.ground.specs.declared.refusals.Refusal.{Refusal}
use Rattle.ground.specs.Refusals.{refusal}
use Rattle.std.specs.Prelude.{Result, Ok, Err}

-- ---- the letters of a mark at a position

module _ (a b c : ℕ) (s : List ℕ) (at : ℕ) where
  pub marked_first : (get_or s at 0 ≡ a → ⊥) → false ≡ marked (a ∷ b ∷ c ∷ []) s at
  unfolding marked
  marked_first h = simp (ne_eqb _ _ h)

  pub marked_second : get_or s at 0 ≡ a → (get_or s (at + 1) 0 ≡ b → ⊥) → false ≡ marked (a ∷ b ∷ c ∷ []) s at
  unfolding marked
  marked_second e h = simp (eq-eqb _ _ e, ne_eqb _ _ h)

  both_true : (x : Bool) → x ≡ (x && true)
  both_true true = refl
  both_true false = refl

  pub marked_third : get_or s at 0 ≡ a → get_or s (at + 1) 0 ≡ b → eqb (get_or s (at + 2) 0) c ≡ marked (a ∷ b ∷ c ∷ []) s at
  unfolding marked
  marked_third e f =
      let two : at + 1 + 1 ≡ at + 2 = omega arith in
      simp (eq-eqb _ _ e, eq-eqb _ _ f, two) (both_true (eqb (get_or s (at + 2) 0) c))

  pub mark_short : length s < at + 3 → Err (refusal EndsInside at) ≡ verdict_of (mark_at (a ∷ b ∷ c ∷ []) s at)
  unfolding mark_at verdict_of
  mark_short h = simp (lt-leb _ _ h)

  module _ (inside : at < length s) (room : 3 ≤ length s - at) (m : Bool) (e : m ≡ marked (a ∷ b ∷ c ∷ []) s at) where
    long : at + 3 ≤ length s
    long = omega (arith, inside, room)

    pub mark_wrong : m ≡ false → Err (refusal WrongMark at) ≡ verdict_of (mark_at (a ∷ b ∷ c ∷ []) s at)
    unfolding mark_at verdict_of
    mark_wrong h = simp (le-leb _ _ long, ← e, h)

    pub mark_right : m ≡ true → Ok (tt {0}) ≡ verdict_of (mark_at (a ∷ b ∷ c ∷ []) s at)
    unfolding mark_at verdict_of
    mark_right h = simp (le-leb _ _ long, ← e, h)

-- ---- the version behind the mark

module _ (a b c newest : ℕ) (s : List ℕ) (m : Verdict) (e : m ≡ verdict_of (mark_at (a ∷ b ∷ c ∷ []) s 0)) where
  at_three : (v : List ℕ) (q : ℕ) → mark_at (a ∷ b ∷ c ∷ []) s 0 ≡ good v q → q ≡ 3
  unfolding mark_at
  at_three v q h =
      let (_, inner) = pick_good (leb 3 (length s)) _ EndsInside 0 v q h in
      let (_, is) = pick_good (marked (a ∷ b ∷ c ∷ []) s 0) (good (a ∷ b ∷ c ∷ []) 3) WrongMark 0 v q inner in
      cc

  behind : m ≡ Ok tt → head_of (a ∷ b ∷ c ∷ []) newest s ≡ version_at newest s 3
  unfolding head_of
  behind g = let (v, q, is) = verdict_good (mark_at (a ∷ b ∷ c ∷ []) s 0) m e g in rw (is, at_three v q is) refl

  pub head_no_mark : (x : Refusal) → m ≡ Err x → Err x ≡ read_of (head_of (a ∷ b ∷ c ∷ []) newest s)
  unfolding head_of read_of
  head_no_mark x g = sym (rw (verdict_bad (mark_at (a ∷ b ∷ c ∷ []) s 0) m x e g) refl)

  module _ (g : m ≡ Ok tt) (r : Result (ℕ × ℕ) Refusal) (f : r ≡ read_of (number_at 2 s 3)) where
    pub head_no_version : (x : Refusal) → r ≡ Err x → Err x ≡ read_of (head_of (a ∷ b ∷ c ∷ []) newest s)
    unfolding version_at
    head_no_version x h = passes_on (number_at 2 s 3) _ r f x h ∙ ap read_of (sym (behind g))

    pub head_no : (v p : ℕ) → r ≡ Ok (v, p) → between 1 newest v ≡ false → Err (refusal WrongVersion 3) ≡ read_of (head_of (a ∷ b ∷ c ∷ []) newest s)
    unfolding read_of version_at
    head_no v p h k = sym (rw (behind g, read_good (number_at 2 s 3) r v p f h, k) refl)

    pub head_yes : (v p : ℕ) → r ≡ Ok (v, p) → between 1 newest v ≡ true → Ok (v, p) ≡ read_of (head_of (a ∷ b ∷ c ∷ []) newest s)
    unfolding read_of version_at
    head_yes v p h k = sym (rw (behind g, read_good (number_at 2 s 3) r v p f h, k) refl)

-- ---- a version that was read is one that is taken

version_by_lem : (newest at v p u q : ℕ) (b : Bool) → between 1 newest u ≡ b → pick b (good u q) (bad WrongVersion at) ≡ good v p → v ≤ newest
version_by_lem newest at v p u q true h e = let k : u ≡ v = cc in omega (arith, between_true 1 newest u h)
version_by_lem newest at v p u q false h e = absurd (good_bad v p WrongVersion at (sym e))

pub read_version : (letters : List ℕ) (newest : ℕ) (s : List ℕ) (r : Result (ℕ × ℕ) Refusal) (v p : ℕ) → r ≡ read_of (head_of letters newest s)
    → r ≡ Ok (v, p) → v ≤ newest
unfolding head_of version_at
read_version letters newest s r v p e g =
    let x = next_good (mark_at letters s 0) _ v p (read_good (head_of letters newest s) r v p e g) in
    let y = next_good (number_at 2 s x.1) _ v p x.3 in
    version_by_lem newest x.1 v p y.0 y.1 (between 1 newest y.0) refl y.3
