-- The laws of opening an end that the caller keeps: each return.
use mathlib.Core.Path.{◌≡◌, refl, sym, ap, ◌∙◌}
use mathlib.Core.Bool.{Bool, true, false, not}
use mathlib.Core.List.{List, []}
use Prim.Native.Nat.{ℕ, ◌≤◌, ◌<◌}
use lib.ListN.{length}
use lib.Dec.{ltb}
use borrow.Author.Tests.{lt-ltb, le-ltb}
use Rattle.std.specs.Prelude.{Result, Ok, Err}
use Rattle.ground.specs.Tests.{pick}
use Rattle.ground.specs.Outcome.{Outcome, Verdict, next, taken_of, verdict_of, leaves}
use Rattle.ground.specs.Outcome.Outcome.{good, bad}
use Rattle.ground.specs.Refusals.{refusal}
use Rattle.ground.specs.declared.refusals.Reason.{Reason}
use Rattle.ground.specs.declared.refusals.Reason.TheVariants.{BeyondLimit, WrongShape, TooShort}
use Rattle.ground.specs.declared.refusals.Refusal.{Refusal}
use native.Mathlib.Omega.{arith}
use Rattle.ground.proofs.OutcomeLaws.{value_good, value_bad, next_good, turned_bad}
use Rattle.contents.specs.declared.envelope.Envelope.{Envelope}
use Rattle.papers.specs.Checks.{papers_of}
use Rattle.papers.specs.declared.programs.Program.{Program}
use Rattle.papers.specs.declared.checks.Papers.{Papers}
use Rattle.tables.specs.Offsets.{row_count}
use Rattle.tables.specs.Shape.{shaped}
use Rattle.ends.specs.Ends.{Marked}
use Rattle.station.specs.Opening.{open_with, open_of, opened_end, opened_marks}
use Rattle.ends.specs.declared.ends.End.{End}
use Rattle.boundary.specs.States.{state_after}
use Rattle.boundary.specs.Given.{papers_in}
use Rattle.boundary.specs.Stations.{open_given, open_from, opened_state}
use Rattle.boundary.proofs.CallLaws.{refused_says, taken_says, leaves_same}

less : length {A = ℕ} [] < 19
less = omega arith

-- what opening gives where the state is too short, whatever the marks
abbrev short : Outcome Marked → Outcome Marked
short o = next o (λ _ _. bad TooShort 0)

short_tests : (a b c d : Bool) (x y : Marked)
    → short (pick a (bad WrongShape 0) (pick b (bad BeyondLimit 0) (pick c (bad TooShort 0) (good x 0))))
    ≡ short (pick a (bad WrongShape 0) (pick b (bad BeyondLimit 0) (pick d (bad TooShort 0) (good y 0))))
short_tests true b c d x y = refl
short_tests false true c d x y = refl
short_tests false false true true x y = refl
short_tests false false true false x y = refl
short_tests false false false true x y = refl
short_tests false false false false x y = refl

short_with : (q : Papers) (site run : ℕ) (words marks other : List ℕ) → short (open_with q site run words marks) ≡ short (open_with q site run words other)
unfolding open_with
short_with q site run words marks other =
    short_tests (not (shaped q.envelope words)) (ltb 7 site) (ltb (length marks) (row_count q.envelope words))
    (ltb (length other) (row_count q.envelope words)) _ _

module _ (e : Envelope) (p : Program) (site run : ℕ) (words : List ℕ) where
  short_any : (marks other : List ℕ) → short (open_of e p site run words marks) ≡ short (open_of e p site run words other)
  unfolding open_of
  short_any marks other = go (papers_of e p)
    where
      go : (o : Outcome Papers)
          → short (next o (λ q _. open_with q site run words marks)) ≡ short (next o (λ q _. open_with q site run words other))
      go (good q u) = short_with q site run words marks other
      go (bad m u) = refl

  short_given : (marks s : List ℕ) → length s < 19 → open_given e p site run words marks s ≡ short (open_of e p site run words marks)
  unfolding open_given
  short_given marks s h = rw (lt-ltb (length s) 19 h)

  -- what an opening answers says what it came to
  module _ (any : List ℕ) (z : Result End Refusal) (g : z ≡ opened_end (open_of e p site run words any)) where
    opened_bad : (x : Refusal) → z ≡ Err x → open_of e p site run words any ≡ bad x.reason x.position
    opened_bad x t = turned_bad (λ (m : Marked). m.end) (open_of e p site run words any) x.reason x.position (value_bad _ z x g t)

    opened_good : (y : End) → z ≡ Ok y → (m : Marked) × (u : ℕ) × (open_of e p site run words any ≡ good m u) × (m.end ≡ y)
    opened_good y t =
        let (u, o) = value_good _ z y g t in
        let (m, v, read, made) = next_good (open_of e p site run words any) (λ (m : Marked) p. good m.end p) y u o in
        (m, v, read, cc)

    none : open_given e p site run words [] [] ≡ short (open_of e p site run words any)
    none = short_given [] [] less ∙ short_any [] any

    pub refuse_same : (x : Refusal) → z ≡ Err x → Err x ≡ verdict_of (open_given e p site run words [] [])
    unfolding verdict_of
    refuse_same x t = ap verdict_of (sym (none ∙ ap short (opened_bad x t)))

    pub refuse_short : (y : End) → z ≡ Ok y → Err (refusal TooShort 0) ≡ verdict_of (open_given e p site run words [] [])
    unfolding verdict_of
    refuse_short y t = let (m, u, o, _) = opened_good y t in ap verdict_of (sym (none ∙ ap short o))

  module _ (marks s : List ℕ) where
    abbrev Opens : Verdict → List ℕ → List ℕ → Type 0
    Opens v after last =
        (v ≡ verdict_of (open_given e p site run words marks s))
        × (after ≡ opened_marks marks (open_given e p site run words marks s))
        × (last ≡ opened_state s (open_given e p site run words marks s))

    never_open : (o : Outcome Marked) → (m : Reason) × (u : ℕ) × (short o ≡ bad m u)
    never_open (good x u) = (TooShort, 0, refl)
    never_open (bad m u) = (m, u, refl)

    pub given_short : length s < 19 → (v : Verdict) → v ≡ verdict_of (open_given e p site run words [] []) → Opens v marks s
    given_short h v k =
        let same : open_given e p site run words [] [] ≡ open_given e p site run words marks s =
        short_given [] [] less ∙ short_any [] marks ∙ sym (short_given marks s h) in
        let (m, u, found) = never_open (open_of e p site run words marks) in
        let refused : open_given e p site run words marks s ≡ bad m u = short_given marks s h ∙ found in
        (k ∙ ap verdict_of same, leaves_same _ marks _ m u refused, leaves_same _ s _ m u refused)

    module _ (h : 19 ≤ length s) (z : Result End Refusal) (after : List ℕ)
        (g : (z ≡ opened_end (open_of e p site run words marks)) × (after ≡ opened_marks marks (open_of e p site run words marks))) where
      as_opened : open_given e p site run words marks s ≡ open_of e p site run words marks
      unfolding open_given
      as_opened = rw (le-ltb (length s) 19 h) (same (open_of e p site run words marks))
        where
          same : (o : Outcome Marked) → next o (λ m at. good m at) ≡ o
          same (good m u) = refl
          same (bad m u) = refl

      marks_as : after ≡ opened_marks marks (open_given e p site run words marks s)
      marks_as = g.1 ∙ ap (opened_marks marks) (sym as_opened)

      pub given_refused : (x : Refusal) → z ≡ Err x → Opens (Err x) after s
      unfolding verdict_of
      given_refused x t =
          let o : open_given e p site run words marks s ≡ bad x.reason x.position = as_opened ∙ opened_bad marks z g.0 x t in
          (ap verdict_of (sym o), marks_as, leaves_same _ s _ x.reason x.position o)

      pub given_opened : (y : End) → z ≡ Ok y → (last : List ℕ) → last ≡ state_after y s → Opens (Ok (tt {0})) after last
      unfolding verdict_of leaves
      given_opened y t last l =
          let (m, u, o, f) = opened_good marks z g.0 y t in
          let found : open_given e p site run words marks s ≡ good m u = as_opened ∙ o in (
            ap verdict_of (sym found),
            marks_as,
            l ∙ ap (λ (x : End). state_after x s) (sym f) ∙ ap (opened_state s) (sym found),
          )

module _ (e p : List ℕ) (site run : ℕ) (words marks s : List ℕ) (c : Result Papers Refusal) (g : c ≡ taken_of (papers_in e p)) where
  abbrev Opening : Verdict → List ℕ → List ℕ → Outcome Marked → Type 0
  Opening v after last o = (v ≡ verdict_of o) × (after ≡ opened_marks marks o) × (last ≡ opened_state s o)

  abbrev opening : Papers → Outcome Marked
  opening q = open_given q.envelope q.program site run words marks s

  pub open_refused : (x : Refusal) → c ≡ Err x → Opening (Err x) marks s (open_from e p site run words marks s)
  unfolding open_from verdict_of leaves
  open_refused x h = refused_says (papers_in e p) opening c g (Opening (Err x) marks s) x h (refl, refl, refl)

  pub open_taken : (q : Papers) → c ≡ Ok q → (v : Verdict) (after last : List ℕ) → Opening v after last (opening q)
      → Opening v after last (open_from e p site run words marks s)
  unfolding open_from
  open_taken q h v after last l = taken_says (papers_in e p) opening c g (Opening v after last) q h l
