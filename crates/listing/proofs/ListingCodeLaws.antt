-- The laws of the listing: its parts put one behind the other are its lines.
use mathlib.Core.Path.{◌≡◌, refl, ap, subst, ◌∙◌}
use mathlib.Core.List.{List, ◌++◌}
use Prim.Native.Nat.{ℕ, ◌+◌, ◌≤◌}
use native.Mathlib.Nat.{zero-add}
use native.Mathlib.Omega.{arith}
use lib.ListN.{length, take}
use lib.Seq.{sets, take_all}
use Rattle.ground.proofs.PuttingLaws.{putting_done, putting_place}
use Rattle.ground.proofs.WritingLaws.{Writing}
use Rattle.ground.specs.Lists.{each}
use Rattle.std.specs.Prelude.{Result, Ok, Err}
use Rattle.ground.specs.declared.refusals.Refusal.{Refusal}
use Rattle.fields.specs.Puts.{Puts, Fronts}
use Rattle.paths.specs.declared.steps.Step.{Step}
use Rattle.estimates.specs.declared.lines.Line.{Line}
use Rattle.planner.specs.declared.plans.Plan.{Plan}
use Rattle.listing.specs.Text.{text, decimal, behind}
use Rattle.listing.specs.Listing.{heading, step_text, step_line, last_line, refused_line, plan_lines, listing_of, numbered, listing}
use Rattle.listing.proofs.TextLaws.{both_put, three_put, four_put}

module _ (o x y z t : List ℕ) (at a b c r : ℕ) where
  pub step_put : (s : Step) → Puts o at 20 (decimal s.left.relation) a x → Puts x a 21 (behind " " s.left.column) b y
      → Puts y b 21 (behind " " s.right.relation) c z → Puts z c 21 (behind " " s.right.column) r t
      → Puts o at 83 (step_text s) r t
  unfolding step_text
  step_put s f g h i =
      four_put o x y at a b 20 21 21 (decimal s.left.relation) (behind " " s.left.column) (behind " " s.right.relation) f g
      z c h 21 (behind " " s.right.column) t r i

  pub line_put : (l : Line) → Puts o at 83 (step_text l.step) a x → Puts x a 21 (behind " " l.benefit) b y
      → Puts y b 21 (behind " " l.cost) c z → Puts z c 1 (text "\n") r t → Puts o at 126 (step_line l) r t
  unfolding step_line
  line_put l f g h i =
      four_put o x y at a b 83 21 21 (step_text l.step) (behind " " l.benefit) (behind " " l.cost) f g z c h 1 (text "\n") t r i

  pub last_put : (p : Plan) (m : List ℕ) (d : ℕ) → Puts o at 25 (behind "site " p.site) a x
      → Puts x a 30 (behind " assembly " p.assembly) b y → Puts y b 27 (behind " total " p.total) c z
      → Puts z c 27 (behind " local " p.local) d m → Puts m d 1 (text "\n") r t → Puts o at 110 (last_line p) r t
  unfolding last_line
  last_put p m d f g h i j =
      both_put o m t at d r 109 1
      (behind "site " p.site ++ behind " assembly " p.assembly ++ behind " total " p.total ++ behind " local " p.local) (text "\n")
      (four_put o x y at a b 25 30 27 (behind "site " p.site) (behind " assembly " p.assembly) (behind " total " p.total) f g
      z c h 27 (behind " local " p.local) m d i) j

-- the lines of the steps, one after the other
pub lines_put : (lines : List Line) (before : List ℕ) (at i p : ℕ) (out : List ℕ)
    → Writing step_line 126 lines before at (length lines) i p out → length lines ≤ i → length lines ≤ 156
    → Puts before at 19656 (each step_line lines) p out
lines_put lines before at i p out w h few =
    let e : take (length lines) lines ≡ lines = take_all (length lines) lines (omega arith) in (
      putting_place step_line lines before at (length lines) i p out w.putting h ∙ ap (λ (l : List Line). at + length (each step_line l)) e,
      putting_done step_line lines before at (length lines) i p out w.putting h ∙ ap (λ (l : List Line). sets before at (each step_line l)) e,
      omega (arith, w.near, w.putting.within),
    )

module _ (o x y t : List ℕ) (a b r : ℕ) where
  pub refusal_put : (number position : ℕ) → Puts o 0 28 (behind "refused " number) a x → Puts x a 21 (behind " " position) b y
      → Puts y b 1 (text "\n") r t → Puts o 0 50 (refused_line number position) r t
  unfolding refused_line
  refusal_put number position u g h =
      three_put o x y 0 a b 28 21 1 (behind "refused " number) (behind " " position) (text "\n") u g t r h

  pub plan_put : (p : Plan) (lines : List Line) → lines ≡ take p.count p.lines → Puts o 0 38 heading a x
      → Puts x a 19656 (each step_line lines) b y → Puts y b 110 (last_line p) r t → Puts o 0 19804 (plan_lines p) r t
  unfolding plan_lines
  plan_put p lines e f g h =
      three_put o x y 0 a b 38 19656 110 heading (each step_line (take p.count p.lines)) (last_line p) f (rw e at g) t r h

-- ---- a plan, or the refusal

module _ (o t : List ℕ) (r : ℕ) (a : Result Plan (ℕ × ℕ)) where
  pub listing_taken : (f : Plan) → a ≡ Ok f → Puts o 0 19804 (plan_lines f) r t → Fronts o 19804 (listing_of a) r t
  unfolding listing_of
  listing_taken f e (p, q, u) = rw e (p ∙ zero-add (length (plan_lines f)), q, omega arith)

  pub listing_refused : (number position : ℕ) → a ≡ Err (number, position) → Puts o 0 50 (refused_line number position) r t
      → Fronts o 19804 (listing_of a) r t
  unfolding listing_of
  listing_refused number position e (p, q, u) = rw e (p ∙ zero-add (length (refused_line number position)), q, omega arith)

-- what is listed of a plan with its refusal's number is its listing
pub numbered_listing : (p : Result Plan Refusal) → listing_of (numbered p) ≡ listing p
unfolding listing_of numbered listing
numbered_listing (Ok p) = refl
numbered_listing (Err x) = refl

pub listed : (p q : Result Plan Refusal) (n : Result Plan (ℕ × ℕ)) (o t : List ℕ) (r : ℕ) → p ≡ q → n ≡ numbered p
    → Fronts o 19804 (listing_of n) r t → Fronts o 19804 (listing q) r t
listed p q n o t r e g f = subst (λ (l : List ℕ). Fronts o 19804 l r t) (rw (g, e) (numbered_listing q)) f
