-- The laws of writing a program: its mark, its numbers and its steps put one after the other are its bytes.
use mathlib.Core.Path.{◌≡◌, refl, subst, ◌∙◌}
use mathlib.Core.List.{List, ◌++◌, append_assoc}
use Prim.Native.Nat.{ℕ, ◌+◌}
use native.Mathlib.Numerals.{add-one, add-two, add-three}
use native.Mathlib.Omega.{arith}
use lib.ListN.{length, take}
use lib.Seq.{sets}
use Rattle.ground.specs.Lists.{each}
use Rattle.ground.specs.Bytes.{bytes_of}
use Rattle.fields.specs.Puts.{Puts, Fronts}
use Rattle.fields.proofs.PutLaws.{then_put}
use Rattle.entries.specs.Places.{place_bytes}
use Rattle.paths.specs.Steps.{step_bytes}
use Rattle.papers.specs.Programs.{SJP, steps_of, program_bytes}
use Rattle.paths.specs.declared.steps.Step.{Step}
use Rattle.papers.specs.declared.programs.Program.{Program}

pub step_long : (at : ℕ) (x : Step) → at + 4 ≡ at + length (step_bytes x)
unfolding step_bytes place_bytes bytes_of
step_long at x = refl

pub put_step : (o : List ℕ) (at : ℕ) (x : Step) (a b c d : List ℕ) → a ≡ sets o at (bytes_of 1 x.left.relation)
    → b ≡ sets a (at + 1) (bytes_of 1 x.left.column) → c ≡ sets b (at + 2) (bytes_of 1 x.right.relation)
    → d ≡ sets c (at + 3) (bytes_of 1 x.right.column) → d ≡ sets o at (step_bytes x)
unfolding step_bytes place_bytes bytes_of
put_step o at x a b c d e f g h = h ∙ simp (g, f, e, add-one, add-two, add-three)

-- a number of one byte is a part of its own
put_byte : (o m : List ℕ) (at r v : ℕ) → r ≡ at + 1 → m ≡ sets o at (bytes_of 1 v) → Puts o at 1 (bytes_of 1 v) r m
unfolding bytes_of
put_byte o m at r v h e = (h, e, omega arith)

module _ (x : Program) where
  abbrev head_part : List ℕ
  head_part = SJP ++ bytes_of 2 1

  abbrev step_part : List ℕ
  step_part = each step_bytes (take x.count x.steps)

  parts : ((head_part ++ bytes_of 1 x.site) ++ bytes_of 1 x.count) ++ step_part ≡ program_bytes x
  unfolding program_bytes steps_of
  parts = simp append_assoc

  pub put_program : (o a b c t : List ℕ) (p r : ℕ) → Fronts o 5 head_part p a → b ≡ sets a p (bytes_of 1 x.site)
      → c ≡ sets b (p + 1) (bytes_of 1 x.count) → (l : List Step) → l ≡ take x.count x.steps → Puts c (p + 2) 624 (each step_bytes l) r t
      → Fronts o 631 (program_bytes x) r t
  put_program o a b c t p r head site count l e steps =
      subst (λ (l : List ℕ). Fronts o 631 l r t) parts
      (then_put o c t (p + 2) r 7 624 ((head_part ++ bytes_of 1 x.site) ++ bytes_of 1 x.count) step_part
      (then_put o b c (p + 1) (p + 2) 6 1 (head_part ++ bytes_of 1 x.site) (bytes_of 1 x.count)
      (then_put o a b p (p + 1) 5 1 head_part (bytes_of 1 x.site) head (put_byte a b p (p + 1) x.site refl site))
      (put_byte b c (p + 1) (p + 2) x.count (omega arith) count))
      (subst (λ (k : List Step). Puts c (p + 2) 624 (each step_bytes k) r t) e steps))
