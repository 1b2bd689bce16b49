-- What the returns of the functions on messages' words cite.
use mathlib.Core.Path.{◌≡◌, refl, sym}
use mathlib.Core.Bool.{Bool, true, false, ◌&&◌}
use mathlib.Core.List.{List}
use Prim.Native.Nat.{ℕ, ◌+◌, ◌*◌, ◌-◌, ◌≤◌, ◌<◌}
use native.Mathlib.Omega.{arith}
use lib.ListN.{length, get_or}
use lib.Dec.{eqb, leb}
use borrow.Author.Tests.{lt-ltb, le-ltb, le-leb, lt-leb, ne_eqb}
use Rattle.ends.specs.Messages.{about_of, counted}
use Rattle.ends.specs.declared.messages.About.TheVariants.{Step, Rows, Nothing}
use Rattle.ends.proofs.MessageLaws.{about_step, about_between, about_past}

module _ (steps relations second : ℕ) where
  pub speaks_step : second < steps → Step second ≡ about_of steps relations second
  speaks_step h = sym (about_step steps relations second h)

  module _ (s : steps ≤ second) where
    pub speaks_between : second < 256 → Nothing ≡ about_of steps relations second
    speaks_between h = sym (about_between steps relations second s h)

    module _ (b : 256 ≤ second) where
      pub speaks_rows : second - 256 < relations → Rows (second - 256) ≡ about_of steps relations second
      unfolding about_of
      speaks_rows h =
          let d : second < 256 + relations = omega arith in
          sym (rw (le-ltb second steps s, le-leb 256 second b, lt-ltb second (256 + relations) d))

      pub speaks_past : relations ≤ second - 256 → Nothing ≡ about_of steps relations second
      speaks_past h = sym (about_past steps relations second s (omega arith))

and_false : (a b : Bool) → b ≡ false → false ≡ (a && b)
and_false true b t = sym t
and_false false b t = refl

module _ (k : ℕ) (m : List ℕ) where
  pub counted_short : length m < 3 → false ≡ counted k m
  unfolding counted
  counted_short h = and_false (leb (get_or m 2 0) 4096) (eqb (length m) (3 + get_or m 2 0 * k)) (ne_eqb (length m) (3 + get_or m 2 0 * k) (λ e. omega arith))

  pub counted_over : 4096 < get_or m 2 0 → false ≡ counted k m
  unfolding counted
  counted_over h = sym (rw (lt-leb (get_or m 2 0) 4096 h))

  pub counted_whole : get_or m 2 0 ≤ 4096 → eqb (length m) (3 + get_or m 2 0 * k) ≡ counted k m
  unfolding counted
  counted_whole h = sym (rw (le-leb (get_or m 2 0) 4096 h))
