-- Laws of tests: what two tests joined say of each, and when two tests are one.
use mathlib.Core.Path.{◌≡◌, refl, sym}
use mathlib.Core.Bool.{Bool, true, false, ◌&&◌, ◌||◌, false≢true}
use mathlib.Core.Logic.{◌⊎◌, inl, inr}

pub and_left : (a b : Bool) → (a && b) ≡ true → a ≡ true
and_left true b t = refl
and_left false b t = t

pub and_right : (a b : Bool) → (a && b) ≡ true → b ≡ true
and_right true b t = t
and_right false b t = absurd (false≢true t)

pub and_both : {a b : Bool} → a ≡ true → b ≡ true → (a && b) ≡ true
and_both s t = rw (s, t)

pub or_cases : (a b : Bool) → (a || b) ≡ true → (a ≡ true) ⊎ (b ≡ true)
or_cases true b t = inl refl
or_cases false b t = inr t

pub or_left : {a : Bool} (b : Bool) → a ≡ true → (a || b) ≡ true
or_left b t = rw t

pub or_right : (a : Bool) {b : Bool} → b ≡ true → (a || b) ≡ true
or_right true t = refl
or_right false t = t

pub or_none : (a b : Bool) → (a || b) ≡ false → (a ≡ false) × (b ≡ false)
or_none true b t = absurd (false≢true (sym t))
or_none false b t = (refl, t)

-- two tests that imply one another are equal
pub same_test : (a b : Bool) → (a ≡ true → b ≡ true) → (b ≡ true → a ≡ true) → a ≡ b
same_test true b f g = sym (f refl)
same_test false true f g = g refl
same_test false false f g = refl

-- a test that cannot hold does not
pub not_holds : (a : Bool) → (a ≡ true → ⊥) → a ≡ false
not_holds true f = absurd (f refl)
not_holds false f = refl
