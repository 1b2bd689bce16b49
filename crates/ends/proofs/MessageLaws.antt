-- The laws of messages: what is made is understood as what it was.
use mathlib.Core.Path.{◌≡◌, refl, ap, sym, ◌∙◌}
use mathlib.Core.Bool.{Bool, true, false, ◌&&◌}
use mathlib.Core.List.{List, [], ◌∷◌}
use Prim.Native.Nat.{ℕ, ◌+◌, ◌*◌, ◌-◌, ◌≤◌, ◌<◌}
use native.Mathlib.Nat.{zero-mul, suc-mul}
use native.Mathlib.Omega.{arith}
use lib.ListN.{length, length-append}
use lib.Seq.{take_at, drop_at}
use lib.Dec.{ltb, leb}
use borrow.Author.Tests.{lt-ltb, le-ltb, le-leb, lt-leb, eq-eqb, ltb-true, leb-true}
use Rattle.ground.specs.Tests.{pick}
use Rattle.ground.specs.Lists.{Every}
use Rattle.ground.proofs.OutcomeLaws.{never}
use Rattle.ground.proofs.TestLaws.{and_left, and_right, and_both}
use Rattle.paths.specs.Meaning.{Row, Table, rows_in, words_of_rows}
use Rattle.tables.specs.Rising.{is_rising}
use Rattle.ends.specs.Messages.{front_length, value_message, row_message, run_of, second_of, body_of, about_of, counted, sound_values, rows_of}
use Rattle.ends.specs.declared.messages.About.TheVariants.{Step, Rows, Nothing}

-- ---- what the second word speaks of

pub about_step : (steps relations n : ℕ) → n < steps → about_of steps relations n ≡ Step n
unfolding about_of
about_step steps relations n h = rw (lt-ltb n steps h)

pub about_rows : (steps relations r : ℕ) → steps ≤ 256 → r < relations → about_of steps relations (256 + r) ≡ Rows r
unfolding about_of
about_rows steps relations r s h =
    let a : steps ≤ 256 + r = omega arith in
    let b : 256 ≤ 256 + r = omega arith in
    let d : 256 + r < 256 + relations = omega arith in
    let f : 256 + r - 256 ≡ r = omega arith in
    rw (le-ltb (256 + r) steps a, le-leb 256 (256 + r) b, lt-ltb (256 + r) (256 + relations) d, f)

pub about_between : (steps relations n : ℕ) → steps ≤ n → n < 256 → about_of steps relations n ≡ Nothing
unfolding about_of
about_between steps relations n s h = rw (le-ltb n steps s, lt-leb 256 n h)

pub about_past : (steps relations n : ℕ) → steps ≤ n → 256 + relations ≤ n → about_of steps relations n ≡ Nothing
unfolding about_of
about_past steps relations n s h =
    let b : 256 ≤ n = omega arith in
    rw (le-ltb n steps s, le-leb 256 n b, le-ltb n (256 + relations) h)

-- a step that is spoken of is one of the steps, and a relation one of the relations
module _ (steps relations second n : ℕ) where
  inner : (b : Bool) → pick b (Rows (second - 256)) Nothing ≡ Step n → ⊥
  inner true h = let z : ◌≡◌ {A = ℕ} 0 1 = cc in never z
  inner false h = let z : ◌≡◌ {A = ℕ} 0 1 = cc in never z

  pub step_below : about_of steps relations second ≡ Step n → n < steps
  unfolding about_of
  step_below h = go (ltb second steps) refl h
    where
      go : (b : Bool) → ltb second steps ≡ b
          → pick b (Step second) (pick (leb 256 second && ltb second (256 + relations)) (Rows (second - 256)) Nothing) ≡ Step n → n < steps
      go true t e = let s : second ≡ n = cc in omega (arith, ltb-true second steps t)
      go false t e = absurd (inner (leb 256 second && ltb second (256 + relations)) e)

  pub rows_below : about_of steps relations second ≡ Rows n → n < relations
  unfolding about_of
  rows_below h = go (ltb second steps) (leb 256 second && ltb second (256 + relations)) refl h
    where
      go : (b d : Bool) → (leb 256 second && ltb second (256 + relations)) ≡ d → pick b (Step second) (pick d (Rows (second - 256)) Nothing) ≡ Rows n
          → n < relations
      go true d t e = let z : ◌≡◌ {A = ℕ} 0 1 = cc in absurd (never z)
      go false false t e = let z : ◌≡◌ {A = ℕ} 0 1 = cc in absurd (never z)
      go false true t e =
          let s : second - 256 ≡ n = cc in
          omega (arith, leb-true 256 second (and_left _ _ t), ltb-true second (256 + relations) (and_right (leb 256 second) _ t))

-- ---- a value message is understood as what it was

module _ (run n : ℕ) (values : List ℕ) where
  pub value_run : run_of (value_message run n values) ≡ run
  unfolding value_message
  value_run = refl

  pub value_second : second_of (value_message run n values) ≡ n
  unfolding value_message
  value_second = refl

  pub value_front : front_length ≤ length (value_message run n values)
  unfolding value_message
  value_front = omega arith

  pub value_body : body_of (value_message run n values) ≡ values
  unfolding value_message
  value_body = refl

  pub value_counted : length values ≤ 4096 → counted 1 (value_message run n values) ≡ true
  unfolding value_message counted
  value_counted h =
      let s : 3 + length values * 1 ≡ length (run ∷ n ∷ length values ∷ values) = omega arith in
      and_both (le-leb (length values) 4096 h) (eq-eqb _ _ (sym s))

  pub value_sound : length values ≤ 4096 → is_rising values ≡ true → sound_values (value_message run n values) ≡ true
  unfolding sound_values
  value_sound h t = and_both (value_counted h) (ap is_rising value_body ∙ t)

-- ---- and so is a row message

-- rows of k words each
abbrev pub Wide : ℕ → Table → Type 0
Wide k rows = Every (λ (row : Row). length row ≡ k) rows

pub rows_long : (k : ℕ) (rows : Table) → Wide k rows → length (words_of_rows rows) ≡ length rows * k
rows_long k [] w = sym (zero-mul k)
rows_long k (row ∷ rows) w =
    length-append row (words_of_rows rows) ∙ rw (w.0, rows_long k rows w.1) (omega (arith, suc-mul (length rows) k))

pub rows_back : (k : ℕ) (rows : Table) → Wide k rows → rows_in k (length rows) (words_of_rows rows) ≡ rows
unfolding rows_in
rows_back k [] w = refl
rows_back k (row ∷ rows) w =
    let whole = words_of_rows rows in
    rw (take_at row whole k w.0, drop_at row whole k w.0, rows_back k rows w.1)

module _ (run r : ℕ) (rows : Table) where
  pub row_run : run_of (row_message run r rows) ≡ run
  unfolding row_message
  row_run = refl

  pub row_second : second_of (row_message run r rows) ≡ 256 + r
  unfolding row_message
  row_second = refl

  pub row_front : front_length ≤ length (row_message run r rows)
  unfolding row_message
  row_front = omega arith

  module _ (k : ℕ) (w : Wide k rows) where
    pub row_counted : length rows ≤ 4096 → counted k (row_message run r rows) ≡ true
    unfolding row_message counted
    row_counted h =
        let s : length (run ∷ (256 + r) ∷ length rows ∷ words_of_rows rows) ≡ 3 + length rows * k =
        omega (arith, rows_long k rows w) in
        and_both (le-leb (length rows) 4096 h) (eq-eqb _ _ s)

    pub row_rows : rows_of k (row_message run r rows) ≡ rows
    unfolding row_message rows_of
    row_rows = rows_back k rows w

-- ---- so what is made is understood as what it was

module _ (steps relations run : ℕ) where
  pub value_understood : (n : ℕ) (values : List ℕ) → n < steps → length values ≤ 4096 → is_rising values ≡ true
      → (run_of (value_message run n values) ≡ run)
      × (about_of steps relations (second_of (value_message run n values)) ≡ Step n)
      × (sound_values (value_message run n values) ≡ true)
      × (body_of (value_message run n values) ≡ values)
  value_understood n values h few rises = (
    value_run run n values,
    ap (about_of steps relations) (value_second run n values) ∙ about_step steps relations n h,
    value_sound run n values few rises,
    value_body run n values,
  )

  pub row_understood : (r k : ℕ) (rows : Table) → steps ≤ 256 → r < relations → Wide k rows → length rows ≤ 4096
      → (run_of (row_message run r rows) ≡ run)
      × (about_of steps relations (second_of (row_message run r rows)) ≡ Rows r)
      × (counted k (row_message run r rows) ≡ true)
      × (rows_of k (row_message run r rows) ≡ rows)
  row_understood r k rows few-steps h wide few = (
    row_run run r rows,
    ap (about_of steps relations) (row_second run r rows) ∙ about_rows steps relations r few-steps h,
    row_counted run r rows k wide few,
    row_rows run r rows k wide,
  )
