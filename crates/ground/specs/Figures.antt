-- A figure: what definitions give, as numbers, and what a paper says they give; and that a list of figures holds.
use Rattle.std.specs.Prelude.{◌≡◌, List, map, ℕ}

pub record Figure : Type 0 where
  pub got : List ℕ
  pub want : List ℕ

abbrev pub figure : List ℕ → List ℕ → Figure
figure g w = record { got = g; want = w }

-- every figure of a list is as its paper has it
abbrev pub Hold : List Figure → Type 0
Hold figures = map (λ (f : Figure). f.got) figures ≡ map (λ (f : Figure). f.want) figures
