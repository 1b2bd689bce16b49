-- The shape of tables, computed from the definition: every way to be wrong, each beside one that is right; and its limits. "True rows
-- at most 4,096 per relation, all tables together at most 16,384 words, row counts included."
use mathlib.Core.Path.{◌≡◌, refl}
use mathlib.Core.Bool.{true, false}
use mathlib.Core.List.{List, [], ◌∷◌, map}
use Prim.Native.Nat.{ℕ}
use lib.ListN.{length, replicate}
use Rattle.ground.specs.Tests.{pick}
use Rattle.ground.specs.Lists.{numbers_from, padded}
use Rattle.ground.specs.Figures.{Figure, figure, Hold}
use Rattle.entries.specs.Relations.{relation_with}
use Rattle.entries.specs.declared.relations.Column.{Column}
use Rattle.contents.specs.Parts.{relations_of, columns_in, no_envelope, with_relations}
use Rattle.contents.specs.declared.envelope.Envelope.{Envelope}
use Rattle.tables.specs.Offsets.{count_in, words_before, first_word}
use Rattle.tables.specs.Shape.{shaped}

abbrev column : Column
column = record { domain = 0; width = 1; distinct = 1 }

-- one relation of one column; one of eight; four of one; the second of two has three
abbrev one : Envelope
one = with_relations (relation_with 0 1 1 (column ∷ []) ∷ []) no_envelope

abbrev wide : Envelope
wide = with_relations (relation_with 0 8 1 (column ∷ column ∷ column ∷ column ∷ column ∷ column ∷ column ∷ column ∷ []) ∷ []) no_envelope

abbrev four : Envelope
four = with_relations (replicate 4 (relation_with 0 1 1 (column ∷ []))) no_envelope

abbrev two : Envelope
two = with_relations (relation_with 0 1 1 (column ∷ []) ∷ relation_with 0 3 1 (column ∷ column ∷ column ∷ []) ∷ []) no_envelope

-- 1 for each that is of the shape, 0 for each that is not
abbrev told : Envelope → List (List ℕ) → List ℕ
told e all = map (λ (words : List ℕ). pick (shaped e words) 1 0) all

abbrev pub examples : List Figure
examples =
    -- as many words as the counts say; fewer; one left over; too few for the counts; none
    figure (told two ((2 ∷ 1 ∷ 5 ∷ 6 ∷ 7 ∷ 8 ∷ 9 ∷ []) ∷ (2 ∷ 1 ∷ 5 ∷ 6 ∷ 7 ∷ 8 ∷ []) ∷ (2 ∷ 1 ∷ 5 ∷ 6 ∷ 7 ∷ 8 ∷ 9 ∷ 9 ∷ []) ∷ (2 ∷ []) ∷ [] ∷ []))
    (1 ∷ 0 ∷ 0 ∷ 0 ∷ 0 ∷ [])
    -- no rows at all
    ∷ figure (told two ((0 ∷ 0 ∷ []) ∷ [])) (1 ∷ [])
    -- a count whose product with the columns would be 0, or 8, in 32 bits
    ∷ figure (told wide ((536870912 ∷ []) ∷ (536870913 ∷ replicate 8 7) ∷ (1 ∷ replicate 8 7) ∷ [])) (0 ∷ 0 ∷ 1 ∷ [])
    ∷ []

pub examples_hold : Hold examples
unfolding padded numbers_from relations_of columns_in with_relations count_in words_before first_word shaped
examples_hold = refl

-- 4,096 rows pass, 4,097 do not, whatever the words are
module _ (rest : List ℕ) where
  pub rows_limit : length rest ≡ 4096 → shaped one (4096 ∷ rest) ≡ true
  unfolding padded numbers_from relations_of columns_in with_relations count_in words_before first_word shaped
  rows_limit h = rw h refl

  pub rows_too_many : shaped one (4097 ∷ rest) ≡ false
  unfolding padded numbers_from relations_of columns_in with_relations count_in words_before first_word shaped
  rows_too_many = refl

  -- 16,384 words pass, 16,385 do not
  pub words_limit : length rest ≡ 16380 → shaped four (4095 ∷ 4095 ∷ 4095 ∷ 4095 ∷ rest) ≡ true
  unfolding padded numbers_from relations_of columns_in with_relations count_in words_before first_word shaped
  words_limit h = rw h refl

  pub words_over_lem : length rest ≡ 16381 → shaped four (4096 ∷ 4095 ∷ 4095 ∷ 4095 ∷ rest) ≡ false
  unfolding padded numbers_from relations_of columns_in with_relations count_in words_before first_word shaped
  words_over_lem h = rw h refl
