-- What the loops that write the rows of a row message hold, and what its returns cite.
use mathlib.Core.Path.{◌≡◌, refl, ap, sym, ◌∙◌}
use mathlib.Core.Bool.{Bool, true, false}
use mathlib.Core.List.{List, [], ◌∷◌, ◌++◌, map, append-nil}
use Prim.Native.Nat.{ℕ, ◌+◌, ◌*◌, ◌≤◌, ◌<◌}
use native.Mathlib.Nat.{mul-le-mul_right, suc-mul, zero-mul, add-zero, add_assoc}
use native.Mathlib.Numerals.{add-one}
use native.Mathlib.Omega.{arith}
use lib.ListN.{length, get_or, set, length-append, length-map}
use lib.Seq.{sets, length-sets, take_all}
use Rattle.ground.specs.Lists.{filter, below, numbers_from, each}
use Rattle.ground.proofs.ListLaws.{each_append, each_map, filter_length, get_d_map}
use Rattle.ground.proofs.NumbersLaws.{below_length, filter_below}
use Rattle.ground.proofs.PuttingLaws.{sets_append, Copying, copying_start, copying_more, copying_done}
use Rattle.contents.specs.Kept.{kept_columns}
use Rattle.contents.specs.declared.envelope.Envelope.{Envelope}
use Rattle.paths.specs.Meaning.{Row, word_in}
use Rattle.tables.specs.Offsets.{count_in}
use Rattle.tables.specs.Rows.{word_over, kept_over, row_of, kept_at}
use Rattle.tables.specs.declared.offsets.Extent.{Extent}
use Rattle.tables.proofs.RowLaws.{kept_are}
use Rattle.ends.specs.Messages.{row_message}
use Rattle.station.specs.Making.{sent_rows}
use Rattle.ground.proofs.CountingLaws.{Counting, counting_yes, counting_no, counting_less}

-- ---- counting the kept rows

module _ (f : ℕ → Bool) (n i count : ℕ) (c : Counting f n i count) (h : i < n) (b : Bool) (e : b ≡ f i) where
  pub kept_counted : b ≡ true → (after : ℕ) → after ≡ count + 1 → Counting f n (i + 1) after
  kept_counted t after s = rw s (counting_yes f n i count c h (sym e ∙ t))

  pub kept_passed : b ≡ false → (after : ℕ) → after ≡ count → Counting f n (i + 1) after
  kept_passed t after s = rw s (counting_no f n i count c h (sym e ∙ t))

-- ---- the words of one row

module _ (f : ℕ → ℕ) (numbers : List ℕ) (before : List ℕ) (at : ℕ) where
  abbrev columns : List ℕ
  columns = map f numbers

  all_of : length columns ≡ length numbers
  all_of = length-map numbers f

  pub row_start : Copying columns before at (length numbers) 0 (at + 0) before
  row_start = rw (add-zero at) (copying_start columns before at (length numbers) (omega (arith, all_of)))

  module _ (i : ℕ) (out : List ℕ) (c : Copying columns before at (length numbers) i (at + i) out) where
    pub row_more : i < length numbers → (w : ℕ) → w ≡ f (get_or numbers i 0)
        → Copying columns before at (length numbers) (i + 1) (at + (i + 1)) (set out (at + i) w)
    row_more h w g =
        rw (g ∙ sym (get_d_map f numbers i 0 0 h), ← add_assoc at i 1) (copying_more columns before at (length numbers) i (at + i) out c 0 h)

    pub row_done : length numbers ≤ i → out ≡ sets before at columns
    row_done h =
        copying_done columns before at (length numbers) i (at + i) out c h ∙ ap (sets before at) (take_all (length numbers) columns (omega (arith, all_of)))

-- ---- the words of every kept row: f tells those that are kept, words has k words for each

pub record Sending (f : ℕ → Bool) (words : ℕ → List ℕ) (k n : ℕ) (before : List ℕ) (i at : ℕ) (out : List ℕ) : Type 0 where
  pub within : i ≤ n
  pub place : at ≡ 3 + length (filter f (below i)) * k
  pub same : out ≡ sets before 3 (each words (filter f (below i)))

words_long : (words : ℕ → List ℕ) (k : ℕ) → ((i : ℕ) → length (words i) ≡ k) → (l : List ℕ) → length (each words l) ≡ length l * k
words_long words k w [] = sym (zero-mul k)
words_long words k w (i ∷ l) = length-append (words i) (each words l) ∙ rw (w i, words_long words k w l) (omega (arith, suc-mul (length l) k))

module _ (f : ℕ → Bool) (words : ℕ → List ℕ) (k : ℕ) (w : (i : ℕ) → length (words i) ≡ k) (n : ℕ) (before : List ℕ) where
  pub sending_start : Sending f words k n before 0 3 before
  unfolding numbers_from
  sending_start = record { within = omega arith; place = omega (arith, zero-mul k); same = refl }

  module _ (i at : ℕ) (out : List ℕ) (c : Sending f words k n before i at out) where
    pub sending_long : length out ≡ length before
    sending_long = ap (λ (l : List ℕ). length l) c.same ∙ length-sets before 3 (each words (filter f (below i)))

    pub sending_done : n ≤ i → out ≡ sets before 3 (each words (filter f (below n)))
    sending_done h = let e : i ≡ n = omega (arith, c.within) in rw e at c.same

    module _ (h : i < n) (b : Bool) (e : b ≡ f i) where
      pub sending_room : b ≡ true → 3 + length (filter f (below n)) * k ≤ length before → at + k ≤ length out
      sending_room t r =
          let less : length (filter f (below i)) < length (filter f (below n)) =
          counting_less f n i (length (filter f (below i))) (record { within = c.within; counted = refl }) h (sym e ∙ t) in
          let more : (length (filter f (below i)) + 1) * k ≤ length (filter f (below n)) * k = mul-le-mul_right k (omega arith) in
          omega (arith, more, suc-mul (length (filter f (below i))) k, ap (λ j. j * k) (add-one (length (filter f (below i)))), c.place, sending_long)

      pub sending_yes : b ≡ true → (after : List ℕ) → after ≡ sets out at (words i) → (next : ℕ) → next ≡ at + k → Sending f words k n before (i + 1) next after
      sending_yes t after s next g =
          let l = filter f (below i) in
          let more : filter f (below (i + 1)) ≡ l ++ (i ∷ []) = filter_below f i ∙ rw (sym e ∙ t) in
          let long : length (each words l) ≡ length l * k = words_long words k w l in
          let there : 3 + length (each words l) ≡ at = omega (arith, c.place) in
          record {
            within = omega arith;
            place =
                rw more
                (omega (arith, g, c.place, length-append l (i ∷ []), suc-mul (length l) k, ap (λ j. j * k) (add-one (length l)), ap (λ j. j * k) (length-append l (i ∷ []))));
            same =
                s
                ∙ ap (λ (m : List ℕ). sets m at (words i)) c.same
                ∙ sym
                (ap (λ (m : List ℕ). sets before 3 (each words m)) more
                ∙ ap (sets before 3) (each_append words l (i ∷ []))
                ∙ sets_append before 3 (each words l) (each words (i ∷ []))
                ∙ rw (there, append-nil (words i)));
          }

      pub sending_no : b ≡ false → (after : List ℕ) → after ≡ out → (next : ℕ) → next ≡ at → Sending f words k n before (i + 1) next after
      sending_no t after s next g =
          let l = filter f (below i) in
          let more : filter f (below (i + 1)) ≡ l = filter_below f i ∙ rw (sym e ∙ t) (append-nil l) in
          record { within = omega arith; place = rw more (g ∙ c.place); same = rw more (s ∙ c.same) }

-- ---- the message

module _ (e : Envelope) (words marks : List ℕ) (r : ℕ) where
  abbrev pub chosen : List ℕ
  chosen = filter (kept_at e words marks r) (below (count_in e words r))

  abbrev pub row_words : ℕ → List ℕ
  row_words i = map (word_in (row_of e words r i)) (kept_columns e r)

  pub chosen_few : length chosen ≤ count_in e words r
  chosen_few = omega (arith, filter_length (kept_at e words marks r) (below (count_in e words r)), below_length (count_in e words r))

  pub sent_by : sent_rows e words marks r ≡ map row_words chosen
  unfolding sent_rows
  sent_by =
      ap (map (λ (row : Row). map (word_in row) (kept_columns e r))) (kept_are e words marks r)
      ∙ map_map chosen
    where
      map_map : (l : List ℕ) → map (λ (row : Row). map (word_in row) (kept_columns e r)) (map (row_of e words r) l) ≡ map row_words l
      map_map [] = refl
      map_map (x ∷ l) = rw (map_map l)

  pub message_is : (run : ℕ) → row_message run r (sent_rows e words marks r) ≡ run ∷ (256 + r) ∷ length chosen ∷ each row_words chosen
  unfolding row_message
  message_is run =
      rw sent_by (rw (length-map chosen row_words, each_map row_words (λ (row : Row). row) chosen))

  pub row_width : (i : ℕ) → length (row_words i) ≡ length (kept_columns e r)
  row_width i = length-map (kept_columns e r) (word_in (row_of e words r i))

  pub message_long : (run : ℕ) → length (row_message run r (sent_rows e words marks r)) ≡ 3 + length chosen * length (kept_columns e r)
  message_long run =
      ap (λ (l : List ℕ). length l) (message_is run) ∙ rw (words_long row_words (length (kept_columns e r)) row_width chosen) (omega arith)

-- ---- the loop over a relation's rows

module _ (x : Extent) (words marks numbers : List ℕ) (before : List ℕ) where
  abbrev width_sent : ℕ
  width_sent = length numbers

  abbrev shipped : ℕ → List ℕ
  shipped i = map (word_over x words i) numbers

  pub record Shipping (i at : ℕ) (out : List ℕ) : Type 0 where
    pub sending : Sending (kept_over x marks) shipped width_sent x.rows before i at out

  same_width : (i : ℕ) → length (shipped i) ≡ width_sent
  same_width i = length-map numbers (word_over x words i)

  pub shipping_start : Shipping 0 3 before
  shipping_start = record { sending = sending_start (kept_over x marks) shipped width_sent same_width x.rows before }

  module _ (i at : ℕ) (out : List ℕ) (c : Shipping i at out) where
    pub shipping_done : x.rows ≤ i → out ≡ sets before 3 (each shipped (filter (kept_over x marks) (below x.rows)))
    shipping_done h = sending_done (kept_over x marks) shipped width_sent same_width x.rows before i at out c.sending h

    pub shipping_long : length out ≡ length before
    shipping_long = sending_long (kept_over x marks) shipped width_sent same_width x.rows before i at out c.sending

    module _ (h : i < x.rows) (b : Bool) (e : b ≡ kept_over x marks i) where
      pub shipping_room : b ≡ true → 3 + length (filter (kept_over x marks) (below x.rows)) * width_sent ≤ length before
          → at + width_sent ≤ length out
      shipping_room t r = sending_room (kept_over x marks) shipped width_sent same_width x.rows before i at out c.sending h b e t r

      pub shipping_fits : b ≡ true → 3 + length (filter (kept_over x marks) (below x.rows)) * width_sent ≤ length before
          → at + width_sent ≤ length before
      shipping_fits t r = omega (arith, shipping_room t r, shipping_long)

      pub shipping_yes : b ≡ true → (after put : List ℕ) → after ≡ put → put ≡ sets out at (shipped i) → (next : ℕ)
          → next ≡ at + width_sent → Shipping (i + 1) next after
      shipping_yes t after put s r next p =
          record {
            sending =
                sending_yes (kept_over x marks) shipped width_sent same_width x.rows before i at out c.sending h b e t after (s ∙ r) next p;
          }

      pub shipping_no : b ≡ false → (after : List ℕ) → after ≡ out → (next : ℕ) → next ≡ at → Shipping (i + 1) next after
      shipping_no t after s next p =
          record {
            sending = sending_no (kept_over x marks) shipped width_sent same_width x.rows before i at out c.sending h b e t after s next p;
          }
