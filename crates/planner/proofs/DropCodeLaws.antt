-- The laws that the code of drops goes by: what holds at the head of the loop that drops, and what each return answers.
use mathlib.Core.Path.{◌≡◌, refl, sym, ap, ◌∙◌}
use mathlib.Core.Bool.{true, not}
use mathlib.Core.List.{List, ◌∷◌}
use Prim.Native.Nat.{ℕ, ◌+◌, ◌≤◌, ◌<◌}
use native.Mathlib.Numerals.{add-one}
use native.Mathlib.Omega.{arith}
use borrow.Author.Tests.{lt-ltb, le-ltb}
use lib.ListN.{length, get_or, take, drop, length-map, drop_of_length-le}
use lib.Seq.{drop-cons}
use lib.Dec.{eqb}
use Rattle.ground.specs.Lists.{Every, below}
use Rattle.ground.proofs.CollectingLaws.{padded_take}
use Rattle.ground.proofs.EveryLaws.{every_of, every_mapped, every_map, every_filter, every_get_d}
use Rattle.ground.proofs.ListLaws.{filter_length}
use Rattle.ground.proofs.NumbersLaws.{below_length, below_from}
use Rattle.contents.specs.Sites.{holds}
use Rattle.contents.specs.declared.envelope.Envelope.{Envelope}
use Rattle.paths.specs.Steps.{legal}
use Rattle.papers.specs.Programs.{no_step, steps_of, program_with, Acceptable}
use Rattle.paths.specs.declared.steps.Step.{Step}
use Rattle.papers.specs.declared.programs.Program.{Program}
use Rattle.estimates.specs.Profile.{local_profile}
use Rattle.estimates.specs.Kind.{Kind, total}
use Rattle.planner.specs.Choice.{but_for, steps_at, dropped}
use Rattle.estimates.specs.Estimate.{kind_of}
use Rattle.estimates.specs.declared.costs.Costs.{Costs}
use Rattle.planner.specs.Few.{shown_few}
use Rattle.planner.specs.declared.few.Few.{Few}
use Rattle.planner.proofs.FewLaws.{few_used}
use Rattle.planner.proofs.DropLaws.{steps_all}
use Rattle.estimates.proofs.EstimateLaws.{lines_costs, estimated_whole}
use Rattle.planner.proofs.OrderCodeLaws.{lines_order}
use Rattle.estimates.specs.declared.lines.Estimate.{Estimate}
use Rattle.contents.specs.Sites.{is_at}
use Rattle.planner.specs.Choice.{dearest_first}
use Rattle.estimates.specs.Kind.{costs}
use Rattle.estimates.specs.Estimate.{no_line, lines_of, costs_in, estimated}
use Rattle.planner.specs.Plan.{drops_at}
use Rattle.ground.specs.Lists.{padded, filter}

-- ---- numbers and programs, as the code hands them on

module _ (e : Envelope) (site : ℕ) (ss : List Step) where
  pub with_steps : steps_of (program_with site ss) ≡ ss
  unfolding steps_of
  with_steps = padded_take 156 no_step ss

  pub with_acceptable : holds e site ≡ true → length ss ≤ 156 → Every (λ (s : Step). legal e s ≡ true) ss → Acceptable e (program_with site ss)
  with_acceptable h few all =
      record { site = h; count = few; steps = rw with_steps all; whole = ap length with_steps }

-- the steps of numbers of a program are legal
numbers_legal : (e : Envelope) (f : Program) → Acceptable e f → (l : List ℕ) → Every (λ (j : ℕ). j < f.count) l
    → Every (λ (s : Step). legal e s ≡ true) (steps_at no_step (steps_of f) l)
numbers_legal e f a l h =
    every_mapped (λ (s : Step). legal e s ≡ true) (λ (j : ℕ). get_or (steps_of f) j no_step) l
    (every_map _ _ l (λ (j : ℕ) k. let m : j < f.count = k in
    every_get_d (λ (s : Step). legal e s ≡ true) (steps_of f) j no_step (omega (arith, a.whole)) a.steps) h)

-- ---- one number more

module _ {P S : Type 0} (k : Kind P S) (p : P) (site : ℕ) (steps : List ℕ → List S) (i : ℕ) (order kept : List ℕ) where
  one_dropped : total k p site (steps (but_for i kept)) < total k p site (steps kept)
      → dropped k p site steps (i ∷ order) kept ≡ dropped k p site steps order (but_for i kept)
  one_dropped h = rw (lt-ltb _ _ h)

  one_kept : total k p site (steps kept) ≤ total k p site (steps (but_for i kept))
      → dropped k p site steps (i ∷ order) kept ≡ dropped k p site steps order kept
  one_kept h = rw (le-ltb _ _ h)

-- ---- the loop that drops: of some numbers i are looked at; some steps are left, and the total of those is now

pub record Dropping (k : Costs) (e : Envelope) (f : Program) (order : List ℕ) (i : ℕ) (kept : Few ℕ) (now : ℕ) : Type 0 where
  pub within : i ≤ length order
  pub left : List ℕ
  pub held : kept ≡ shown_few 0 left
  pub inside : Every (λ (j : ℕ). j < f.count) left
  pub few : length left ≤ 156
  pub same : dropped (kind_of k e) (local_profile e) f.site (steps_at no_step (steps_of f)) order (below f.count)
      ≡ dropped (kind_of k e) (local_profile e) f.site (steps_at no_step (steps_of f)) (drop i order) left
  pub cost : now ≡ total (kind_of k e) (local_profile e) f.site (steps_at no_step (steps_of f) left)

module _ (k : Costs) (e : Envelope) (f : Program) (a : Acceptable e f) (order : List ℕ) where
  abbrev total_of : List ℕ → ℕ
  total_of l = total (kind_of k e) (local_profile e) f.site (steps_at no_step (steps_of f) l)

  abbrev dropped_from : List ℕ → List ℕ → List ℕ
  dropped_from l kept = dropped (kind_of k e) (local_profile e) f.site (steps_at no_step (steps_of f)) l kept

  pub dropping_start : (kept : Few ℕ) → kept ≡ shown_few 0 (below f.count) → (now : ℕ)
      → now ≡ total (kind_of k e) (local_profile e) f.site (steps_of f) → Dropping k e f order 0 kept now
  dropping_start kept u now g =
      let m : steps_at no_step (steps_of f) (below f.count) ≡ steps_of f =
      ap (λ (j : ℕ). steps_at no_step (steps_of f) (below j)) (sym a.whole) ∙ steps_all no_step (steps_of f) in
      record {
        within = omega arith;
        left = below f.count;
        held = u;
        inside = every_of _ (below f.count) (λ j h. below_from f.count h);
        few = omega (arith, below_length f.count, a.count);
        same = refl;
        cost = rw m g;
      }

  module _ (ss : List Step) (whole : ss ≡ take f.count f.steps) (i : ℕ) (kept : Few ℕ) (now : ℕ) (g : Dropping k e f order i kept now)
      (l : List ℕ) (t : l ≡ take kept.count kept.all) where
    kept_is : l ≡ g.left
    kept_is = t ∙ few_used 0 g.left kept g.held

    pub kept_few : length l ≤ 156
    kept_few = omega (arith, ap length kept_is, g.few)

    abbrev less : List ℕ
    less = but_for (get_or order i 0) g.left

    -- the program without the step that is looked at
    module _ (fewer : Few ℕ) (u : fewer ≡ shown_few 0 (but_for (get_or order i 0) l)) where
      fewer_is : fewer ≡ shown_few 0 less
      fewer_is = u ∙ ap (λ (m : List ℕ). shown_few 0 (but_for (get_or order i 0) m)) kept_is

      less_few : length less ≤ 156
      less_few = omega (arith, filter_length (λ j. not (eqb (get_or order i 0) j)) g.left, g.few)

      module _ (m : List ℕ) (q : m ≡ take fewer.count fewer.all) where
        less_is : m ≡ less
        less_is = q ∙ few_used 0 less fewer fewer_is

        pub fewer_few : length m ≤ 156
        fewer_few = omega (arith, ap length less_is, less_few)

        module _ (shorter : Program) (v : shorter ≡ program_with f.site (steps_at no_step ss m)) where
          shorter_is : shorter ≡ program_with f.site (steps_at no_step (steps_of f) less)
          unfolding steps_of
          shorter_is = v ∙ rw (whole, less_is)

          less_inside : Every (λ (j : ℕ). j < f.count) less
          less_inside = every_filter (λ (j : ℕ). j < f.count) (λ j. not (eqb (get_or order i 0) j)) g.left g.inside

          pub shorter_acceptable : Acceptable e shorter
          shorter_acceptable =
              rw shorter_is
              (with_acceptable e f.site (steps_at no_step (steps_of f) less) a.site
              (rw (length-map less (λ (j : ℕ). get_or (steps_of f) j no_step)) less_few) (numbers_legal e f a less less_inside))

          module _ (anew : Estimate) (x : anew ≡ estimated k e (steps_of shorter) shorter.site) where
            anew_is : anew.total ≡ total_of less
            anew_is =
                estimated_whole k e (steps_of shorter) shorter.site anew x
                ∙ rw (shorter_is, with_steps e f.site (steps_at no_step (steps_of f) less))

            module _ (h : i < length order) (kept' : Few ℕ) (now' : ℕ) where
              next : drop i order ≡ get_or order i 0 ∷ drop (i + 1) order
              next = drop-cons order i 0 h ∙ rw (add-one i)

              pub dropping_yes : anew.total < now → kept' ≡ fewer → now' ≡ anew.total → Dropping k e f order (i + 1) kept' now'
              dropping_yes l y z =
                  record {
                    within = omega arith;
                    left = less;
                    held = y ∙ fewer_is;
                    inside = less_inside;
                    few = less_few;
                    same =
                        g.same ∙ ap (λ (l : List ℕ). dropped_from l g.left) next
                        ∙ one_dropped (kind_of k e) (local_profile e) f.site (steps_at no_step (steps_of f)) (get_or order i 0) (drop (i + 1) order) g.left
                        (omega (arith, anew_is, g.cost));
                    cost = z ∙ anew_is;
                  }

              pub dropping_no : now ≤ anew.total → kept' ≡ kept → now' ≡ now → Dropping k e f order (i + 1) kept' now'
              dropping_no l y z =
                  record {
                    within = omega arith;
                    left = g.left;
                    held = y ∙ g.held;
                    inside = g.inside;
                    few = g.few;
                    same =
                        g.same ∙ ap (λ (l : List ℕ). dropped_from l g.left) next
                        ∙ one_kept (kind_of k e) (local_profile e) f.site (steps_at no_step (steps_of f)) (get_or order i 0) (drop (i + 1) order) g.left
                        (omega (arith, anew_is, g.cost));
                    cost = z ∙ g.cost;
                  }

    pub dropping_done : length order ≤ i → (r : Program) → r ≡ program_with f.site (steps_at no_step ss l)
        → r ≡ program_with f.site (steps_at no_step (steps_of f)
        (dropped (kind_of k e) (local_profile e) f.site (steps_at no_step (steps_of f)) order (below f.count)))
    unfolding steps_of
    dropping_done h r v =
        v ∙ rw (whole, kept_is)
        (ap (λ (l : List ℕ). program_with f.site (steps_at no_step (steps_of f) l)) (sym (g.same ∙ rw (drop_of_length-le order h))))

-- ---- drops

module _ (k : Costs) (e : Envelope) (f : Program) (a : Acceptable e f) where
  abbrev stands : List ℕ
  stands = filter (λ (i : ℕ). is_at e f.site (get_or (steps_of f) i no_step).left.relation) (below (length (steps_of f)))

  module _ (x : Estimate) (u : x ≡ estimated k e (steps_of f) f.site) where
    pub total_before : x.total ≡ total (kind_of k e) (local_profile e) f.site (steps_of f)
    total_before = estimated_whole k e (steps_of f) f.site x u

    lines_before : x.lines ≡ padded 156 no_line (lines_of k e (local_profile e) (steps_of f))
    unfolding estimated
    lines_before = rw u

    module _ (ss : List Step) (whole : ss ≡ take f.count f.steps) (there : Few ℕ)
        (v : there ≡ shown_few 0 (filter (λ (i : ℕ). is_at e f.site (get_or ss i no_step).left.relation) (below (length ss)))) where
      there_is : there ≡ shown_few 0 stands
      unfolding steps_of
      there_is = v ∙ rw whole

      module _ (order : Few ℕ)
          (w : order ≡ shown_few 0 (dearest_first (costs_in x.lines) (length (take there.count there.all)) (take there.count there.all))) where
        order_is : order ≡ shown_few 0 (dearest_first (costs (kind_of k e) (local_profile e) (steps_of f)) (length stands) stands)
        order_is =
            w ∙ ap (λ (l : List ℕ). shown_few 0 (dearest_first (costs_in x.lines) (length l) l)) (few_used 0 stands there there_is)
            ∙ ap (shown_few 0) (lines_order (lines_of k e (local_profile e) (steps_of f)) x.lines lines_before (length stands) stands)
            ∙ ap (λ (l : List ℕ). shown_few 0 (dearest_first l (length stands) stands)) (lines_costs k e (local_profile e) (steps_of f))

        pub drops_done : (l : List ℕ) → l ≡ take order.count order.all → (r : Program)
            → r ≡ program_with f.site (steps_at no_step (steps_of f)
            (dropped (kind_of k e) (local_profile e) f.site (steps_at no_step (steps_of f)) l (below f.count)))
            → r ≡ program_with f.site (drops_at k e f.site (steps_of f))
        unfolding drops_at
        drops_done l t r h =
            h ∙ ap (λ (l : List ℕ). program_with f.site (steps_at no_step (steps_of f) (dropped (kind_of k e) (local_profile e) f.site (steps_at no_step (steps_of f)) l (below f.count))))
            (t ∙ few_used 0 (dearest_first (costs (kind_of k e) (local_profile e) (steps_of f)) (length stands) stands) order order_is)
            ∙ ap (λ (n : ℕ). program_with f.site (steps_at no_step (steps_of f) (dropped (kind_of k e) (local_profile e) f.site (steps_at no_step (steps_of f)) (dearest_first (costs (kind_of k e) (local_profile e) (steps_of f)) (length stands) stands) (below n))))
            (sym a.whole)
