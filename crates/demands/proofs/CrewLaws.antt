-- What demand 3 asks of a crew can be had: with good papers and tables of their shape, stations that each have all tables are a crew.
use mathlib.Core.Path.{◌≡◌, refl}
use mathlib.Core.Bool.{true}
use mathlib.Core.List.{List}
use Prim.Native.Nat.{ℕ}
use native.Mathlib.Omega.{arith}
use lib.ListN.{length, replicate, length-replicate}
use Rattle.envelopes.specs.Fits.{Fits}
use Rattle.papers.specs.Programs.{program_bytes}
use Rattle.papers.specs.Checks.{GoodPapers}
use Rattle.papers.specs.declared.checks.Papers.{Papers}
use Rattle.papers.proofs.CheckLaws.{papers_complete}
use Rattle.tables.specs.Offsets.{row_count}
use Rattle.tables.specs.Shape.{shaped}
use Rattle.demands.specs.Link.{Crew, Allowed}

abbrev pub crew_of : Papers → ℕ → List ℕ → Crew
crew_of q run whole =
    record {
      envelope = q.envelope;
      program = q.program;
      papers = q;
      run = run;
      whole = whole;
      tables = λ _. whole;
      lent = λ _. replicate (row_count q.envelope whole) 0;
    }

pub allowed : (q : Papers) → GoodPapers q → Fits q.envelope → (run : ℕ) (whole : List ℕ) → shaped q.envelope whole ≡ true
    → Allowed (crew_of q run whole)
allowed q g fits run whole shape =
    let zero : ℕ = 0 in
    record {
      fits = fits;
      accepted = (length (program_bytes q.program), papers_complete q g);
      sizes = shape;
      shapes = λ _ _. shape;
      parts = λ _ _ _. refl;
      marks = λ _ _. omega (arith, length-replicate (row_count q.envelope whole) zero);
    }
