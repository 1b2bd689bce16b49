-- The refusals of a call: tests in order, each with its reason and what goes with it, and then the effect. And what tests
-- that several calls begin with say alone.
use Rattle.std.specs.Prelude.{Bool, List, [], ◌∷◌, ℕ}
use Rattle.ground.specs.Tests.{pick}
use Rattle.ground.specs.Outcome.{Outcome, Verdict, verdict_of}
use Rattle.ground.specs.Outcome.Outcome.{good, bad}
use Rattle.ground.specs.declared.refusals.Reason.{Reason}

pub record Test : Type 0 where
  pub fails : Bool
  pub reason : Reason
  pub position : ℕ

abbrev pub test : Bool → Reason → ℕ → Test
test fails reason position = record { fails = fails; reason = reason; position = position }

-- the first test that fails refuses; where none does, what comes after
abbrev pub judged : {A : Type 0} → List Test → Outcome A → Outcome A
judged [] o = o
judged (t ∷ ts) o = pick t.fails (bad t.reason t.position) (judged ts o)

-- such tests alone
unfoldable pub judgement : List Test → Verdict
judgement ts = verdict_of (judged ts (good (tt {0}) 0))
