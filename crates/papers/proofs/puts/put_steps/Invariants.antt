use lib.ListN.{length}
use Rattle.paths.specs.Steps.{step_bytes}
use Rattle.ground.proofs.WritingLaws.{Writing}
use Rattle.papers.proofs.puts.put_steps.Given as goal

abbrev pub invariant-loop-step : goal.invariant-loop-step
invariant-loop-step l = Writing step_bytes 4 l.steps l.initial.out l.at (length l.steps) l.step-index l.end l.out
