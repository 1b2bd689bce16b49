-- What the types of the fields say of a step and of a program, whatever is in them.
use Rattle.std.specs.Prelude.{◌<◌, ◌≡◌, length}
use Rattle.ground.specs.Lists.{Every}
use Rattle.envelopes.specs.Fits.{PlaceFits}
use Rattle.paths.specs.declared.steps.Step.{Step}
use Rattle.papers.specs.declared.programs.Program.{Program}

pub record StepFits (t : Step) : Type 0 where
  pub left : PlaceFits t.left
  pub right : PlaceFits t.right

pub record ProgramFits (p : Program) : Type 0 where
  pub site : p.site < 256
  pub count : p.count < 256
  pub steps : Every StepFits p.steps
  pub long : length p.steps ≡ 156
