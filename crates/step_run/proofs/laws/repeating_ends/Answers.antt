-- Each time the journal gets an event, and it has room for so many.
use Rattle.std.proofs.Common.{arith}
use Rattle.step_run.specs.StepRuns.{ENOUGH}
use Rattle.step_run.proofs.Endings.{ends}
use Rattle.step_run.proofs.laws.repeating_ends.Goals as goal

pub returns : goal.returns
returns c = λ line command run few. ends ENOUGH line command run few (omega arith)
