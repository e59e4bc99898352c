-- What a command has no event for any more is done.
use Rattle.step_run.proofs.Finishing.{run_of-finished}
use Rattle.step_run.proofs.laws.unstopped_runs_finish.Goals as goal

pub returns : goal.returns
returns c = run_of-finished
