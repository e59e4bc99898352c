-- Each event was chosen, and a chosen event may happen.
use Rattle.step_run.proofs.Kept.{run_of-is_run}
use Rattle.step_run.proofs.laws.stepped_runs_are_runs.Goals as goal

pub returns : goal.returns
returns c = run_of-is_run
