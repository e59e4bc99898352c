-- What is true of every stepped run.
use Rattle.std.specs.Prelude.{◌≡◌, ℕ, ◌≤◌, ◌⊎◌, true, length, None, is_some}
use Rattle.grid_base.specs.declared.limits.TheConstants.{MOST_EVENTS}
use Rattle.grid_event.specs.declared.command.Command.{Command}
use Rattle.grid_event.specs.Configs.{is_config}
use Rattle.grid_script.specs.Scripts.{Steps}
use Rattle.cluster_model.specs.Step.{is_run}
use Rattle.cluster_model.specs.Commands.{chosen}
use Rattle.step_run.specs.Finished.{IsFinished}
use Rattle.step_run.specs.StepRuns.{ENOUGH, Progress, repeated, run_of}

-- the journal of a stepped run is a run of the cluster
abbrev pub SteppedRunsAreRuns : Type 0
SteppedRunsAreRuns = (script : Steps) → is_run (run_of script).history ≡ true

-- what is repeated ends by itself, or the journal is full
abbrev pub RepeatingEnds : Type 0
RepeatingEnds =
    (line : ℕ) (command : Command) (run : Progress) → length run.history.events ≤ MOST_EVENTS →
    (is_some (repeated ENOUGH line command run).stopped ≡ true) ⊎ (chosen (repeated ENOUGH line command run).state command ≡ None)

-- a run that nothing stopped has answered each call, and has settled the topology
abbrev pub UnstoppedRunsFinish : Type 0
UnstoppedRunsFinish = (script : Steps) → is_config script.config ≡ true → (run_of script).stopped ≡ None → IsFinished (run_of script).history
