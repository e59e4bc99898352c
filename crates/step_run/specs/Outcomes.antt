-- What a run leaves.
use Rattle.std.specs.Prelude.{◌≡◌, ◌⊎◌, List, ◌++◌, Some, None, Result, Ok, Err}
use Rattle.grid_event.specs.declared.event.Event.{Event}
use Rattle.grid_event.specs.Histories.{History, blank}
use Rattle.cluster_model.specs.State.{State}
use Rattle.step_run.specs.StepRuns.{Progress}
use Rattle.step_run.specs.declared.run_fault.RunFault.{RunFault}
use Rattle.step_run.specs.declared.run_fault.RunFault.TheVariants.{Full, NoMemory}

-- the history has the settings of the other, and its events are the first ones of the other
pub record IsFront (history whole : History) : Type 0 where
  pub config : whole.config ≡ history.config
  pub more : List Event
  pub events : whole.events ≡ history.events ++ more

-- a run that goes on, with this cluster and this history
abbrev pub running : State → History → Progress
running state history = record { state = state; history = history; stopped = None }

-- what a part of the run leaves of what it was to do: all of it; or all of it, which stopped for a full journal; or, for
-- want of memory, a front of it
abbrev pub LeavesAt : RunFault → State → History → Progress → Type 0
LeavesAt (Full line) state history target = target ≡ record { state = state; history = history; stopped = Some line }
LeavesAt NoMemory state history target = IsFront history target.history

abbrev pub Leaves : {A : Type 0} → Result A RunFault → State → History → Progress → Type 0
Leaves (Ok value) state history target = target ≡ running state history
Leaves (Err fault) state history target = LeavesAt fault state history target

-- what a whole run leaves of the run that the script names: all of it; or all of it, which stopped for a full journal
-- at that line; or, for want of memory, nothing or a front of it
abbrev pub LeavesRun : {A : Type 0} → Result A RunFault → History → Progress → Type 0
LeavesRun (Ok value) history run = (run.stopped ≡ None) × (history ≡ run.history)
LeavesRun (Err (Full line)) history run = (run.stopped ≡ Some line) × (history ≡ run.history)
LeavesRun (Err NoMemory) history run = (history ≡ blank) ⊎ IsFront history run.history
