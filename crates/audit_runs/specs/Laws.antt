-- What is true of every run that is audited. It is proved.
use Rattle.std.specs.Prelude.{◌≡◌, true, List}
use Rattle.grid_event.specs.Configs.{is_config}
use Rattle.grid_event.specs.declared.config.Config.{Config}
use Rattle.grid_event.specs.declared.event.Event.{Event}
use Rattle.cluster_model.specs.State.{start}
use Rattle.cluster_model.specs.Step.{runs}
use Rattle.audit_clauses.specs.Faults.{AreFaultless}

-- in every run all clauses hold of each event
abbrev pub RunsAreFaultless : Type 0
RunsAreFaultless = (config : Config) (events : List Event) → is_config config ≡ true → runs (start config) events ≡ true
    → AreFaultless config events
