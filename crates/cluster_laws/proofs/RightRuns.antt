-- In a run whose settings are in their limits all calls are right and caused.
use Rattle.std.proofs.Common.{◌≡◌, true, Option, Some, ap, sym, ◌∙◌}
use Rattle.grid_event.specs.Configs.{is_config}
use Rattle.grid_event.specs.Histories.{History}
use Rattle.grid_event.specs.declared.config.Config.{Config}
use Rattle.cluster_model.specs.State.{start}
use Rattle.cluster_model.specs.Step.{is_run, is_run_of, runs}
use Rattle.cluster_laws.proofs.answers.AnswerRuns.{calls_right}
use Rattle.cluster_laws.proofs.causes.CauseRuns.{all_caused}
use Rattle.cluster_laws.specs.RightRuns.{IsRightAndCaused}

-- the settings of a history, where it has some, are in their limits
abbrev pub HasLimits : History → Type 0
HasLimits history = (config : Config) → history.config ≡ Some config → is_config config ≡ true

-- a run with such settings is right and caused
pub right_run : (history : History) → HasLimits history → is_run history ≡ true → IsRightAndCaused history
right_run history limits run = record {
  right = λ config is. calls_right config history.events (limits config is) (steps config is);
  caused = λ config is. all_caused config history.events (limits config is) (steps config is);
}
  where
    steps : (config : Config) → history.config ≡ Some config → runs (start config) history.events ≡ true
    steps config is = ap (λ (c : Option Config). is_run_of c history.events) (sym is) ∙ run
