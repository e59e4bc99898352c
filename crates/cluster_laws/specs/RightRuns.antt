-- What a history tells of its calls: their answers are right, and their outcomes have causes.
use Rattle.std.specs.Prelude.{◌≡◌, ℕ, reverse, Some}
use Rattle.grid_event.specs.Histories.{History}
use Rattle.grid_event.specs.declared.config.Config.{Config}
use Rattle.cluster_model.specs.Rightness.{IsRight}
use Rattle.cluster_laws.specs.Laws.{HasCause}

-- with its settings, the answers of each call are right by the call's guarantee, and the outcome of each call that is answered
-- has its cause; a history without settings has no calls
pub record IsRightAndCaused (history : History) : Type 0 where
  pub right : (config : Config) → history.config ≡ Some config → (call : ℕ) → IsRight config (reverse history.events) call
  pub caused : (config : Config) → history.config ≡ Some config → (call : ℕ) → HasCause config (reverse history.events) call
