-- What the definitions are held to. Each of these is proved.
use Rattle.std.specs.Prelude.{◌≡◌, ℕ, List}
use Rattle.delivery_mode.specs.declared.guarantee.Guarantee.{Guarantee}
use Rattle.grid_event.specs.declared.config.Config.{Config}
use Rattle.grid_event.specs.declared.event.Event.{Event}
use Rattle.cluster_model.specs.Guarantees.{Keeps}
use Rattle.audit_clauses.specs.Clauses.{GuaranteeHolds}
use Rattle.audit_clauses.specs.Faults.{IsFirstFault}
use Rattle.audit_clauses.specs.declared.clause.Clause.{Clause}

-- what the clauses ask of the evidence by a guarantee is together what the guarantee says
pub record ClausesAreGuarantees : Type 0 where
  pub together : (guarantee : Guarantee) (config : Config) (past : List Event) (call : ℕ)
      → ((clause : Clause) → GuaranteeHolds clause guarantee config past call) → Keeps guarantee config past call
  pub each : (guarantee : Guarantee) (config : Config) (past : List Event) (call : ℕ)
      → Keeps guarantee config past call → (clause : Clause) → GuaranteeHolds clause guarantee config past call

-- two first faults of the same events are one
abbrev pub FaultsAreOne : Type 0
FaultsAreOne = (config : Config) (events : List Event) (a b : ℕ) (first second : Clause)
    → IsFirstFault config events a first → IsFirstFault config events b second → (a ≡ b) × (first ≡ second)
