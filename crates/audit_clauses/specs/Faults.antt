-- The first fault of a history: the first event that a clause doesn't hold of, and of its clauses the first.
use Rattle.std.specs.Prelude.{◌≡◌, ℕ, ◌+◌, true, nat_lt, List, ◌∷◌, ◌++◌, length, reverse, Some}
use Rattle.grid_event.specs.Histories.{History}
use Rattle.grid_event.specs.declared.config.Config.{Config}
use Rattle.grid_event.specs.declared.event.Event.{Event}
use Rattle.audit_clauses.specs.Clauses.{Holds}
use Rattle.audit_clauses.specs.declared.clause.Clause.{Clause}
use Rattle.audit_clauses.specs.declared.clause.Clause.TheVariants as clauses

-- where a clause stands in their order
abbrev pub rank : Clause → ℕ
rank clauses.Shape = 0
rank clauses.Cause = 1
rank clauses.Value = 2
rank clauses.Items = 3
rank clauses.Stable = 4
rank clauses.Twice = 5
rank clauses.Often = 6
rank clauses.Held = 7

-- all clauses hold of each of the events
abbrev pub AreFaultless : Config → List Event → Type 0
AreFaultless config events =
    (before : List Event) (event : Event) (later : List Event) → events ≡ before ++ event ∷ later
    → (clause : Clause) → Holds clause config (reverse before) event

-- with its settings a history has no fault
abbrev pub IsFaultless : History → Type 0
IsFaultless history = (config : Config) → history.config ≡ Some config → AreFaultless config history.events

-- the event at the place is the first of which a clause doesn't hold, and this is the first such clause
pub record IsFirstFault (config : Config) (events : List Event) (place : ℕ) (clause : Clause) : Type 0 where
  pub before : List Event
  pub event : Event
  pub later : List Event
  pub splits : events ≡ before ++ event ∷ later
  pub placed : place ≡ length before + 1
  pub faultless : AreFaultless config before
  pub earlier : (other : Clause) → nat_lt (rank other) (rank clause) ≡ true → Holds other config (reverse before) event
  pub fails : Holds clause config (reverse before) event → ⊥

-- the same of a history with its settings
abbrev pub IsFirstFaultOf : History → ℕ → Clause → Type 0
IsFirstFaultOf history place clause =
    (config : Config) × ((history.config ≡ Some config) × IsFirstFault config history.events place clause)
