-- What rounds asked for. A past lists events, the newest first.
use Rattle.std.specs.Prelude.{ℕ, ◌+◌, ◌==◌, Bool, true, false, ◌&&◌, if◌then◌else◌, List, [], ◌∷◌, Option, None, Some}
use Rattle.std.specs.List.{list_any}
use Rattle.grid_event.specs.UnitHistories.{is_gone}
use Rattle.grid_event.specs.declared.call_events.Ask.{Ask}
use Rattle.grid_event.specs.declared.config.Config.{Config}
use Rattle.grid_event.specs.declared.event.Event.{Event}
use Rattle.grid_event.specs.declared.event.Event.TheVariants.{Round}
use Rattle.audit_clauses.specs.Shapes.{are_numbered, units_asked}

-- the first of the asks that is for the unit
abbrev pub ask_in : List Ask → ℕ → Option Ask
ask_in [] unit = None
ask_in (ask ∷ asks) unit = if ask.unit == unit then Some ask else ask_in asks unit

-- the ask of a unit: that of the newest round that asked for it
abbrev pub ask_of : List Event → ℕ → Option Ask
ask_of [] unit = None
ask_of (Round round ∷ past) unit =
    if list_any (λ (ask : Ask). ask.unit == unit) round.asks then ask_in round.asks unit else ask_of past unit
ask_of (_ ∷ past) unit = ask_of past unit

-- the number of the topology by which that round asked
abbrev pub asked_by : List Event → ℕ → Option ℕ
asked_by [] unit = None
asked_by (Round round ∷ past) unit =
    if list_any (λ (ask : Ask). ask.unit == unit) round.asks then Some round.id else asked_by past unit
asked_by (_ ∷ past) unit = asked_by past unit

-- the unit of an ask is gone, where there is one
abbrev pub is_gone_of : Config → List Event → Option Ask → Bool
is_gone_of config past None = false
is_gone_of config past (Some ask) = is_gone config past ask

-- each round numbered its units on from those before
abbrev pub is_numbered : List Event → Bool
is_numbered [] = true
is_numbered (Round round ∷ past) = are_numbered (units_asked past + 1) round.asks && is_numbered past
is_numbered (_ ∷ past) = is_numbered past
