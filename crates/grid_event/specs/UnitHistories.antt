-- What became of the units of a call, as the events alone tell it. A past lists events, the newest first.
use Rattle.std.specs.Prelude.{ℕ, ◌+◌, ◌==◌, Bool, true, false, not, ◌&&◌, ◌||◌, if◌then◌else◌, Option, None, Some, List, [], ◌∷◌, ◌++◌}
use Rattle.std.specs.List.{list_any}
use Rattle.topology_phase.specs.Owners.{among}
use Rattle.topology_phase.specs.Topologies.{read_owners}
use Rattle.grid_event.specs.declared.config.Config.{Config}
use Rattle.grid_event.specs.declared.call_events.Ask.{Ask}
use Rattle.grid_event.specs.declared.event.Event.{Event}
use Rattle.grid_event.specs.declared.event.Event.TheVariants.{Begin, Depart, Done, Install, Round}
use Rattle.grid_event.specs.Members.{newest_topology}

-- the units that the rounds of a call asked for, in order
abbrev pub asks_of_call : List Event → ℕ → List Ask
asks_of_call [] call = []
asks_of_call (Round round ∷ past) call =
    if round.call == call then asks_of_call past call ++ round.asks else asks_of_call past call
asks_of_call (_ ∷ past) call = asks_of_call past call

-- a round asked for the unit
abbrev pub was_asked : List Event → ℕ → Bool
was_asked [] unit = false
was_asked (Round round ∷ past) unit = list_any (λ (ask : Ask). ask.unit == unit) round.asks || was_asked past unit
was_asked (_ ∷ past) unit = was_asked past unit

-- the call that asked for a unit: the one whose round did so last
abbrev pub asker_of : List Event → ℕ → Option ℕ
asker_of [] unit = None
asker_of (Round round ∷ past) unit =
    if list_any (λ (ask : Ask). ask.unit == unit) round.asks then Some round.call else asker_of past unit
asker_of (_ ∷ past) unit = asker_of past unit

-- the unit was refused when it should begin
abbrev pub was_refused : List Event → ℕ → Bool
was_refused [] unit = false
was_refused (Begin other runs ∷ past) unit = ((other == unit) && not runs) || was_refused past unit
was_refused (_ ∷ past) unit = was_refused past unit

-- the unit began to run
abbrev pub has_begun : List Event → ℕ → Bool
has_begun [] unit = false
has_begun (Begin other runs ∷ past) unit = ((other == unit) && runs) || has_begun past unit
has_begun (_ ∷ past) unit = has_begun past unit

-- the unit has ended
abbrev pub has_ended : List Event → ℕ → Bool
has_ended [] unit = false
has_ended (Done other ∷ past) unit = (other == unit) || has_ended past unit
has_ended (_ ∷ past) unit = has_ended past unit

-- the unit is gone: its node departed after it was asked, before it ended and without a refusal; or after it
-- began to run, and before it ended, its node installed a topology by which it doesn't read the segment
abbrev pub is_gone : Config → List Event → Ask → Bool
is_gone config [] ask = false
is_gone config (Depart node ∷ past) ask =
    is_gone config past ask
    || ((node == ask.node) && (was_asked past ask.unit && (not (was_refused past ask.unit) && not (has_ended past ask.unit))))
is_gone config (Install node id ∷ past) ask =
    is_gone config past ask
    || ((node == ask.node)
    && ((has_begun past ask.unit && not (has_ended past ask.unit)) && not (among node (read_owners (newest_topology config past) ask.segment))))
is_gone config (_ ∷ past) ask = is_gone config past ask

-- the unit was refused, is gone, or has ended
abbrev pub is_closed : Config → List Event → Ask → Bool
is_closed config past ask = was_refused past ask.unit || (is_gone config past ask || has_ended past ask.unit)

-- a unit of the call on the segment has ended
abbrev pub has_ended_on : List Event → ℕ → ℕ → Bool
has_ended_on past call segment = list_any (λ ask. (ask.segment == segment) && has_ended past ask.unit) (asks_of_call past call)
