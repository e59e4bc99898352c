-- When units were asked for, began and scanned, by the places of the events. A past lists events, the newest first; its newest
-- event has the place of its length, and place 0 is none.
use Rattle.std.specs.Prelude.{ℕ, suc, ◌==◌, nat_lt, Bool, ◌&&◌, ◌||◌, if◌then◌else◌, true, false, List, [], ◌∷◌, ◌++◌, length, Option, None, Some}
use Rattle.std.specs.Bool.{⊤}
use Rattle.std.specs.Prelude.{◌≡◌}
use Rattle.std.specs.List.{list_any}
use Rattle.grid_base.specs.declared.entry.Entry.{Entry}
use Rattle.grid_event.specs.UnitHistories.{has_begun, was_asked}
use Rattle.grid_event.specs.declared.call_events.Ask.{Ask}
use Rattle.grid_event.specs.declared.config.Config.{Config}
use Rattle.grid_event.specs.declared.event.Event.{Event}
use Rattle.grid_event.specs.declared.event.Event.TheVariants.{Begin, Round, Scan}
use Rattle.history_members.specs.Dates.{departed_at, unread_at}

-- the place of the newest round that asked for a unit
abbrev pub asked_at : List Event → ℕ → ℕ
asked_at [] unit = 0
asked_at (Round round ∷ past) unit =
    if list_any (λ (ask : Ask). ask.unit == unit) round.asks then suc (length past) else asked_at past unit
asked_at (_ ∷ past) unit = asked_at past unit

-- the place at which a unit began to run
abbrev pub begun_at : List Event → ℕ → ℕ
begun_at [] unit = 0
begun_at (Begin other runs ∷ past) unit = if (other == unit) && runs then suc (length past) else begun_at past unit
begun_at (_ ∷ past) unit = begun_at past unit

-- the places of the scans of a unit, in order
abbrev pub scans_at : List Event → ℕ → List ℕ
scans_at [] unit = []
scans_at (Scan scan ∷ past) unit =
    if scan.unit == unit then scans_at past unit ++ suc (length past) ∷ [] else scans_at past unit
scans_at (_ ∷ past) unit = scans_at past unit

-- the event at a place
abbrev pub event_at : List Event → ℕ → Option Event
event_at [] place = None
event_at (event ∷ past) place = if suc (length past) == place then Some event else event_at past place

-- the entries of a scan
abbrev pub entries_in : Option Event → List Entry
entries_in (Some (Scan scan)) = scan.batch.entries
entries_in _ = []

-- where the event asks for the unit, no event did so before; where it begins the unit, one did, and the unit hasn't begun
abbrev pub IsNext : List Event → ℕ → Event → Type 0
IsNext past unit (Round round) = list_any (λ (ask : Ask). ask.unit == unit) round.asks ≡ true → was_asked past unit ≡ false
IsNext past unit (Begin other runs) = (other == unit) ≡ true → (was_asked past unit ≡ true) × (has_begun past unit ≡ false)
IsNext past unit _ = ⊤

-- the unit is asked for at most once, and after that begins at most once
abbrev pub IsOrderly : List Event → ℕ → Type 0
IsOrderly [] unit = ⊤
IsOrderly (event ∷ past) unit = IsNext past unit event × IsOrderly past unit

-- by places a unit is gone: it was asked for, and after that its node departed; or it began to run, and after that its node
-- installed a topology by which it doesn't read the segment
abbrev pub gone_by_dates : Config → List Event → Ask → Bool
gone_by_dates config past ask =
    was_asked past ask.unit
    && (nat_lt (asked_at past ask.unit) (departed_at past ask.node)
    || (has_begun past ask.unit && nat_lt (begun_at past ask.unit) (unread_at config past ask.node ask.segment)))
