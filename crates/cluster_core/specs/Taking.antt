-- What a call takes of a unit now.
use Rattle.std.specs.Prelude.{List, Option, None, Some, if◌then◌else◌}
use Rattle.grid_base.specs.declared.entry.Entry.{Entry}
use Rattle.grid_event.specs.Taking.{Taking}
use Rattle.cluster_model.specs.State.{Call, State, Unit, call_of, goes_on}
use Rattle.cluster_model.specs.Units.{further_items, passing}

-- what passes of a flying batch, and the items that it gives
abbrev pub taking_of : Unit → Option Call → Option (List Entry) → Option Taking
taking_of unit (Some call) (Some batch) =
    Some (record { unit = unit.work.id; entries = passing call unit batch; given = further_items call (passing call unit batch) })
taking_of unit _ _ = None

-- what a call that goes on takes of its unit now
abbrev pub taking_now : State → Unit → Option Taking
taking_now st unit =
    if goes_on st.holding (call_of st.calling unit.work.call) then taking_of unit (call_of st.calling unit.work.call) unit.flying else None
