-- What a unit reads now.
use Rattle.std.specs.Prelude.{◌+◌, Bool, not, nat_le, ◌&&◌, length, Option, None, Some, is_none, if◌then◌else◌}
use Rattle.std.specs.Bool.{beq}
use Rattle.grid_base.specs.Portion.{Portion}
use Rattle.grid_base.specs.declared.entry.Entry.{Entry}
use Rattle.grid_base.specs.declared.limits.TheConstants.{MOST_READ}
use Rattle.cluster_model.specs.State.{State, Unit, call_of, goes_on, is_running}
use Rattle.cluster_model.specs.Units.{next_batch, read_by, walks}

-- the unit's call goes on and is of this form, the unit runs, it hasn't read its last batch, and none flies
abbrev pub reads_on : State → Bool → Unit → Bool
reads_on st walk unit =
    goes_on st.holding (call_of st.calling unit.work.call)
    && (beq walk (walks (call_of st.calling unit.work.call)) && (is_running unit.work.state && (not unit.work.last && is_none unit.flying)))

-- the batch that the unit reads now, where it reads on and all units together have room for it
abbrev pub batch_now : State → Bool → Unit → Option (Portion Entry)
batch_now st walk unit =
    if reads_on st walk unit && nat_le (read_by st.calling.units + length (next_batch st unit).entries) MOST_READ
    then Some (next_batch st unit)
    else None
