-- The stages of a unit.
use Rattle.std.specs.Prelude.{Bool, true, false}
use Rattle.local_publisher.specs.declared.unit_state.UnitState.{UnitState}
use Rattle.local_publisher.specs.declared.unit_state.UnitState.TheVariants.{Asked, Running, Refused, Lost, Ended}

-- a unit is open while it is asked or running
abbrev pub is_open : UnitState → Bool
is_open Asked = true
is_open Running = true
is_open (Refused at) = false
is_open (Lost at) = false
is_open Ended = false
