-- What a contract sees of a unit.
use Rattle.std.specs.Prelude.{ℕ, Bool, List}
use Rattle.grid_base.specs.declared.entry.Entry.{Entry}
use Rattle.local_publisher.specs.declared.unit_state.UnitState.{UnitState}

-- one segment of a call, asked of one node, with the entries read for it and whether they are all
pub record Work : Type 0 where
  pub id : ℕ
  pub call : ℕ
  pub segment : ℕ
  pub node : ℕ
  pub asked_at : ℕ
  pub state : UnitState
  pub entries : List Entry
  pub last : Bool
