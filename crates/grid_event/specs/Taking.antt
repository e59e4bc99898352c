-- What a contract sees of a taking event.
use Rattle.std.specs.Prelude.{ℕ, List}
use Rattle.grid_base.specs.declared.entry.Entry.{Entry}
use Rattle.grid_base.specs.declared.item.Item.{Item}

-- a unit, the entries that its call took, and the items that the user was given
pub record Taking : Type 0 where
  pub unit : ℕ
  pub entries : List Entry
  pub given : List Item
