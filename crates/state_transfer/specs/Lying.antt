-- How a transfer lies in memory.
use Rattle.std.specs.Prelude.{◌≡◌, ℕ, true, [], List, Option}
use Rattle.std.specs.FinSet as set_of
use Rattle.std.specs.Option.{option_map, unwrap_or}
use Rattle.grid_base.specs.declared.stamped_entry.StampedEntry.{StampedEntry}
use Rattle.container_seg.specs.Lifespans.{outlasts}
use Rattle.state_transfer.specs.Calls.{are_lasting}
use Rattle.state_transfer.specs.Copying.{Transfer}
use Rattle.state_transfer.specs.declared.transfer.Transfer.TheInside.{Inside}

-- the transfer that lies there
abbrev pub seen : Inside → Transfer
seen a = record {
  provider = a.provider;
  sent = a.sent;
  flying = option_map (λ entries. entries.items) a.flying;
  last = a.last;
  touched = set_of.from_list a.touched.keys;
}

-- at each clock that the deadline outlasts, none of the entries that fly has expired
abbrev pub IsSoonest : Option ℕ → Option (List StampedEntry) → Type 0
IsSoonest soonest flying = (clock : ℕ) → outlasts clock soonest ≡ true → are_lasting clock (unwrap_or flying []) ≡ true
