-- The words of the calls.
use Rattle.std.specs.Prelude.{◌≡◌, ℕ, ◌==◌, Bool, true, false, cond, not, ◌&&◌, ◌||◌, List, [], Option, None, Some, unwrap_or}
use Rattle.std.specs.List.{list_all}
use Rattle.std.specs.FinMap as map_of
use Rattle.std.specs.FinSet as set_of
use Rattle.grid_base.specs.Nodes.{Nodes}
use Rattle.grid_base.specs.declared.stamped.Stamped.{Stamped}
use Rattle.grid_base.specs.declared.stamped_entry.StampedEntry.{StampedEntry}
use Rattle.container_seg.specs.Lifespans.{outlasts}
use Rattle.state_transfer.specs.Cells.{Destination}
use Rattle.state_transfer.specs.Changes.{set_cell}
use Rattle.state_transfer.specs.Copying.{Copying, Transfer, Transfers, each_changed, has_ended, transfer_to}
use Rattle.state_transfer.specs.declared.change.Change.{Change}
use Rattle.state_transfer.specs.declared.change.Change.TheVariants.{Put, Erase}

-- what a change leaves at its key
abbrev pub written : Change → Option Stamped
written (Put stamped) = Some stamped
written Erase = None

-- a deadline that is written is none, or above the clock
abbrev pub is_lasting : ℕ → Change → Bool
is_lasting clock (Put stamped) = outlasts clock stamped.until
is_lasting clock Erase = true

-- no entry of a chunk has expired
abbrev pub are_lasting : ℕ → List StampedEntry → Bool
are_lasting clock entries = list_all (λ e. outlasts clock e.stamped.until) entries

-- where a transfer is there, its receiver is there too, and no entry of it that flies has expired
abbrev pub is_sound : Nodes → ℕ → Destination → Option Transfer → Bool
is_sound nodes clock to None = true
is_sound nodes clock to (Some transfer) = set_of.contains nodes to.receiver && are_lasting clock (unwrap_or transfer.flying [])

-- all transfers are sound
abbrev pub AreSound : Nodes → ℕ → Transfers → Type 0
AreSound nodes clock transfers = (to : Destination) → is_sound nodes clock to (map_of.get transfers to) ≡ true

-- the transfer is there, and has ended
abbrev pub is_ended : Option Transfer → Bool
is_ended None = false
is_ended (Some transfer) = has_ended transfer

-- a transfer that goes on keeps its provider
abbrev pub goes_on : Option Transfer → ℕ → Bool
goes_on None provider = true
goes_on (Some transfer) provider = has_ended transfer || (transfer.provider == provider)

-- no transfer of the segment has the node as its provider
abbrev pub ProvidesNone : Transfers → ℕ → ℕ → Type 0
ProvidesNone transfers node segment = (receiver : ℕ) (transfer : Transfer) → transfer_to transfers receiver segment ≡ Some transfer → (transfer.provider == node) ≡ false

-- whether a destination is this one
abbrev pub is_there : Destination → Destination → Bool
is_there to destination = (destination.receiver == to.receiver) && (destination.segment == to.segment)

-- the key is touched in the transfer that leads there
abbrev pub marks_at : Destination → List ℕ → Destination → Transfer → Transfer
marks_at to key destination transfer = record transfer {
  touched = cond (is_there to destination) (set_of.insert transfer.touched key) transfer.touched;
}

-- the key isn't touched any longer in the transfer that leads there
abbrev pub unmarks_at : Destination → List ℕ → Destination → Transfer → Transfer
unmarks_at to key destination transfer = record transfer {
  touched = cond (is_there to destination) (set_of.remove transfer.touched key) transfer.touched;
}

-- the transfer is there, and the key isn't touched in it
abbrev pub is_new_to : List ℕ → Option Transfer → Bool
is_new_to key None = false
is_new_to key (Some transfer) = not (set_of.contains transfer.touched key)

-- the chunk of the transfer that leads there flies no longer
abbrev pub landing : Destination → Destination → Transfer → Transfer
landing to destination transfer = record transfer { flying = cond (is_there to destination) None transfer.flying }

-- the copy of a key is as it was before a write that is taken back, and the key is untouched where that write touched it
abbrev pub takes_back : ℕ → ℕ → List ℕ → Option Stamped → Bool → Copying → Copying
takes_back node segment key before marked c = record c {
  cells = set_cell c.cells (record { node = node; segment = segment; key = key }) before;
  transfers = cond marked (each_changed (unmarks_at (record { receiver = node; segment = segment }) key) c.transfers) c.transfers;
}
