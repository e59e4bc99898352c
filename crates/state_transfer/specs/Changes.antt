-- Writes, erasures and ticks.
use Rattle.std.specs.Prelude.{ℕ, ◌==◌, ◌&&◌, cond, List, [], ◌∷◌, filter, Option, None, Some}
use Rattle.std.specs.Option.{option_map}
use Rattle.std.specs.FinMap as map_of
use Rattle.std.specs.FinSet as set_of
use Rattle.grid_base.specs.declared.stamped.Stamped.{Stamped}
use Rattle.grid_base.specs.declared.stamped_entry.StampedEntry.{StampedEntry}
use Rattle.container_seg.specs.Lifespans.{is_fresh, outlasts}
use Rattle.topology_phase.specs.Owners.{among}
use Rattle.state_transfer.specs.Cells.{Cell, Cells, Destination}
use Rattle.state_transfer.specs.Copying.{Copying, Transfer, each_changed}

-- a cell has the value, or none
abbrev pub set_cell : Cells → Cell → Option Stamped → Cells
set_cell cells cell None = map_of.remove cells cell
set_cell cells cell (Some stamped) = map_of.insert cells cell stamped

-- the key of the segment has the value, or none, at each of the nodes
unfoldable pub set_at : List ℕ → ℕ → List ℕ → Option Stamped → Cells → Cells
set_at [] segment key stamped cells = cells
set_at (node ∷ nodes) segment key stamped cells =
    set_cell (set_at nodes segment key stamped cells) (record { node = node; segment = segment; key = key }) stamped

-- the key is touched in a transfer of the segment to one of the nodes
abbrev pub marks : List ℕ → ℕ → List ℕ → Destination → Transfer → Transfer
marks nodes segment key destination transfer = record transfer {
  touched = cond (among destination.receiver nodes && (destination.segment == segment)) (set_of.insert transfer.touched key) transfer.touched;
}

-- a write of a value, or with none an erasure, at these nodes: they have it, and where one receives the segment the key is touched
unfoldable pub changes : List ℕ → ℕ → List ℕ → Option Stamped → Copying → Copying
changes nodes segment key stamped c = record c {
  cells = set_at nodes segment key stamped c.cells;
  transfers = each_changed (marks nodes segment key) c.transfers;
}

-- the entries of a chunk that haven't expired
abbrev pub unexpired : ℕ → List StampedEntry → List StampedEntry
unexpired clock chunk = filter (λ e. outlasts clock e.stamped.until) chunk

-- the clock stands here: what has expired leaves all copies and all flying chunks
unfoldable pub ticks : ℕ → Copying → Copying
ticks clock c = record {
  clock = clock;
  cells = map_of.retain_keys c.cells (λ cell. is_fresh clock (map_of.get c.cells cell));
  transfers = each_changed (λ destination transfer. record transfer { flying = option_map (unexpired clock) transfer.flying }) c.transfers;
}
