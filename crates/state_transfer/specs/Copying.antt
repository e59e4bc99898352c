-- The copies of all nodes, and the transfers that are there.
use Rattle.std.specs.Prelude.{ℕ, ◌==◌, Bool, ◌&&◌, List, [], ◌∷◌, map, Option, is_none}
use Rattle.std.specs.List.{filter}
use Rattle.std.specs.FinMap as map_of
use Rattle.grid_base.specs.Nodes.{Nodes}
use Rattle.grid_base.specs.declared.stamped.Stamped.{Stamped}
use Rattle.grid_base.specs.declared.stamped_entry.StampedEntry.{StampedEntry}
use Rattle.state_transfer.specs.Cells.{Cells, Destination, Keys, destination_cmp}

-- a transfer of a segment: the node that provides it, the last key that was sent, the chunk that flies, whether
-- the last chunk was sent, and the keys that were written or erased at the receiver since the transfer began
pub record Transfer : Type 0 where
  pub provider : ℕ
  pub sent : Option (List ℕ)
  pub flying : Option (List StampedEntry)
  pub last : Bool
  pub touched : Keys

-- the transfers that are there, by where they lead to
abbrev pub Transfers : Type 0
Transfers = map_of.FinMap destination_cmp Transfer

-- the clock, the copies of all nodes, and the transfers
pub record Copying : Type 0 where
  pub clock : ℕ
  pub cells : Cells
  pub transfers : Transfers

-- the same with the nodes that are there
pub record Stores : Type 0 where
  pub nodes : Nodes
  pub copying : Copying

-- nothing is held, and nothing is on its way
abbrev pub nothing_held : Copying
nothing_held = record { clock = 0; cells = map_of.empty; transfers = map_of.empty }

-- the copy of a key that a node holds
abbrev pub copy_at : Cells → ℕ → ℕ → List ℕ → Option Stamped
copy_at cells node segment key = map_of.get cells (record { node = node; segment = segment; key = key })

-- what a node holds of a segment, in ascending byte order of keys
unfoldable pub part_of : Cells → ℕ → ℕ → List (List ℕ × Stamped)
part_of cells node segment =
    map (λ cell. (cell.0.key, cell.1)) (filter (λ cell. (cell.0.node == node) && (cell.0.segment == segment)) (map_of.entries cells))

-- the transfer of a segment to a receiver, where it is there
abbrev pub transfer_to : Transfers → ℕ → ℕ → Option Transfer
transfer_to transfers receiver segment = map_of.get transfers (record { receiver = receiver; segment = segment })

-- a transfer has ended: its last chunk was sent, and none flies
abbrev pub has_ended : Transfer → Bool
has_ended transfer = transfer.last && is_none transfer.flying

-- every transfer is changed by the function, which is told where the transfer leads to
abbrev pub changed_all : (Destination → Transfer → Transfer) → List (Destination × Transfer) → Transfers
changed_all change [] = map_of.empty
changed_all change (t ∷ ts) = map_of.insert (changed_all change ts) t.0 (change t.0 t.1)

unfoldable pub each_changed : (Destination → Transfer → Transfer) → Transfers → Transfers
each_changed change transfers = changed_all change (map_of.entries transfers)
