-- How the containers of the nodes lie: one slot for each number, empty where the node isn't there.
use Rattle.std.specs.Prelude.{◌≡◌, ℕ, suc, ◌==◌, not, List, [], ◌∷◌, ◌++◌, map, slice_index_or, Option, None, Some, is_some}
use Rattle.std.specs.FinMap as map_of
use Rattle.grid_base.specs.Nodes.{Nodes, flagged}
use Rattle.grid_base.specs.declared.stamped.Stamped.{Stamped}
use Rattle.container_seg.specs.Contents.{Contents, Copies}
use Rattle.container_seg.specs.Lifespans.{is_fresh}
use Rattle.state_transfer.specs.Cells.{Cell, Cells}

-- the nodes that are there, the clock, and the copies of all nodes
pub record Holdings : Type 0 where
  pub nodes : Nodes
  pub clock : ℕ
  pub cells : Cells

-- the containers by the numbers of their nodes
abbrev pub Slots : Type 0
Slots = List (Option Contents)

-- the container of a node, where the node is there
abbrev pub slot_at : Slots → ℕ → Option Contents
slot_at slots node = slice_index_or slots node None

-- the entries in a slot
abbrev pub entries_in : Option Contents → Copies
entries_in None = map_of.empty
entries_in (Some contents) = contents.entries

-- the slot with these entries
abbrev pub with_entries : Copies → Option Contents → Option Contents
with_entries entries None = None
with_entries entries (Some contents) = Some (record contents { entries = entries })

-- the slot without a segment
abbrev pub cleared : ℕ → Option Contents → Option Contents
cleared segment slot = with_entries (map_of.retain_keys (entries_in slot) (λ place. not (place.segment == segment))) slot

-- the slot where the clock stands here
abbrev pub ticked : ℕ → Option Contents → Option Contents
ticked clock None = None
ticked clock (Some contents) = Some (record contents {
  clock = clock;
  entries = map_of.retain_keys contents.entries (λ place. is_fresh clock (map_of.get contents.entries place));
})

-- all entries with their cells, where the first slot is that of this node
unfoldable pub held_from : ℕ → Slots → List (Cell × Stamped)
held_from node [] = []
held_from node (slot ∷ slots) =
    map (λ e. (record { node = node; segment = e.0.segment; key = e.0.key }, e.1)) (map_of.entries (entries_in slot)) ++ held_from (suc node) slots

-- all copies
unfoldable pub held : Slots → Cells
held slots = map_of.from_entries (held_from 0 slots)

-- the nodes that are there
unfoldable pub nodes_in : Slots → Nodes
nodes_in slots = flagged 0 (map is_some slots)

-- each container is that of its node, and its clock is the common one
abbrev pub AreKept : ℕ → Slots → Type 0
AreKept clock slots = (node : ℕ) (contents : Contents) → slot_at slots node ≡ Some contents → (contents.node ≡ node) × (contents.clock ≡ clock)
