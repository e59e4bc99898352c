-- Chunks of transfers.
use Rattle.std.specs.Prelude.{ℕ, ◌==◌, Bool, false, ◌&&◌, Option, None, Some}
use Rattle.grid_base.specs.Portion.{Portion}
use Rattle.grid_base.specs.declared.stamped_entry.StampedEntry.{StampedEntry}
use Rattle.grid_event.specs.declared.store_events.CopyEvent.{CopyEvent}
use Rattle.state_transfer.specs.Chunks.{chunk_of, flies, lands, may_send, provider_of, sends}
use Rattle.state_transfer.specs.Copying.{Transfer, transfer_to}
use Rattle.topology_coord.specs.Coordination.{all_installed, first_live}
use Rattle.topology_coord.specs.Following.{receives}
use Rattle.topology_phase.specs.Owners.{owners_at}
use Rattle.cluster_model.specs.Same.{same_chunk}
use Rattle.cluster_model.specs.State.{Holding}

-- the transfer of a segment to a receiver, where it is there
abbrev pub transfer_of : Holding → ℕ → ℕ → Option Transfer
transfer_of holding receiver segment = transfer_to holding.copying.transfers receiver segment

-- the node that provides a segment to a receiver: that of the transfer, or else the first live current owner
abbrev pub provider : Holding → ℕ → ℕ → Option ℕ
provider holding receiver segment =
    provider_of (transfer_of holding receiver segment) (first_live holding.coord (owners_at holding.coord.newest.current segment))

-- the next chunk of a segment for a receiver
abbrev pub next_chunk_of : Holding → ℕ → ℕ → ℕ → Portion StampedEntry
next_chunk_of holding receiver segment node = chunk_of holding.copying receiver segment node holding.config.chunk

abbrev pub is_provided : ℕ → Option ℕ → Bool
is_provided node None = false
is_provided node (Some other) = node == other

-- all live nodes have the newest topology, the node is to receive the segment, its transfer isn't there yet, or it hasn't
-- ended and nothing of it flies, and the chunk is the next one of the node that provides
unfoldable pub can_copy : Holding → CopyEvent → Bool
can_copy holding c =
    all_installed holding.coord
    && (receives holding.coord c.receiver c.segment
    && (may_send (transfer_of holding c.receiver c.segment)
    && (is_provided c.provider (provider holding c.receiver c.segment)
    && same_chunk c.batch (next_chunk_of holding c.receiver c.segment c.provider))))

-- the chunk flies
unfoldable pub copied : Holding → CopyEvent → Holding
copied holding c = record holding { copying = sends c.receiver c.segment c.provider c.batch holding.copying }

-- a chunk of the transfer flies
unfoldable pub can_land : Holding → ℕ → ℕ → Bool
can_land holding receiver segment = flies (transfer_of holding receiver segment)

-- what flew and wasn't touched is put at the receiver
unfoldable pub landed : Holding → ℕ → ℕ → Holding
landed holding receiver segment = record holding { copying = lands receiver segment holding.copying }
