-- Chunks of a transfer: how one is sent, and how it lands.
use Rattle.std.specs.Prelude.{ℕ, ◌==◌, Bool, true, false, not, ◌&&◌, ◌||◌, cond, List, [], ◌∷◌, Option, None, Some, is_none, is_some}
use Rattle.std.specs.FinMap as map_of
use Rattle.std.specs.FinSet as set_of
use Rattle.grid_base.specs.Portion.{Portion}
use Rattle.grid_base.specs.declared.stamped_entry.StampedEntry.{StampedEntry}
use Rattle.container_seg.specs.Scans.{next_chunk}
use Rattle.state_transfer.specs.Cells.{Cells, Keys}
use Rattle.state_transfer.specs.Copying.{Copying, Transfer, each_changed, part_of, transfer_to}

-- a chunk may be sent where the transfer isn't there yet, or hasn't ended and no chunk of it flies
abbrev pub may_send : Option Transfer → Bool
may_send None = true
may_send (Some transfer) = not transfer.last && is_none transfer.flying

-- the node that provides: that of the transfer, or where it isn't there yet another one
abbrev pub provider_of : Option Transfer → Option ℕ → Option ℕ
provider_of None other = other
provider_of (Some transfer) other = Some transfer.provider

-- the last key that was sent
abbrev pub sent_of : Option Transfer → Option (List ℕ)
sent_of None = None
sent_of (Some transfer) = transfer.sent

-- the next chunk of a transfer: what the provider holds of the segment behind the last key sent, in the provider's order
abbrev pub chunk_of : Copying → ℕ → ℕ → ℕ → ℕ → Portion StampedEntry
chunk_of c receiver segment provider most =
    next_chunk provider (sent_of (transfer_to c.transfers receiver segment)) most (part_of c.cells provider segment)

-- a transfer that begins: nothing was sent, and no key is touched; one that is there stays as it is
abbrev pub begun : Option Transfer → ℕ → Transfer
begun None provider = record { provider = provider; sent = None; flying = None; last = false; touched = set_of.empty }
begun (Some transfer) provider = transfer

-- the last key of a chunk, or where it has no entry the key before
abbrev pub last_sent : List StampedEntry → Option (List ℕ) → Option (List ℕ)
last_sent [] sent = sent
last_sent (e ∷ []) sent = Some e.key
last_sent (e ∷ f ∷ es) sent = last_sent (f ∷ es) sent

-- the chunk flies
abbrev pub with_chunk : Portion StampedEntry → Transfer → Transfer
with_chunk chunk transfer =
    record transfer { sent = last_sent chunk.entries transfer.sent; flying = Some chunk.entries; last = chunk.last }

-- the chunk is sent; with the first one the transfer begins, and the receiver's copies of the segment go
unfoldable pub sends : ℕ → ℕ → ℕ → Portion StampedEntry → Copying → Copying
sends receiver segment provider chunk c = record c {
  cells =
      map_of.retain_keys c.cells
      (λ cell. is_some (transfer_to c.transfers receiver segment) || not ((cell.node == receiver) && (cell.segment == segment)));
  transfers =
      map_of.insert c.transfers (record { receiver = receiver; segment = segment })
      (with_chunk chunk (begun (transfer_to c.transfers receiver segment) provider));
}

-- a chunk of the transfer flies
abbrev pub flies : Option Transfer → Bool
flies None = false
flies (Some transfer) = is_some transfer.flying

-- each entry of the chunk whose key isn't touched is put at the receiver
unfoldable pub landed_in : ℕ → ℕ → Keys → List StampedEntry → Cells → Cells
landed_in receiver segment touched [] cells = cells
landed_in receiver segment touched (e ∷ es) cells =
    cond (set_of.contains touched e.key) (landed_in receiver segment touched es cells)
    (map_of.insert (landed_in receiver segment touched es cells) (record { node = receiver; segment = segment; key = e.key }) e.stamped)

-- the cells after the landing of what flies
abbrev pub landed : ℕ → ℕ → Option Transfer → Cells → Cells
landed receiver segment None cells = cells
landed receiver segment (Some transfer) cells = landed_chunk receiver segment transfer.touched transfer.flying cells
  where
    landed_chunk : ℕ → ℕ → Keys → Option (List StampedEntry) → Cells → Cells
    landed_chunk receiver segment touched None cells = cells
    landed_chunk receiver segment touched (Some chunk) cells = landed_in receiver segment touched chunk cells

-- the flying chunk of the transfer lands
unfoldable pub lands : ℕ → ℕ → Copying → Copying
lands receiver segment c = record c {
  cells = landed receiver segment (transfer_to c.transfers receiver segment) c.cells;
  transfers =
      each_changed
      (λ destination transfer. record transfer {
        flying = cond ((destination.receiver == receiver) && (destination.segment == segment)) None transfer.flying;
      })
      c.transfers;
}
