-- What leaves: copies that a node is to hold no longer, and transfers that come to nothing.
use Rattle.std.specs.Prelude.{ℕ, ◌==◌, Bool, true, not, ◌&&◌, ◌||◌, Option, None, Some}
use Rattle.std.specs.FinMap as map_of
use Rattle.state_transfer.specs.Copying.{Copying, Transfer, has_ended}

-- the copies that a node holds of the segments that pass the test go
unfoldable pub drops : ℕ → (ℕ → Bool) → Copying → Copying
drops node test c = record c { cells = map_of.retain_keys c.cells (λ cell. not ((cell.node == node) && test cell.segment)) }

-- all copies and transfers of the segments that pass the test go, at every node
unfoldable pub forgets : (ℕ → Bool) → Copying → Copying
forgets test c = record c {
  cells = map_of.retain_keys c.cells (λ cell. not (test cell.segment));
  transfers = map_of.retain_keys c.transfers (λ destination. not (test destination.segment));
}

-- the transfers to a receiver go
unfoldable pub cancels : ℕ → Copying → Copying
cancels receiver c = record c { transfers = map_of.retain_keys c.transfers (λ destination. not (destination.receiver == receiver)) }

-- a transfer has ended, or another node provides it
abbrev pub outlives : ℕ → Option Transfer → Bool
outlives provider None = true
outlives provider (Some transfer) = has_ended transfer || not (transfer.provider == provider)

-- the transfers that a node provides and that haven't ended go
unfoldable pub restarts : ℕ → Copying → Copying
restarts provider c = record c {
  transfers = map_of.retain_keys c.transfers (λ destination. outlives provider (map_of.get c.transfers destination));
}

-- all transfers go
unfoldable pub closes : Copying → Copying
closes c = record c { transfers = map_of.empty }
