-- Which node sends the next chunk of a segment.
use Rattle.std.specs.Prelude.{ℕ, ◌&&◌, if◌then◌else◌, Option, None}
use Rattle.state_transfer.specs.Chunks.{may_send}
use Rattle.topology_coord.specs.Coordination.{all_installed}
use Rattle.topology_coord.specs.Following.{receives}
use Rattle.cluster_model.specs.State.{Holding}
use Rattle.cluster_model.specs.Transfers.{provider, transfer_of}

-- the node that sends the next chunk of a segment to a receiver, where one may be sent
unfoldable pub sender : Holding → ℕ → ℕ → Option ℕ
sender st receiver segment =
    if all_installed st.coord && (receives st.coord receiver segment && may_send (transfer_of st receiver segment))
    then provider st receiver segment
    else None
