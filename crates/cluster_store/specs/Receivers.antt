-- Which receivers have their copies.
use Rattle.std.specs.Prelude.{ℕ, Bool, not, ◌||◌}
use Rattle.std.specs.List.{list_all}
use Rattle.state_transfer.specs.Copying.{transfer_to}
use Rattle.topology_coord.specs.Following.{receives}
use Rattle.topology_phase.specs.Owners.{owners_at}
use Rattle.cluster_model.specs.State.{Holding}
use Rattle.cluster_model.specs.Topologies.{is_over}

-- the node isn't to receive the segment, or has ended its transfer
abbrev pub has_copies : Holding → ℕ → ℕ → Bool
has_copies st segment node =
    not (receives st.coord node segment) || is_over (transfer_to st.copying.transfers node segment)

-- every receiver of the segment has ended its transfer
abbrev pub is_copied : Holding → ℕ → Bool
is_copied st segment = list_all (has_copies st segment) (owners_at st.coord.newest.pending segment)
