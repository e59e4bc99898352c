-- What each event keeps of a cluster, part by part. A part speaks of what it names alone.
use Rattle.std.specs.Prelude.{◌≡◌, ℕ, ◌+◌, ◌<◌, true, false, ◌⊎◌, List, length, None, Some}
use Rattle.std.specs.FinSet as set_of
use Rattle.grid_event.specs.declared.config.Config.{Config}
use Rattle.grid_event.specs.declared.event.Event.{Event}
use Rattle.state_transfer.specs.Cells.{Cells}
use Rattle.state_transfer.specs.Copying.{Copying, Transfer, Transfers, copy_at, has_ended, transfer_to}
use Rattle.state_transfer.specs.Faithful.{IsFaithfulAt, flying_of, has_each_once}
use Rattle.topology_coord.specs.Coordination.{Coordination, installed_id, live_nodes, lives, some_live, topology_of}
use Rattle.topology_phase.specs.Laws.{IsOwned, IsSafe, Names}
use Rattle.topology_phase.specs.Owners.{among, owners_at}
use Rattle.topology_phase.specs.Topologies.{Topology, holders}
use Rattle.topology_phase.specs.declared.phase.Phase.TheVariants.{ReadOld}
use Rattle.cluster_model.specs.State.{State}
use Rattle.cluster_model.specs.Told.{Contents, IsTold, contents_of}

-- topologies: the newest and the one before it are safe for the live nodes while both are in force. Each live node has installed
-- one of them, and both name only nodes that were ever members. Some node lives, a segment is to have some owner, and the newest
-- topology has all segments and in a rebalance an owner to be wherever there is one
pub record KeepsTopologies (segments : ℕ) (c : Coordination) : Type 0 where
  pub some_owner : 0 < c.owners
  pub some_live : 0 < length (live_nodes c)
  pub all_segments : length c.newest.current ≡ segments
  pub numbered : (c.newest ≡ c.before) ⊎ (c.newest.id ≡ c.before.id + 1)
  pub installed : (node : ℕ) → lives c node ≡ true → (installed_id c node ≡ c.newest.id) ⊎ (installed_id c node ≡ c.before.id)
  pub safe : IsSafe c.before c.newest (lives c)
  pub member : (node : ℕ) → lives c node ≡ true → set_of.contains c.ever node ≡ true
  pub named : (node segment : ℕ) → Names c.newest node segment → set_of.contains c.ever node ≡ true
  pub named_before : (node segment : ℕ) → Names c.before node segment → set_of.contains c.ever node ≡ true
  pub owned : IsOwned c.newest

-- nothing is there of a segment: no entry of the map, no copy, no transfer
pub record HasNothing (copying : Copying) (contents : Contents) (segment : ℕ) : Type 0 where
  pub no_entry : (key : List ℕ) → contents segment key ≡ None
  pub no_copy : (node : ℕ) (key : List ℕ) → copy_at copying.cells node segment key ≡ None
  pub no_transfer : (receiver : ℕ) → transfer_to copying.transfers receiver segment ≡ None

-- a segment without a live holder is empty
abbrev pub KeepsEmpty : Coordination → Copying → Contents → Type 0
KeepsEmpty c copying contents = (segment : ℕ) → some_live c (holders c.newest segment) ≡ false → HasNothing copying contents segment

-- a node has exactly the map's part of a segment, deadlines included
abbrev pub IsComplete : Cells → Contents → ℕ → ℕ → Type 0
IsComplete cells contents node segment = (key : List ℕ) → copy_at cells node segment key ≡ contents segment key

-- each live holder of a segment by the newest topology has exactly the map's part of it
abbrev pub KeepsCopies : Coordination → Cells → Contents → Type 0
KeepsCopies c cells contents =
    (node segment : ℕ) → lives c node ≡ true → among node (holders c.newest segment) ≡ true → IsComplete cells contents node segment

-- by a topology a node receives a segment: in the first phase of a rebalance it will own the segment, and doesn't own it yet
pub record Receives (t : Topology) (node segment : ℕ) : Type 0 where
  pub phase : t.phase ≡ ReadOld
  pub pending : among node (owners_at t.pending segment) ≡ true
  pub current : among node (owners_at t.current segment) ≡ false

-- a transfer: its receiver lives, and receives the segment by the newest topology and by each that a live node has installed; as
-- long as it hasn't ended, the node that provides lives and owns the segment; in the flying chunk no key stands twice; and at each
-- key it is faithful to the map
pub record IsSound (c : Coordination) (cells : Cells) (contents : Contents) (receiver segment : ℕ) (transfer : Transfer) : Type 0 where
  pub live : lives c receiver ≡ true
  pub receives : Receives c.newest receiver segment
  pub everywhere : (node : ℕ) → lives c node ≡ true → Receives (topology_of c node) receiver segment
  pub provided : has_ended transfer ≡ false → (lives c transfer.provider ≡ true) × (among transfer.provider (owners_at c.newest.current segment) ≡ true)
  pub once : has_each_once (flying_of transfer) ≡ true
  pub faithful : (key : List ℕ) → IsFaithfulAt cells receiver segment transfer key (contents segment key)

-- each transfer is sound
abbrev pub KeepsTransfers : Coordination → Cells → Transfers → Contents → Type 0
KeepsTransfers c cells transfers contents =
    (receiver segment : ℕ) (transfer : Transfer) → transfer_to transfers receiver segment ≡ Some transfer → IsSound c cells contents receiver segment transfer

-- the four parts together
pub record KeepsParts (segments : ℕ) (c : Coordination) (copying : Copying) (contents : Contents) : Type 0 where
  pub topologies : KeepsTopologies segments c
  pub empty : KeepsEmpty c copying contents
  pub copies : KeepsCopies c copying.cells contents
  pub transfers : KeepsTransfers c copying.cells copying.transfers contents

-- all that is kept: what the events tell is what the cluster has, and the four parts, of the map that the events tell
pub record IsKept (config : Config) (past : List Event) (st : State) : Type 0 where
  pub told : IsTold config past st
  pub parts : KeepsParts config.segments st.holding.coord st.holding.copying (contents_of config past)
