-- Transfers that are faithful to the nodes that provide them, and what keeps them so.
use Rattle.std.specs.Prelude.{◌≡◌, ℕ, ◌==◌, true, false, List, Option, None, Some}
use Rattle.std.specs.FinSet as set_of
use Rattle.topology_phase.specs.Owners.{among}
use Rattle.grid_base.specs.declared.stamped.Stamped.{Stamped}
use Rattle.state_transfer.specs.Calls.{ProvidesNone, goes_on}
use Rattle.state_transfer.specs.Changes.{changes, ticks}
use Rattle.state_transfer.specs.Chunks.{chunk_of, lands, may_send, sends}
use Rattle.state_transfer.specs.Copying.{Stores, Transfer, copy_at, has_ended, nothing_held, transfer_to}
use Rattle.state_transfer.specs.Faithful.{IsFaithfulAt, flying_of, has_each_once}
use Rattle.state_transfer.specs.Leaving.{cancels, closes, drops, forgets, restarts}

-- each transfer whose provider is there is faithful, key by key, to what the provider holds; no key stands twice in what
-- flies; and no receiver of a segment provides it to another node
pub record AreFaithful (stores : Stores) : Type 0 where
  pub faithful : (receiver segment : ℕ) (transfer : Transfer) → transfer_to stores.copying.transfers receiver segment ≡ Some transfer → set_of.contains stores.nodes transfer.provider ≡ true
      → (key : List ℕ) → IsFaithfulAt stores.copying.cells receiver segment transfer key (copy_at stores.copying.cells transfer.provider segment key)
  pub once : (receiver segment : ℕ) (transfer : Transfer) → transfer_to stores.copying.transfers receiver segment ≡ Some transfer → has_each_once (flying_of transfer) ≡ true
  pub apart : (receiver other segment : ℕ) (transfer further : Transfer) → transfer_to stores.copying.transfers receiver segment ≡ Some transfer
      → transfer_to stores.copying.transfers other segment ≡ Some further → (further.provider == receiver) ≡ false

-- an ended transfer whose provider is there has equal copies at both nodes
abbrev pub EndedTransfersAreEqual : Type 0
EndedTransfersAreEqual = (stores : Stores) → AreFaithful stores → (receiver segment : ℕ) (transfer : Transfer) → transfer_to stores.copying.transfers receiver segment ≡ Some transfer
    → has_ended transfer ≡ true → set_of.contains stores.nodes transfer.provider ≡ true → (key : List ℕ)
    → copy_at stores.copying.cells receiver segment key ≡ copy_at stores.copying.cells transfer.provider segment key

-- without nodes and transfers, all is faithful
abbrev pub NothingIsFaithful : Type 0
NothingIsFaithful = AreFaithful (record { nodes = set_of.empty; copying = nothing_held })

-- a node that joins, and that no transfer has as its provider, leaves transfers faithful
abbrev pub JoinsStayFaithful : Type 0
JoinsStayFaithful = (stores : Stores) (node : ℕ) → ((segment : ℕ) → ProvidesNone stores.copying.transfers node segment) → AreFaithful stores
    → AreFaithful (record stores { nodes = set_of.insert stores.nodes node })

-- a write to a segment names, of each transfer of it whose provider is there, both provider and receiver or neither
abbrev pub NamesBothOrNeither : Stores → List ℕ → ℕ → Type 0
NamesBothOrNeither stores nodes segment = (receiver : ℕ) (transfer : Transfer) → transfer_to stores.copying.transfers receiver segment ≡ Some transfer
    → set_of.contains stores.nodes transfer.provider ≡ true → among receiver nodes ≡ among transfer.provider nodes

-- such a write or erasure leaves transfers faithful
abbrev pub WritesStayFaithful : Type 0
WritesStayFaithful = (stores : Stores) (nodes : List ℕ) (segment : ℕ) (key : List ℕ) (stamped : Option Stamped) → NamesBothOrNeither stores nodes segment → AreFaithful stores
    → AreFaithful (record stores { copying = changes nodes segment key stamped stores.copying })

-- a chunk that is sent under the conditions of its call leaves transfers faithful
abbrev pub ChunksStayFaithful : Type 0
ChunksStayFaithful = (stores : Stores) (receiver segment provider most : ℕ) → set_of.contains stores.nodes provider ≡ true → (receiver == provider) ≡ false
    → goes_on (transfer_to stores.copying.transfers receiver segment) provider ≡ true → ProvidesNone stores.copying.transfers receiver segment
    → transfer_to stores.copying.transfers provider segment ≡ None → may_send (transfer_to stores.copying.transfers receiver segment) ≡ true → AreFaithful stores
    → AreFaithful (record stores { copying = sends receiver segment provider (chunk_of stores.copying receiver segment provider most) stores.copying })

-- a chunk that lands leaves transfers faithful
abbrev pub LandingsStayFaithful : Type 0
LandingsStayFaithful = (stores : Stores) (receiver segment : ℕ) → AreFaithful stores → AreFaithful (record stores { copying = lands receiver segment stores.copying })

-- copies of a segment that a node drops, where no transfer of it has the node as its receiver or provider, leave transfers faithful
abbrev pub DropsStayFaithful : Type 0
DropsStayFaithful = (stores : Stores) (node segment : ℕ) → transfer_to stores.copying.transfers node segment ≡ None → ProvidesNone stores.copying.transfers node segment → AreFaithful stores
    → AreFaithful (record stores { copying = drops node (λ s. s == segment) stores.copying })

-- transfers that begin anew, are cancelled or closed, and segments that are forgotten leave the others faithful
abbrev pub RestartsStayFaithful : Type 0
RestartsStayFaithful = (stores : Stores) (provider : ℕ) → AreFaithful stores → AreFaithful (record stores { copying = restarts provider stores.copying })

abbrev pub CancelsStayFaithful : Type 0
CancelsStayFaithful = (stores : Stores) (receiver : ℕ) → AreFaithful stores → AreFaithful (record stores { copying = cancels receiver stores.copying })

abbrev pub ForgottenStayFaithful : Type 0
ForgottenStayFaithful = (stores : Stores) (segment : ℕ) → AreFaithful stores → AreFaithful (record stores { copying = forgets (λ s. s == segment) stores.copying })

abbrev pub ClosedStayFaithful : Type 0
ClosedStayFaithful = (stores : Stores) → AreFaithful stores → AreFaithful (record stores { copying = closes stores.copying })

-- a node that departs, to which no transfer leads, leaves transfers faithful
abbrev pub DeparturesStayFaithful : Type 0
DeparturesStayFaithful = (stores : Stores) (node : ℕ) → ((segment : ℕ) → transfer_to stores.copying.transfers node segment ≡ None) → AreFaithful stores
    → AreFaithful (record { nodes = set_of.remove stores.nodes node; copying = drops node (λ _. true) stores.copying })

-- a tick leaves transfers faithful
abbrev pub TicksStayFaithful : Type 0
TicksStayFaithful = (stores : Stores) (clock : ℕ) → AreFaithful stores → AreFaithful (record stores { copying = ticks clock stores.copying })
