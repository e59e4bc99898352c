-- Hints: what a store keeps beside what it holds, so that it needn't search. A hint may say that it knows nothing; it is never wrong.
use Rattle.std.specs.Prelude.{◌≡◌, ℕ, ◌<◌, ◌==◌, nat_lt, ◌&&◌, Bool, true, false, if◌then◌else◌, slice_get, Option, None, Some}
use Rattle.std.specs.FinSet as set_of
use Rattle.std.specs.Ordering.{nat_cmp}
use Rattle.std.specs.Bool.{⊤}
use Rattle.topology_coord.specs.Coordination.{Coordination}
use Rattle.topology_coord.specs.Following.{cancels, following}
use Rattle.topology_phase.specs.Topologies.{Topology}
use Rattle.cluster_model.specs.State.{Holding}
use Rattle.state_transfer.specs.Chunks.{flies}
use Rattle.state_transfer.specs.Copying.{Transfers, transfer_to}
use Rattle.cluster_store.specs.Sending.{sender}
use Rattle.cluster_store.specs.declared.hints.Hints.{Hints}
use Rattle.cluster_store.specs.declared.hints.ahead.Ahead.{Ahead}
use Rattle.cluster_store.specs.declared.hints.ahead.Ahead.TheVariants.{Unknown, NoCancellation, AwaitsCopies, NoTopology}
use Rattle.cluster_store.specs.declared.hints.flying.Flying.{Flying}
use Rattle.cluster_store.specs.declared.hints.flying.Flying.TheVariants as flights
use Rattle.cluster_store.specs.declared.hints.place.Place.{Place}

-- there is a next topology, and it gives up the rebalance
abbrev pub gives_up : Coordination → Option Topology → Bool
gives_up coord None = false
gives_up coord (Some next) = cancels coord next

-- what is known of what follows, whether receivers have their copies or not
abbrev pub IsAhead : Ahead → Coordination → Type 0
IsAhead Unknown coord = ⊤
IsAhead NoCancellation coord = (copied : Bool) → gives_up coord (following copied coord) ≡ false
IsAhead AwaitsCopies coord = (following false coord ≡ None) × (gives_up coord (following true coord) ≡ false)
IsAhead NoTopology coord = (copied : Bool) → following copied coord ≡ None

-- for all that the hint says, a chunk of the segment may fly to the receiver
abbrev pub in_set : Option (set_of.FinSet nat_cmp) → ℕ → Bool
in_set None segment = false
in_set (Some set) segment = set_of.contains set segment

abbrev pub may_fly : Flying → ℕ → ℕ → Bool
may_fly (flights.To sets) receiver segment = in_set (slice_get sets receiver) segment
may_fly flights.Unknown receiver segment = true

-- nothing flies but where the hint says so
abbrev pub IsFlying : Flying → Transfers → Type 0
IsFlying flying transfers = (r s : ℕ) → may_fly flying r s ≡ false → flies (transfer_to transfers r s) ≡ false

-- the later hint says so of the place, and wherever the earlier one does
abbrev pub IsWith : Flying → ℕ → ℕ → Flying → Type 0
IsWith before receiver segment after =
    (r s : ℕ) → may_fly after r s ≡ false → (((r == receiver) && (s == segment)) ≡ false) × (may_fly before r s ≡ false)

-- wherever the earlier hint says so, the later one does, but perhaps at the place
abbrev pub IsWithout : Flying → ℕ → ℕ → Flying → Type 0
IsWithout before receiver segment after =
    (r s : ℕ) → ((r == receiver) && (s == segment)) ≡ false → may_fly after r s ≡ false → may_fly before r s ≡ false

-- the first place in the order by receiver and then by segment
abbrev pub first_place : Place
first_place = record { receiver = 0; segment = 0 }

-- a place, or that of a receiver and a segment where that one comes first
abbrev pub back_to : Place → ℕ → ℕ → Place
back_to place receiver segment =
    if nat_lt receiver place.receiver
    then record { receiver = receiver; segment = segment }
    else if (receiver == place.receiver) && nat_lt segment place.segment then record { receiver = receiver; segment = segment } else place

-- no chunk may be sent before the place: to no receiver before that of the place, and to that one of no segment before it
pub record IsPassed (st : Holding) (receiver segment : ℕ) : Type 0 where
  pub receivers : (r s : ℕ) → r < receiver → s < st.config.segments → sender st r s ≡ None
  pub segments : (s : ℕ) → s < segment → s < st.config.segments → sender st receiver s ≡ None

-- the hints once members or topologies have changed
abbrev pub hints_changed : Ahead → Hints → Hints
hints_changed ahead hints = record hints { ahead = ahead; from = first_place }

-- a topology was announced, which keeps the transfers or closes them all
pub record WasAnnounced (keeps : Bool) (before after : Hints) : Type 0 where
  pub ahead : after.ahead ≡ Unknown
  pub from : after.from ≡ first_place
  pub kept : keeps ≡ true → after.flying ≡ before.flying
  pub closed : keeps ≡ false → (r s : ℕ) → may_fly after.flying r s ≡ false

-- a chunk of the segment was sent to the receiver
pub record WasSent (receiver segment : ℕ) (before after : Hints) : Type 0 where
  pub ahead : after.ahead ≡ before.ahead
  pub from : after.from ≡ before.from
  pub flying : IsWith before.flying receiver segment after.flying

-- and it landed
pub record WasLanded (receiver segment : ℕ) (before after : Hints) : Type 0 where
  pub ahead : after.ahead ≡ before.ahead
  pub from : after.from ≡ back_to before.from receiver segment
  pub flying : IsWithout before.flying receiver segment after.flying

-- no hint of what is held is wrong
pub record AreHints (hints : Hints) (st : Holding) : Type 0 where
  pub ahead : IsAhead hints.ahead st.coord
  pub flying : IsFlying hints.flying st.copying.transfers
  pub passed : IsPassed st hints.from.receiver hints.from.segment
