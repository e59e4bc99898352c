-- The events of announcements, and the first event that brings the topology on.
use Rattle.std.proofs.Common.{◌≡◌, true, if◌then◌else◌, Option, Some, None, sym, ap, ◌∙◌}
use Rattle.std.specs.Option.{option_and_then}
use Rattle.grid_event.specs.declared.event.Event.{Event}
use Rattle.grid_event.specs.declared.event.Event.TheVariants as events
use Rattle.topology_coord.specs.Coordination.{live_nodes}
use Rattle.topology_coord.specs.Following.{cancels}
use Rattle.topology_phase.specs.Topologies.{Topology}
use Rattle.topology_phase.proofs.SameTopologies.{same_topology_itself}
use Rattle.cluster_model.specs.Commands.{advance_event, announce_event, announce_with, cancel_event, cancel_with, copy_event, first_some, install_event, land_event, or_else}
use Rattle.cluster_model.specs.State.{Holding, segments_of}
use Rattle.cluster_model.specs.Topologies.{can_announce, is_that, next_topology}
use Rattle.cluster_store.proofs.Searches.{some_destination}

-- the next topology may be announced
next_may : (st : Holding) (t : Topology) → next_topology st ≡ Some t → can_announce st t ≡ true
unfolding can_announce
next_may st t is = ap (is_that t) is ∙ same_topology_itself t

-- the next topology is announced, where there is one
pub announce_event-some : (st : Holding) (t : Topology) → next_topology st ≡ Some t → announce_event st ≡ Some (events.Announce t)
announce_event-some st t is =
    ap (option_and_then (announce_with st)) is
    ∙ ap (λ b. if b then Some (events.Announce t) else None) (next_may st t is)

-- where it gives up the rebalance, that is a cancellation
pub cancel_event-some : (st : Holding) (t : Topology) → next_topology st ≡ Some t → cancels st.coord t ≡ true → cancel_event st ≡ Some (events.Announce t)
cancel_event-some st t is gives =
    ap (cancel_with st) is
    ∙ ap (λ b. if b then (if can_announce st t then Some (events.Announce t) else None) else None) gives
    ∙ ap (λ b. if b then Some (events.Announce t) else None) (next_may st t is)

-- the first event that brings the topology on, node by node
pub advance_event-nodes : (st : Holding) (installation cancellation landing copy announcement : Option Event) → installation ≡ first_some (install_event st) (live_nodes st.coord) → cancellation ≡ cancel_event st
    → landing ≡ first_some (λ node. first_some (land_event st node) (segments_of st)) (live_nodes st.coord)
    → copy ≡ first_some (λ node. first_some (copy_event st node) (segments_of st)) (live_nodes st.coord) → announcement ≡ announce_event st
    → or_else installation (or_else cancellation (or_else landing (or_else copy announcement))) ≡ advance_event st
unfolding advance_event
advance_event-nodes st installation cancellation landing copy announcement first second third fourth fifth =
    λ i. or_else (first i) (or_else (second i) (or_else ((third ∙ sym (some_destination st (land_event st))) i) (or_else ((fourth ∙ sym (some_destination st (copy_event st))) i) (fifth i))))
