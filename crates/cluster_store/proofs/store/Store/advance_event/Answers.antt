-- The first that there is.
use Rattle.std.proofs.Common.{◌≡◌, Option, Some, None, refl, subst, sym, ◌∙◌}
use Rattle.std.specs.Result.{IfOk}
use Rattle.grid_event.specs.declared.event.Event.{Event}
use Rattle.topology_coord.specs.Coordination.{live_nodes}
use Rattle.cluster_model.specs.Commands.{announce_event, copy_event, first_some}
use Rattle.cluster_model.specs.State.{Holding, segments_of}
use Rattle.cluster_store.proofs.EventLaws.{advance_event-nodes}
use Rattle.cluster_store.proofs.store.Store.advance_event.Goals as goal

-- a copy to the least live node to which one may be sent
abbrev any_copy : Holding → Option Event
any_copy st = first_some (λ node. first_some (copy_event st node) (segments_of st)) (live_nodes st.coord)

pub returns-in-Some-any_landing : goal.returns-in-Some-any_landing
returns-in-Some-any_landing c =
    let st = c.args.self.now in
    advance_event-nodes st None None (Some c.in-Some-any_landing.event) (any_copy st) (announce_event st) c.in_default.ensures (sym c.in_default-2.is ∙ c.in_ok-event.ensures) c.in-Some-any_landing.ensures refl refl

pub returns-in-Some-3 : goal.returns-in-Some-3
returns-in-Some-3 c =
    let st = c.args.self.now in
    advance_event-nodes st None None None (Some c.in-Some-3.event) (announce_event st) c.in_default.ensures (sym c.in_default-2.is ∙ c.in_ok-event.ensures) c.in_default-any_landing.ensures
    (sym c.in-Some-3.is ∙ c.in_ok-event-2.ensures) refl

pub returns : goal.returns
returns c =
    let st = c.args.self.now in
    subst (λ (x : Option Event). IfOk c.announce_event.result (λ event. event ≡ x))
    (advance_event-nodes st None None None None (announce_event st) c.in_default.ensures (sym c.in_default-2.is ∙ c.in_ok-event.ensures) c.in_default-any_landing.ensures
    (sym c.in_default-3.is ∙ c.in_ok-event-2.ensures) refl)
    c.announce_event.ensures
