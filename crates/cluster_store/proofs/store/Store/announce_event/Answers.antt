-- The next topology is announced.
use Rattle.std.proofs.Common.{◌≡◌, Option, subst, sym, ◌∙◌}
use Rattle.std.specs.Result.{IfOk}
use Rattle.grid_event.specs.declared.event.Event.{Event}
use Rattle.cluster_store.proofs.EventLaws.{announce_event-some}
use Rattle.cluster_store.proofs.store.Store.announce_event.Goals as goal

pub returns-in-Some : goal.returns-in-Some
returns-in-Some c =
    subst (λ (x : Option Event). IfOk c.announcement.result (λ event. event ≡ x))
    (sym (announce_event-some c.args.self.now c.in-Some.next (sym c.in_ok-next_topology.ensures ∙ c.in-Some.is))) c.announcement.ensures
