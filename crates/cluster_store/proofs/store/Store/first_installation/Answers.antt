-- The live nodes are looked at in their order.
use Rattle.std.proofs.Common.{◌≤◌, ◌<◌, length, arith, ap, sym, ◌∙◌}
use Rattle.cluster_model.specs.Commands.{first_some, install_event}
use Rattle.cluster_store.proofs.Searches.{none_here, none_left, some_here}
use Rattle.cluster_store.proofs.store.Store.first_installation.Goals as goal

pub loop-place-init : goal.loop-place-init
loop-place-init c = ap (first_some (install_event c.args.self.now)) (c.new-nodes.ensures ∙ c.live.ensures.members)

pub returns-then-is_some : goal.returns-then-is_some
returns-then-is_some c =
    let within : c.loop-place.place < length c.new-nodes.result = omega (arith, c.loop-place-test.true, c.len-place-end.ensures.len) in
    some_here (install_event c.args.self.now) c.new-nodes.result c.loop-place.place c.get.result within (sym c.get.ensures) c.install_event-event.result c.install_event-event.ensures (sym c.if-is_some.ensures)
    ∙ c.loop-place.invariant

pub loop-place-preserved : goal.loop-place-preserved
loop-place-preserved c =
    let within : c.loop-place.place < length c.new-nodes.result = omega (arith, c.loop-place-test.true, c.len-place-end.ensures.len) in
    sym (none_here (install_event c.args.self.now) c.new-nodes.result c.loop-place.place c.get.result within (sym c.get.ensures) c.install_event-event.result c.install_event-event.ensures (sym c.if-is_some.ensures))
    ∙ c.loop-place.invariant

pub returns : goal.returns
returns c =
    let past : length c.new-nodes.result ≤ c.loop-place.place = omega (arith, c.loop-place-test.false, c.len-place-end.ensures.len) in
    sym (none_left (install_event c.args.self.now) c.new-nodes.result c.loop-place.place past) ∙ c.loop-place.invariant
