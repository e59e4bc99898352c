-- The live nodes are looked at in their order.
use Rattle.std.proofs.Common.{◌≤◌, ◌<◌, length, arith, ap, sym, ◌∙◌}
use Rattle.cluster_model.specs.Commands.{copy_event, first_some}
use Rattle.cluster_model.specs.State.{segments_of}
use Rattle.cluster_store.proofs.Searches.{none_here, none_left, some_here}
use Rattle.cluster_store.proofs.store.Store.any_copy.Goals as goal

pub loop-place-init : goal.loop-place-init
loop-place-init c =
    let st = c.args.self.now in
    ap (first_some (λ node. first_some (copy_event st node) (segments_of st))) (c.new-nodes.ensures ∙ c.live.ensures.members)

pub returns-then-is_some : goal.returns-then-is_some
returns-then-is_some c =
    let st = c.args.self.now in
    let within : c.loop-place.place < length c.new-nodes.result = omega (arith, c.loop-place-test.true, c.len-place-end.ensures.len) in
    some_here (λ node. first_some (copy_event st node) (segments_of st)) c.new-nodes.result c.loop-place.place c.get.result within (sym c.get.ensures) c.in_ok-event.event c.in_ok-event.ensures (sym c.if-is_some.ensures)
    ∙ c.loop-place.invariant

pub loop-place-preserved : goal.loop-place-preserved
loop-place-preserved c =
    let st = c.args.self.now in
    let within : c.loop-place.place < length c.new-nodes.result = omega (arith, c.loop-place-test.true, c.len-place-end.ensures.len) in
    sym
    (none_here (λ node. first_some (copy_event st node) (segments_of st)) c.new-nodes.result c.loop-place.place c.get.result within (sym c.get.ensures) c.in_ok-event.event c.in_ok-event.ensures
    (sym c.if-is_some.ensures))
    ∙ c.loop-place.invariant

pub returns : goal.returns
returns c =
    let st = c.args.self.now in
    let past : length c.new-nodes.result ≤ c.loop-place.place = omega (arith, c.loop-place-test.false, c.len-place-end.ensures.len) in
    sym (none_left (λ node. first_some (copy_event st node) (segments_of st)) c.new-nodes.result c.loop-place.place past) ∙ c.loop-place.invariant
