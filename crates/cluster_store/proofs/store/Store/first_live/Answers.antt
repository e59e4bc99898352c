-- The owners are looked at in their order.
use Rattle.std.proofs.Common.{◌≡◌, ◌≤◌, ◌<◌, length, get_or, arith, sym, ◌∙◌}
use Rattle.std.proofs.lemmas.Option.{get_or_from_slice_get}
use Rattle.topology_coord.specs.Coordination.{lives}
use Rattle.cluster_store.proofs.Searches.{find_here, find_none, find_on}
use Rattle.cluster_store.proofs.store.Store.first_live.Goals as goal

pub returns-then-is_live : goal.returns-then-is_live
returns-then-is_live c =
    let owners = c.args.owners.now in
    let within : c.loop-place.place < length owners = omega (arith, c.loop-place-test.true, c.len-place-end.ensures.len) in
    let there : get_or owners c.loop-place.place 0 ≡ c.in_ok-node.node = get_or_from_slice_get owners c.loop-place.place c.in_ok-node.node 0 (sym c.in_ok-node.ensures) in
    sym (find_here (lives c.args.self.now.coord) owners c.loop-place.place c.in_ok-node.node within there (sym c.if-is_live.ensures.is_live)) ∙ c.loop-place.invariant

pub loop-place-preserved : goal.loop-place-preserved
loop-place-preserved c =
    let owners = c.args.owners.now in
    let within : c.loop-place.place < length owners = omega (arith, c.loop-place-test.true, c.len-place-end.ensures.len) in
    let there : get_or owners c.loop-place.place 0 ≡ c.in_ok-node.node = get_or_from_slice_get owners c.loop-place.place c.in_ok-node.node 0 (sym c.in_ok-node.ensures) in
    sym (find_on (lives c.args.self.now.coord) owners c.loop-place.place c.in_ok-node.node within there (sym c.if-is_live.ensures.is_live)) ∙ c.loop-place.invariant

pub returns : goal.returns
returns c =
    let past : length c.args.owners.now ≤ c.loop-place.place = omega (arith, c.loop-place-test.false, c.len-place-end.ensures.len) in
    sym (find_none (lives c.args.self.now.coord) c.args.owners.now c.loop-place.place past) ∙ c.loop-place.invariant
