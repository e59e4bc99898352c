-- The pending owners are looked at in their order.
use Rattle.std.proofs.Common.{◌≡◌, ◌≤◌, ◌<◌, length, get_or, arith, ap, sym, ◌∙◌}
use Rattle.std.specs.List.{list_all}
use Rattle.std.proofs.lemmas.Option.{get_or_from_slice_get}
use Rattle.topology_phase.specs.Owners.{owners_at}
use Rattle.topology_phase.specs.Topologies.{Topology}
use Rattle.cluster_model.specs.State.{Holding}
use Rattle.cluster_store.specs.Receivers.{has_copies}
use Rattle.cluster_store.proofs.Searches.{all_here, all_left, all_on}
use Rattle.cluster_store.proofs.store.Store.is_copied.Goals as goal

pub loop-place-init : goal.loop-place-init
loop-place-init c =
    ap (list_all (has_copies c.args.self.now c.args.segment))
    (c.pending_owners-owners.ensures
    ∙ ap (λ (t : Topology). owners_at t.pending c.args.segment) c.newest.ensures.newest
    ∙ ap (λ (st : Holding). owners_at st.coord.newest.pending c.args.segment) c.self.view_is)

pub returns-then-not-has_copies : goal.returns-then-not-has_copies
returns-then-not-has_copies c =
    let owners = c.pending_owners-owners.result in
    let within : c.loop-place.place < length owners = omega (arith, c.loop-place-test.true, c.len-place-end.ensures.len) in
    let there : get_or owners c.loop-place.place 0 ≡ c.in-Some.node = get_or_from_slice_get owners c.loop-place.place c.in-Some.node 0 (sym c.in-Some.ensures) in
    sym (all_here (has_copies c.args.self.now c.args.segment) owners c.loop-place.place c.in-Some.node within there (sym c.if-not-has_copies.ensures)) ∙ c.loop-place.invariant

pub loop-place-preserved : goal.loop-place-preserved
loop-place-preserved c =
    let owners = c.pending_owners-owners.result in
    let within : c.loop-place.place < length owners = omega (arith, c.loop-place-test.true, c.len-place-end.ensures.len) in
    let there : get_or owners c.loop-place.place 0 ≡ c.in-Some.node = get_or_from_slice_get owners c.loop-place.place c.in-Some.node 0 (sym c.in-Some.ensures) in
    sym (all_on (has_copies c.args.self.now c.args.segment) owners c.loop-place.place c.in-Some.node within there (sym c.if-not-has_copies.ensures)) ∙ c.loop-place.invariant

pub returns : goal.returns
returns c =
    let past : length c.pending_owners-owners.result ≤ c.loop-place.place = omega (arith, c.loop-place-test.false, c.len-place-end.ensures.len) in
    sym (all_left (has_copies c.args.self.now c.args.segment) c.pending_owners-owners.result c.loop-place.place past) ∙ c.loop-place.invariant
