-- The segments are looked at in their order.
use Rattle.std.proofs.Common.{◌≡◌, ℕ, ◌&&◌, Bool, true, not, nat_lt, arith, ap, sym, ◌∙◌}
use Rattle.std.proofs.lemmas.Bool.{not_from_false}
use Rattle.std.specs.FinSet as set_of
use Rattle.grid_event.specs.declared.config.Config.{Config}
use Rattle.topology_coord.specs.Coordination.{Coordination}
use Rattle.topology_coord.proofs.SoFar.{add_so_far, none_so_far}
use Rattle.topology_phase.specs.Owners.{among}
use Rattle.topology_phase.specs.Topologies.{Topology, read_owners}
use Rattle.cluster_laws.proofs.causes.CauseRuns.{few_segments}
use Rattle.cluster_core.proofs.cluster.losses.unread.Goals as goal

pub loop-number-init : goal.loop-number-init
loop-number-init c = none_so_far _ c.new-unread.result c.new-unread.ensures

pub add-requires : goal.add-requires
add-requires c =
    let st = c.args.store.now in
    let few = few_segments st.config c.config-number-end.ensures.limits in
    omega (arith, few, c.loop-number-test.true, ap (λ (x : Config). x.segments) c.config-number-end.ensures.config, c.new-segment.ensures)

pub loop-number-preserved : goal.loop-number-preserved
loop-number-preserved c =
    let st = c.args.store.now in
    let node = c.args.node in
    let test : ℕ → Bool = λ q. not (among node (read_owners st.coord.newest q)) in
    let newest = c.newest.ensures.newest ∙ ap (λ (x : Coordination). x.newest) c.coord.ensures.coord in
    let told = c.reads.ensures ∙ ap (λ (t : Topology). among node (read_owners t c.new-segment.result)) newest in
    let passes : test c.loop-number.number ≡ true =
    ap test (sym c.new-segment.ensures)
    ∙ not_from_false (among node (read_owners st.coord.newest c.new-segment.result)) (sym told ∙ c.if-reads.false) in
    add_so_far test c.loop-number.number c.loop-number.unread c.add.new.self c.loop-number.invariant (c.add.ensures ∙ ap (set_of.insert c.loop-number.unread) c.new-segment.ensures) passes

pub returns : goal.returns
returns c = λ s.
    let st = c.args.store.now in
    let node = c.args.node in
    let all : c.loop-number.number ≡ st.config.segments = omega (arith, ap (λ (x : Config). x.segments) c.config-number-end.ensures.config) in
    c.loop-number.invariant s ∙ ap (λ n. nat_lt s n && not (among node (read_owners st.coord.newest s))) all
