-- Segments that aren't written are dropped one after another.
use Rattle.std.proofs.Common.{◌≡◌, ℕ, ◌==◌, ◌&&◌, Bool, true, false, not, nat_lt, length, arith, ap, sym, ◌∙◌}
use Rattle.std.proofs.lemmas.Bool.{not_from_false}
use Rattle.state_transfer.specs.Copying.{Copying, Stores, Transfers, transfer_to}
use Rattle.state_transfer.specs.Leaving.{drops}
use Rattle.state_transfer.proofs.LeavingLaws.{transfer-drops}
use Rattle.topology_phase.specs.Owners.{among}
use Rattle.topology_phase.specs.Topologies.{write_owners}
use Rattle.cluster_store.proofs.LeftCopies.{drops_first, drops_next}
use Rattle.cluster_store.proofs.store.topologies.drop_unwritten.Goals as goal

pub loop-number-init : goal.loop-number-init
loop-number-init c =
    let before = c.args.copies.now in
    ap (λ (left : Copying). record before { copying = left }) (drops_first c.args.node (λ s. not (among c.args.node (write_owners c.args.topology.now s))) before.copying)

pub drop_segment-requires-clause-no_receiver : goal.drop_segment-requires-clause-no_receiver
drop_segment-requires-clause-no_receiver c =
    let before = c.args.copies.now in
    let node = c.args.node in
    let segment = c.new-segment.result in
    let unwritten : among node (write_owners c.args.topology.now segment) ≡ false = ap (among node) (sym c.write_owners.ensures) ∙ sym c.if-has.ensures in
    ap (λ (x : Stores). transfer_to x.copying.transfers node segment) c.loop-number.invariant
    ∙ ap (λ (ts : Transfers). transfer_to ts node segment) (transfer-drops node (λ s. nat_lt s c.loop-number.number && not (among node (write_owners c.args.topology.now s))) before.copying)
    ∙ c.requires.no_receiver segment unwritten

pub drop_segment-requires-clause-no_provider : goal.drop_segment-requires-clause-no_provider
drop_segment-requires-clause-no_provider c receiver transfer there =
    let before = c.args.copies.now in
    let node = c.args.node in
    let segment = c.new-segment.result in
    let unwritten : among node (write_owners c.args.topology.now segment) ≡ false = ap (among node) (sym c.write_owners.ensures) ∙ sym c.if-has.ensures in
    c.requires.no_provider segment unwritten receiver transfer
    (sym
    (ap (λ (x : Stores). transfer_to x.copying.transfers receiver segment) c.loop-number.invariant
    ∙ ap (λ (ts : Transfers). transfer_to ts receiver segment) (transfer-drops node (λ s. nat_lt s c.loop-number.number && not (among node (write_owners c.args.topology.now s))) before.copying))
    ∙ there)

pub loop-number-preserved : goal.loop-number-preserved
loop-number-preserved c =
    let before = c.args.copies.now in
    let node = c.args.node in
    let test : ℕ → Bool = λ s. not (among node (write_owners c.args.topology.now s)) in
    let passes : test c.loop-number.number ≡ true =
    ap test (sym c.new-segment.ensures)
    ∙ not_from_false (among node (write_owners c.args.topology.now c.new-segment.result)) (ap (among node) (sym c.write_owners.ensures) ∙ sym c.if-has.ensures) in
    c.drop_segment.ensures
    ∙ (λ i. record (c.loop-number.invariant i) { copying = drops node (λ s. s == c.new-segment.ensures i) (c.loop-number.invariant i).copying })
    ∙ ap (λ (left : Copying). record before { copying = left }) (drops_next node test c.loop-number.number before.copying passes)

pub returns-clause-dropped : goal.returns-clause-dropped
returns-clause-dropped c =
    let before = c.args.copies.now in
    let node = c.args.node in
    let all : c.loop-number.number ≡ length c.args.topology.now.current = omega (arith, c.segments-number-end.ensures.segments) in
    c.loop-number.invariant
    ∙ ap (λ n. record before { copying = drops node (λ s. nat_lt s n && not (among node (write_owners c.args.topology.now s))) before.copying }) all
