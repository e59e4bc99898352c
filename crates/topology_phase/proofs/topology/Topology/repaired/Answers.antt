use Rattle.std.proofs.Common.{◌≡◌, ◌+◌, [], true, sym, ap, ◌∙◌, subst}
use Rattle.topology_phase.specs.Owners.{members}
use Rattle.topology_phase.specs.Phases.{NoRebalance, same_phase}
use Rattle.topology_phase.specs.Topologies.{Topology, IsTopology}
use Rattle.topology_phase.specs.Following.{mended_hash, repaired}
use Rattle.topology_phase.proofs.NextTopologies.{repaired_parts, repaired_settled}
use Rattle.topology_phase.proofs.topology.Topology.repaired.Goals as goal

pub new-requires-clause-kept : goal.new-requires-clause-kept
new-requires-clause-kept c =
    let t = c.args.self.now in
    let live = members c.args.live.now in
    let out : same_phase t.phase NoRebalance ≡ true = ap (λ p. same_phase p NoRebalance) (sym c.phase.ensures) ∙ sym c.is.ensures ∙ c.if-is.true in
    let current : c.in_ok-current.current ≡ mended_hash live t.current t.pending = c.in_ok-current.ensures ∙ (λ i. mended_hash (c.new-live.ensures i) (c.current_rows.ensures.rows i) (c.pending_rows.ensures.rows i)) in
    let parts : ◌≡◌ {A = Topology} (record { id = c.next_id.result; phase = NoRebalance; current = c.in_ok-current.current; pending = [] }) (record { id = t.id + 1; phase = NoRebalance; current = mended_hash live t.current t.pending; pending = [] }) =
    λ i. record { id = c.next_id.ensures i; phase = NoRebalance; current = current i; pending = [] } in
    subst IsTopology (sym (parts ∙ repaired_settled t live c.current_rows.ensures.kept out)) (repaired_parts t live c.current_rows.ensures.kept)

pub returns-then-is : goal.returns-then-is
returns-then-is c =
    let t = c.args.self.now in
    let live = members c.args.live.now in
    let out : same_phase t.phase NoRebalance ≡ true = ap (λ p. same_phase p NoRebalance) (sym c.phase.ensures) ∙ sym c.is.ensures ∙ c.if-is.true in
    let current : c.in_ok-current.current ≡ mended_hash live t.current t.pending = c.in_ok-current.ensures ∙ (λ i. mended_hash (c.new-live.ensures i) (c.current_rows.ensures.rows i) (c.pending_rows.ensures.rows i)) in
    let parts : ◌≡◌ {A = Topology} (record { id = c.next_id.result; phase = NoRebalance; current = c.in_ok-current.current; pending = [] }) (record { id = t.id + 1; phase = NoRebalance; current = mended_hash live t.current t.pending; pending = [] }) =
    λ i. record { id = c.next_id.ensures i; phase = NoRebalance; current = current i; pending = [] } in
    c.new.ensures ∙ parts ∙ repaired_settled t live c.current_rows.ensures.kept out

pub new-requires-2-clause-kept : goal.new-requires-2-clause-kept
unfolding repaired
new-requires-2-clause-kept c =
    let t = c.args.self.now in
    let live = members c.args.live.now in
    let current : c.in_ok-current.current ≡ mended_hash live t.current t.pending = c.in_ok-current.ensures ∙ (λ i. mended_hash (c.new-live.ensures i) (c.current_rows.ensures.rows i) (c.pending_rows.ensures.rows i)) in
    let pending : c.in_ok-pending.pending ≡ mended_hash live t.pending t.current = c.in_ok-pending.ensures ∙ (λ i. mended_hash (c.new-live.ensures i) (c.pending_rows-2.ensures.rows i) (c.current_rows-2.ensures.rows i)) in
    let parts : ◌≡◌ {A = Topology} (record { id = c.next_id-2.result; phase = c.phase-2.result; current = c.in_ok-current.current; pending = c.in_ok-pending.pending }) (repaired t live) =
    λ i. record { id = c.next_id-2.ensures i; phase = c.phase-2.ensures i; current = current i; pending = pending i } in
    subst IsTopology (sym parts) (repaired_parts t live c.current_rows.ensures.kept)
