-- The value stands at the live writers.
use Rattle.std.proofs.Common.{◌∙◌, Some, ap, sym}
use Rattle.std.specs.FinSet as set_of
use Rattle.container_seg.specs.Lifespans.{outlasts}
use Rattle.state_transfer.specs.Changes.{changes}
use Rattle.topology_phase.specs.Owners.{pruned}
use Rattle.cluster_model.specs.State.{Holding}
use Rattle.cluster_store.proofs.Rows.{write_lasts, write_row, written_nowhere}
use Rattle.cluster_store.proofs.store.Store.write.Goals as goal

pub returns-in_default-clause-ok : goal.returns-in_default-clause-ok
returns-in_default-clause-ok c = written_nowhere c.args.self.now c.args.write.now (sym c.in_default.ensures.segment)

pub write_at-requires : goal.write_at-requires
write_at-requires c = ap (λ (st : Holding). outlasts st.copying.clock c.args.write.now.until) c.self.view_is ∙ write_lasts c.args.self.now c.args.write.now c.requires

pub invariant_of-self-2 : goal.invariant_of-self-2
invariant_of-self-2 c =
    let stores = c.self.inside.copies in
    (write_row c.self.inside c.args.self.now c.args.write.now c.in-Some.segment c.write_at.new.self c.self.invariant c.self.view_is c.requires (sym c.in-Some.ensures.segment)
    (c.in_ok-write_at.ensures.ok
    ∙ (λ i. record stores { copying = changes (pruned (set_of.contains stores.nodes) (c.writers-owners.ensures i)) c.in-Some.segment c.args.write.now.key (Some (record { value = c.in_ok-value.ensures i; until = c.args.write.now.until })) stores.copying }))).store

pub returns-clause-ok : goal.returns-clause-ok
returns-clause-ok c =
    let stores = c.self.inside.copies in
    (write_row c.self.inside c.args.self.now c.args.write.now c.in-Some.segment c.write_at.new.self c.self.invariant c.self.view_is c.requires (sym c.in-Some.ensures.segment)
    (c.in_ok-write_at.ensures.ok
    ∙ (λ i. record stores { copying = changes (pruned (set_of.contains stores.nodes) (c.writers-owners.ensures i)) c.in-Some.segment c.args.write.now.key (Some (record { value = c.in_ok-value.ensures i; until = c.args.write.now.until })) stores.copying }))).seen
