-- Nothing stands at the live writers.
use Rattle.std.proofs.Common.{◌∙◌, None, ap, sym}
use Rattle.std.specs.FinSet as set_of
use Rattle.state_transfer.specs.Changes.{changes}
use Rattle.topology_phase.specs.Owners.{pruned}
use Rattle.cluster_store.proofs.Rows.{erase_row, erased_nowhere}
use Rattle.cluster_store.proofs.store.Store.erase.Goals as goal

pub returns-in_default-clause-ok : goal.returns-in_default-clause-ok
returns-in_default-clause-ok c = erased_nowhere c.args.self.now c.args.erase.now (sym c.in_default.ensures.segment)

pub invariant_of-self-2 : goal.invariant_of-self-2
invariant_of-self-2 c =
    let stores = c.self.inside.copies in
    (erase_row c.self.inside c.args.self.now c.args.erase.now c.in-Some.segment c.write_at.new.self c.self.invariant c.self.view_is c.requires (sym c.in-Some.ensures.segment)
    (c.in_ok-write_at.ensures.ok
    ∙ ap (λ owners. record stores { copying = changes (pruned (set_of.contains stores.nodes) owners) c.in-Some.segment c.args.erase.now.key None stores.copying }) c.writers-owners.ensures)).store

pub returns-clause-ok : goal.returns-clause-ok
returns-clause-ok c =
    let stores = c.self.inside.copies in
    (erase_row c.self.inside c.args.self.now c.args.erase.now c.in-Some.segment c.write_at.new.self c.self.invariant c.self.view_is c.requires (sym c.in-Some.ensures.segment)
    (c.in_ok-write_at.ensures.ok
    ∙ ap (λ owners. record stores { copying = changes (pruned (set_of.contains stores.nodes) owners) c.in-Some.segment c.args.erase.now.key None stores.copying }) c.writers-owners.ensures)).seen
