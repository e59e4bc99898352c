-- What may be announced is the next topology.
use Rattle.std.proofs.Common.{cond, ap, subst, ◌∙◌}
use Rattle.state_transfer.specs.Leaving.{closes}
use Rattle.topology_phase.specs.Phases.{same_phase}
use Rattle.topology_phase.specs.declared.phase.Phase.TheVariants.{ReadOld}
use Rattle.cluster_store.specs.Insides.{holding_of}
use Rattle.cluster_model.specs.Topologies.{all_copied}
use Rattle.cluster_store.specs.Hints.{WasAnnounced}
use Rattle.cluster_store.proofs.Rows.{announce_next, announce_row}
use Rattle.cluster_store.proofs.store.Store.announce.Goals as goal

pub announce-requires : goal.announce-requires
announce-requires c = (all_copied (holding_of c.self.inside), announce_next c.self.inside c.args.self.now c.args.topology c.self.view_is c.requires)

pub invariant_of-self : goal.invariant_of-self
invariant_of-self c =
    let stores = c.self.inside.copies in
    (announce_row c.self.inside c.args.self.now c.args.topology c.announce.new.self c.self.inside.copies c.announce-2.new.self c.self.invariant c.self.view_is c.requires c.announce.ensures
    (ap (λ keeps. record stores { copying = cond keeps stores.copying (closes stores.copying) }) (c.if-keeps.ensures ∙ ap (λ phase. same_phase phase ReadOld) c.phase.ensures)) (subst (λ keeps. WasAnnounced keeps c.self.inside.hints c.announce-2.new.self) (c.is-keeps.ensures ∙ ap (λ phase. same_phase phase ReadOld) c.phase.ensures) c.announce-2.ensures)).store

pub returns-then-keeps : goal.returns-then-keeps
returns-then-keeps c =
    let stores = c.self.inside.copies in
    (announce_row c.self.inside c.args.self.now c.args.topology c.announce.new.self c.self.inside.copies c.announce-2.new.self c.self.invariant c.self.view_is c.requires c.announce.ensures
    (ap (λ keeps. record stores { copying = cond keeps stores.copying (closes stores.copying) }) (c.if-keeps.ensures ∙ ap (λ phase. same_phase phase ReadOld) c.phase.ensures)) (subst (λ keeps. WasAnnounced keeps c.self.inside.hints c.announce-2.new.self) (c.is-keeps.ensures ∙ ap (λ phase. same_phase phase ReadOld) c.phase.ensures) c.announce-2.ensures)).seen

pub invariant_of-self-2 : goal.invariant_of-self-2
invariant_of-self-2 c =
    let stores = c.self.inside.copies in
    (announce_row c.self.inside c.args.self.now c.args.topology c.announce.new.self c.close_all.new.self c.announce-2.new.self c.self.invariant c.self.view_is c.requires c.announce.ensures
    (c.close_all.ensures ∙ ap (λ keeps. record stores { copying = cond keeps stores.copying (closes stores.copying) }) (c.if-keeps.ensures ∙ ap (λ phase. same_phase phase ReadOld) c.phase.ensures)) (subst (λ keeps. WasAnnounced keeps c.self.inside.hints c.announce-2.new.self) (c.is-keeps.ensures ∙ ap (λ phase. same_phase phase ReadOld) c.phase.ensures) c.announce-2.ensures)).store

pub returns : goal.returns
returns c =
    let stores = c.self.inside.copies in
    (announce_row c.self.inside c.args.self.now c.args.topology c.announce.new.self c.close_all.new.self c.announce-2.new.self c.self.invariant c.self.view_is c.requires c.announce.ensures
    (c.close_all.ensures ∙ ap (λ keeps. record stores { copying = cond keeps stores.copying (closes stores.copying) }) (c.if-keeps.ensures ∙ ap (λ phase. same_phase phase ReadOld) c.phase.ensures)) (subst (λ keeps. WasAnnounced keeps c.self.inside.hints c.announce-2.new.self) (c.is-keeps.ensures ∙ ap (λ phase. same_phase phase ReadOld) c.phase.ensures) c.announce-2.ensures)).seen
