-- What the store chooses is what the core chooses.
use Rattle.std.proofs.Common.{◌≡◌, Option, ap, subst, sym, ◌∙◌}
use Rattle.std.specs.Result.{IfOk}
use Rattle.grid_event.specs.declared.event.Event.{Event}
use Rattle.cluster_model.specs.Commands.{chosen}
use Rattle.cluster_core.proofs.StoreViews.{advance_told, announces_told, copies_told, installs_told, lands_told}
use Rattle.cluster_core.proofs.cluster.Core.choose.Goals as goal

pub returns-in-Announce : goal.returns-in-Announce
unfolding chosen
returns-in-Announce c =
    let st = c.args.self.now in
    subst (λ (x : Option Event). IfOk c.announce_event.result (λ event. event ≡ x)) (announces_told c.self.inside st c.self.view_is ∙ ap (chosen st) (sym c.in-Announce.is)) c.announce_event.ensures

pub returns-in-Install : goal.returns-in-Install
unfolding chosen
returns-in-Install c =
    let st = c.args.self.now in
    c.install_event.ensures ∙ installs_told c.self.inside st c.self.view_is c.in-Install.node ∙ ap (chosen st) (sym c.in-Install.is)

pub returns-in-Copy : goal.returns-in-Copy
unfolding chosen
returns-in-Copy c =
    let st = c.args.self.now in
    subst (λ (x : Option Event). IfOk c.copy_event.result (λ event. event ≡ x)) (copies_told c.self.inside st c.self.view_is c.in-Copy.receiver c.in-Copy.segment ∙ ap (chosen st) (sym c.in-Copy.is)) c.copy_event.ensures

pub returns-in-Land : goal.returns-in-Land
unfolding chosen
returns-in-Land c =
    let st = c.args.self.now in
    c.land_event.ensures ∙ lands_told c.self.inside st c.self.view_is c.in-Land.receiver c.in-Land.segment ∙ ap (chosen st) (sym c.in-Land.is)

pub returns-in-Advance : goal.returns-in-Advance
unfolding chosen
returns-in-Advance c =
    let st = c.args.self.now in
    subst (λ (x : Option Event). IfOk c.advance_event.result (λ event. event ≡ x)) (advance_told c.self.inside st c.self.view_is ∙ ap (chosen st) (sym c.in-Advance.is)) c.advance_event.ensures
