-- What the store tells is what the core has.
use Rattle.std.proofs.Common.{◌≡◌, Bool, ap, subst, sym, ◌∙◌}
use Rattle.std.specs.Result.{IfOk}
use Rattle.cluster_model.specs.Step.{allowed}
use Rattle.cluster_model.specs.Topologies.{can_announce}
use Rattle.cluster_model.specs.Transfers.{can_copy}
use Rattle.cluster_model.specs.Writes.{can_erase, can_write}
use Rattle.cluster_core.proofs.StoreViews.{announce_told, copy_told, depart_told, erase_told, install_told, join_told, land_told, tick_told, write_told}
use Rattle.cluster_core.proofs.cluster.Core.allows.Goals as goal

pub returns-in-Write : goal.returns-in-Write
returns-in-Write c =
    let st = c.args.self.now in
    c.can_write.ensures ∙ write_told c.self.inside st c.self.view_is c.get.result.now ∙ ap (can_write st.holding) c.get.ensures ∙ ap (allowed st) (sym c.in-Write.is)

pub returns-in-Erase : goal.returns-in-Erase
returns-in-Erase c =
    let st = c.args.self.now in
    c.can_erase.ensures ∙ erase_told c.self.inside st c.self.view_is c.get-in-Erase.result.now ∙ ap (can_erase st.holding) c.get-in-Erase.ensures ∙ ap (allowed st) (sym c.in-Erase.is)

pub returns-in-Tick : goal.returns-in-Tick
returns-in-Tick c =
    let st = c.args.self.now in
    c.can_tick.ensures ∙ tick_told c.self.inside st c.self.view_is c.in-Tick.ticks ∙ ap (allowed st) (sym c.in-Tick.is)

pub returns-in-Join : goal.returns-in-Join
returns-in-Join c =
    let st = c.args.self.now in
    c.can_join.ensures ∙ join_told c.self.inside st c.self.view_is c.in-Join.node ∙ ap (allowed st) (sym c.in-Join.is)

pub returns-in-Depart : goal.returns-in-Depart
returns-in-Depart c =
    let st = c.args.self.now in
    c.can_depart.ensures ∙ depart_told c.self.inside st c.self.view_is c.in-Depart.node ∙ ap (allowed st) (sym c.in-Depart.is)

pub returns-in-Install : goal.returns-in-Install
returns-in-Install c =
    let st = c.args.self.now in
    c.can_install.ensures ∙ install_told c.self.inside st c.self.view_is c.in-Install.node c.in-Install.id ∙ ap (allowed st) (sym c.in-Install.is)

pub returns-in-Land : goal.returns-in-Land
returns-in-Land c =
    let st = c.args.self.now in
    c.can_land.ensures ∙ land_told c.self.inside st c.self.view_is c.in-Land.receiver c.in-Land.segment ∙ ap (allowed st) (sym c.in-Land.is)

pub returns-in-Announce : goal.returns-in-Announce
returns-in-Announce c =
    let st = c.args.self.now in
    subst (λ (b : Bool). IfOk c.can_announce.result (λ may. may ≡ b))
    (announce_told c.self.inside st c.self.view_is c.get-in-Announce.result.now ∙ ap (can_announce st.holding) c.get-in-Announce.ensures ∙ ap (allowed st) (sym c.in-Announce.is)) c.can_announce.ensures

pub returns-in-Copy : goal.returns-in-Copy
returns-in-Copy c =
    let st = c.args.self.now in
    subst (λ (b : Bool). IfOk c.can_copy.result (λ may. may ≡ b))
    (copy_told c.self.inside st c.self.view_is c.get-in-Copy.result.now ∙ ap (can_copy st.holding) c.get-in-Copy.ensures ∙ ap (allowed st) (sym c.in-Copy.is)) c.can_copy.ensures
