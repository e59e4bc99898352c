-- The first that there is at a node.
use Rattle.std.proofs.Common.{◌≡◌, ℕ, Option, Some, None, refl, subst, sym, ◌∙◌}
use Rattle.std.specs.Result.{IfOk}
use Rattle.grid_event.specs.declared.event.Event.{Event}
use Rattle.cluster_model.specs.Commands.{copy_event, first_some, land_event, served_event, units_at}
use Rattle.cluster_model.specs.State.{State, segments_of}
use Rattle.cluster_core.proofs.Choices.{served}
use Rattle.cluster_core.proofs.StoreViews.{first_copy_told, first_land_told, installs_told}
use Rattle.cluster_core.proofs.cluster.Core.serve_event.Goals as goal

-- the landing and the copy at a node, and the event of its units
abbrev landing : State → ℕ → Option Event
landing st node = first_some (land_event st.holding node) (segments_of st.holding)

abbrev copying : State → ℕ → Option Event
copying st node = first_some (copy_event st.holding node) (segments_of st.holding)

abbrev serving : State → ℕ → Option Event
serving st node = first_some (served_event st) (units_at st.calling node)

pub returns-in-Some : goal.returns-in-Some
returns-in-Some c =
    let st = c.args.self.now in
    let node = c.args.node in
    served st node (Some c.in-Some.event) (landing st node) (copying st node) (serving st node) (c.in-Some.ensures ∙ installs_told c.self.inside st c.self.view_is node) refl refl refl

pub returns-in-Some-first_landing : goal.returns-in-Some-first_landing
returns-in-Some-first_landing c =
    let st = c.args.self.now in
    let node = c.args.node in
    served st node None (Some c.in-Some-first_landing.event) (copying st node) (serving st node) (c.in_default.ensures ∙ installs_told c.self.inside st c.self.view_is node)
    (c.in-Some-first_landing.ensures ∙ first_land_told c.self.inside st c.self.view_is node) refl refl

pub returns-in-Some-2 : goal.returns-in-Some-2
returns-in-Some-2 c =
    let st = c.args.self.now in
    let node = c.args.node in
    served st node None None (Some c.in-Some-2.event) (serving st node) (c.in_default.ensures ∙ installs_told c.self.inside st c.self.view_is node)
    (c.in_default-first_landing.ensures ∙ first_land_told c.self.inside st c.self.view_is node)
    (sym c.in-Some-2.is ∙ c.in_ok-event.ensures ∙ first_copy_told c.self.inside st c.self.view_is node) refl

pub returns : goal.returns
returns c =
    let st = c.args.self.now in
    let node = c.args.node in
    subst (λ (x : Option Event). IfOk c.first_served.result (λ event. event ≡ x))
    (served st node None None None (serving st node) (c.in_default.ensures ∙ installs_told c.self.inside st c.self.view_is node)
    (c.in_default-first_landing.ensures ∙ first_land_told c.self.inside st c.self.view_is node)
    (sym c.in_default-2.is ∙ c.in_ok-event.ensures ∙ first_copy_told c.self.inside st c.self.view_is node) refl)
    c.first_served.ensures
