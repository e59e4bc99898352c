-- The first that there is for a call.
use Rattle.std.proofs.Common.{◌≡◌, ℕ, Option, Some, None, refl, subst, sym, ◌∙◌}
use Rattle.std.specs.Result.{IfOk}
use Rattle.grid_event.specs.declared.event.Event.{Event}
use Rattle.cluster_model.specs.Commands.{advance_event, first_some, open_units, round_event, unit_event}
use Rattle.cluster_model.specs.State.{State}
use Rattle.cluster_core.proofs.Choices.{driven, undriven}
use Rattle.cluster_core.proofs.StoreViews.{advance_told}
use Rattle.cluster_core.proofs.cluster.Core.drive_event.Goals as goal

-- the event of an open unit of a call
abbrev working : State → ℕ → Option Event
working st number = first_some (unit_event st) (open_units st.calling number)

pub returns-then-not-is_unanswered : goal.returns-then-not-is_unanswered
returns-then-not-is_unanswered c = undriven c.args.self.now c.args.number (sym c.if-not-is_unanswered.ensures)

pub returns-in-Some : goal.returns-in-Some
returns-in-Some c =
    let st = c.args.self.now in
    let number = c.args.number in
    driven st number (Some c.in-Some.event) (working st number) (round_event st number) (advance_event st.holding) (sym c.if-not-is_unanswered.ensures) (sym c.in-Some.is ∙ c.in_ok-event.ensures) refl refl refl

pub returns-in-Some-2 : goal.returns-in-Some-2
returns-in-Some-2 c =
    let st = c.args.self.now in
    let number = c.args.number in
    driven st number None (Some c.in-Some-2.event) (round_event st number) (advance_event st.holding) (sym c.if-not-is_unanswered.ensures) (sym c.in_default.is ∙ c.in_ok-event.ensures)
    (sym c.in-Some-2.is ∙ c.in_ok-event-2.ensures) refl refl

pub returns-in-Some-3 : goal.returns-in-Some-3
returns-in-Some-3 c =
    let st = c.args.self.now in
    let number = c.args.number in
    driven st number None None (Some c.in-Some-3.event) (advance_event st.holding) (sym c.if-not-is_unanswered.ensures) (sym c.in_default.is ∙ c.in_ok-event.ensures)
    (sym c.in_default-2.is ∙ c.in_ok-event-2.ensures) (sym c.in-Some-3.is ∙ c.in_ok-event-3.ensures) refl

pub returns : goal.returns
returns c =
    let st = c.args.self.now in
    let number = c.args.number in
    subst (λ (x : Option Event). IfOk c.advance_event.result (λ event. event ≡ x))
    (advance_told c.self.inside st c.self.view_is
    ∙ driven st number None None None (advance_event st.holding) (sym c.if-not-is_unanswered.ensures) (sym c.in_default.is ∙ c.in_ok-event.ensures)
    (sym c.in_default-2.is ∙ c.in_ok-event-2.ensures) (sym c.in_default-3.is ∙ c.in_ok-event-3.ensures) refl)
    c.advance_event.ensures
