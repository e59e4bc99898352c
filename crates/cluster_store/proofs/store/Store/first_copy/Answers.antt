-- The segments are looked at in their order.
use Rattle.std.proofs.Common.{◌≡◌, ◌≤◌, ◌<◌, ℕ, Option, is_some, arith, ap, subst, sym, ◌∙◌}
use Rattle.std.specs.Result.{IfOk}
use Rattle.grid_event.specs.declared.config.Config.{Config}
use Rattle.grid_event.specs.declared.event.Event.{Event}
use Rattle.grid_event.specs.declared.event.Event.TheVariants as events
use Rattle.cluster_model.specs.Commands.{copy_event}
use Rattle.cluster_model.specs.State.{Holding}
use Rattle.cluster_store.specs.Sending.{sender}
use Rattle.cluster_store.proofs.Searches.{row_here, row_left, row_none, row_start}
use Rattle.cluster_model.specs.Commands.{copy_of}
use Rattle.cluster_store.proofs.SendingLaws.{copy_event-none, copy_event-sender, some_mapped}
use Rattle.cluster_store.proofs.store.Store.first_copy.Goals as goal

-- there is a copy where there is a sender
some_copy : (st : Holding) (node segment : ℕ) → is_some (copy_event st node segment) ≡ is_some (sender st node segment)
some_copy st node segment = ap is_some (copy_event-sender st node segment) ∙ some_mapped (λ provider. events.Copy (copy_of st node segment provider)) (sender st node segment)

pub loop-number-init : goal.loop-number-init
loop-number-init c =
    let st = c.args.self.now in
    row_start (copy_event st c.args.node) st.config.segments c.first_sending-start.result (λ k before within. copy_event-none st c.args.node k (c.first_sending-start.ensures k before within))

pub returns-then-is_some : goal.returns-then-is_some
returns-then-is_some c =
    let st = c.args.self.now in
    let segment = c.new-segment.result in
    let within : c.loop-number.number < st.config.segments = omega (arith, c.loop-number-test.true, ap (λ (x : Config). x.segments) c.config-number-end.ensures.config) in
    let there = some_copy st c.args.node segment ∙ sym (c.if-is_some.ensures ∙ ap is_some c.sender.ensures) in
    let first = row_here (copy_event st c.args.node) st.config.segments c.loop-number.number within (copy_event st c.args.node segment) (ap (copy_event st c.args.node) c.new-segment.ensures) there in
    subst (λ (x : Option Event). IfOk c.copy_event.result (λ event. event ≡ x)) (first ∙ c.loop-number.invariant) c.copy_event.ensures

pub loop-number-preserved : goal.loop-number-preserved
loop-number-preserved c =
    let st = c.args.self.now in
    let segment = c.new-segment.result in
    let within : c.loop-number.number < st.config.segments = omega (arith, c.loop-number-test.true, ap (λ (x : Config). x.segments) c.config-number-end.ensures.config) in
    let none = some_copy st c.args.node segment ∙ sym (c.if-is_some.ensures ∙ ap is_some c.sender.ensures) in
    sym (row_none (copy_event st c.args.node) st.config.segments c.loop-number.number within (copy_event st c.args.node segment) (ap (copy_event st c.args.node) c.new-segment.ensures) none) ∙ c.loop-number.invariant

pub returns : goal.returns
returns c =
    let st = c.args.self.now in
    let past : st.config.segments ≤ c.loop-number.number = omega (arith, c.loop-number-test.false, ap (λ (x : Config). x.segments) c.config-number-end.ensures.config) in
    sym (row_left (copy_event st c.args.node) st.config.segments c.loop-number.number past) ∙ c.loop-number.invariant
