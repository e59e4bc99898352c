-- The value is written where it may be.
use Rattle.std.proofs.Common.{◌≡◌, ◌+◌, Some, ap, sym, ◌∙◌}
use Rattle.std.specs.Option.{option_map}
use Rattle.grid_event.specs.declared.event.Event.TheVariants as events
use Rattle.grid_event.specs.declared.store_events.WriteEvent.{WriteEvent}
use Rattle.cluster_model.specs.Writes.{can_write}
use Rattle.cluster_core.proofs.Choices.{allowed_some, longer_refused, refused_none}
use Rattle.cluster_core.proofs.StoreViews.{write_told}
use Rattle.cluster_core.proofs.cluster.Core.write_event.Goals as goal

pub returns-then-is_longer : goal.returns-then-is_longer
returns-then-is_longer c =
    let st = c.args.self.now in
    refused_none st (events.Write (record { by = c.args.by; node = c.args.node; key = c.args.key.now; value = c.args.value.now; until = option_map (λ ticks. st.holding.copying.clock + ticks) c.args.lifespan }))
    (longer_refused st c.args.by c.args.node c.args.key.now c.args.value.now c.args.lifespan (sym c.if-is_longer.ensures))

pub returns-then-not-can_write : goal.returns-then-not-can_write
returns-then-not-can_write c =
    let st = c.args.self.now in
    let made : WriteEvent = record { by = c.args.by; node = c.args.node; key = c.args.key.now; value = c.in_ok-value.value; until = c.deadline.result } in
    let asked : WriteEvent = record { by = c.args.by; node = c.args.node; key = c.args.key.now; value = c.args.value.now; until = option_map (λ ticks. st.holding.copying.clock + ticks) c.args.lifespan } in
    let same : made ≡ asked = λ i. record { by = c.args.by; node = c.args.node; key = c.args.key.now; value = c.in_ok-value.ensures i; until = c.deadline.ensures i } in
    refused_none st (events.Write asked) (sym (c.if-not-can_write.ensures ∙ write_told c.self.inside st c.self.view_is made ∙ ap (can_write st.holding) same))

pub returns : goal.returns
returns c =
    let st = c.args.self.now in
    let made : WriteEvent = record { by = c.args.by; node = c.args.node; key = c.args.key.now; value = c.in_ok-value.value; until = c.deadline.result } in
    let asked : WriteEvent = record { by = c.args.by; node = c.args.node; key = c.args.key.now; value = c.args.value.now; until = option_map (λ ticks. st.holding.copying.clock + ticks) c.args.lifespan } in
    let same : made ≡ asked = λ i. record { by = c.args.by; node = c.args.node; key = c.args.key.now; value = c.in_ok-value.ensures i; until = c.deadline.ensures i } in
    ap (λ (w : WriteEvent). Some (events.Write w)) (c.in_ok-write.ensures ∙ same)
    ∙ allowed_some st (events.Write asked) (sym (c.if-not-can_write.ensures ∙ write_told c.self.inside st c.self.view_is made ∙ ap (can_write st.holding) same))
