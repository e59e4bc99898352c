-- The segments are looked at in their order.
use Rattle.std.proofs.Common.{◌≡◌, ◌≤◌, ◌<◌, None, arith, ap, refl, sym, ◌∙◌}
use Rattle.grid_event.specs.declared.config.Config.{Config}
use Rattle.cluster_model.specs.Commands.{land_event}
use Rattle.cluster_store.proofs.Landings.{no_landing, nothing_lands}
use Rattle.cluster_store.proofs.Searches.{row_here, row_left, row_none}
use Rattle.cluster_store.proofs.store.Store.first_landing.Goals as goal

pub returns-then-spares : goal.returns-then-spares
returns-then-spares c = nothing_lands c.self.inside c.args.self.now c.self.invariant c.self.view_is c.args.node (c.if-spares.ensures refl)

pub returns-then-is_some : goal.returns-then-is_some
returns-then-is_some c =
    let st = c.args.self.now in
    let within : c.loop-number.number < st.config.segments = omega (arith, c.loop-number-test.true, ap (λ (x : Config). x.segments) c.config-number-end.ensures.config) in
    row_here (land_event st c.args.node) st.config.segments c.loop-number.number within c.land_event-event.result
    (c.land_event-event.ensures ∙ ap (land_event st c.args.node) c.new-segment.ensures) (sym c.if-is_some.ensures)
    ∙ c.loop-number.invariant

pub loop-number-preserved : goal.loop-number-preserved
loop-number-preserved c =
    let st = c.args.self.now in
    let within : c.loop-number.number < st.config.segments = omega (arith, c.loop-number-test.true, ap (λ (x : Config). x.segments) c.config-number-end.ensures.config) in
    sym
    (row_none (land_event st c.args.node) st.config.segments c.loop-number.number within c.land_event-event.result
    (c.land_event-event.ensures ∙ ap (land_event st c.args.node) c.new-segment.ensures) (sym c.if-is_some.ensures))
    ∙ c.loop-number.invariant

pub loop-number-preserved-then-not-may_fly : goal.loop-number-preserved-then-not-may_fly
loop-number-preserved-then-not-may_fly c =
    let st = c.args.self.now in
    let within : c.loop-number.number < st.config.segments = omega (arith, c.loop-number-test.true, ap (λ (x : Config). x.segments) c.config-number-end.ensures.config) in
    let none : land_event st c.args.node c.loop-number.number ≡ None =
    ap (land_event st c.args.node) (sym c.new-segment.ensures) ∙ no_landing c.self.inside st c.self.invariant c.self.view_is c.args.node c.new-segment.result (c.if-not-may_fly.ensures refl) in
    sym (row_none (land_event st c.args.node) st.config.segments c.loop-number.number within None (sym none) refl) ∙ c.loop-number.invariant

pub returns : goal.returns
returns c =
    let st = c.args.self.now in
    let past : st.config.segments ≤ c.loop-number.number = omega (arith, c.loop-number-test.false, ap (λ (x : Config). x.segments) c.config-number-end.ensures.config) in
    sym (row_left (land_event st c.args.node) st.config.segments c.loop-number.number past) ∙ c.loop-number.invariant
