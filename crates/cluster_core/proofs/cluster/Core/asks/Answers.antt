-- The incomplete segments are asked for in their order.
use Rattle.std.proofs.Common.{◌≡◌, ◌≤◌, ◌<◌, ◌+◌, ◌++◌, [], ◌∷◌, List, length, true, false, unwrap_or, arith, ap, sym, ◌∙◌}
use Rattle.grid_event.specs.declared.call_events.Ask.{Ask}
use Rattle.cluster_model.specs.Calls.{asks_from, first_reader}
use Rattle.cluster_model.specs.State.{State, Unit}
use Rattle.cluster_model.specs.Topologies.{is_complete}
use Rattle.cluster_core.proofs.SegmentRows.{asks_all, asks_on, asks_past, rest_of, rest_whole}
use Rattle.cluster_core.proofs.cluster.Core.asks.Goals as goal

pub loop-place-init : goal.loop-place-init
loop-place-init c =
    let st = c.args.self.now in
    let units : c.units-unit.result.now ≡ st.calling.units = c.units-unit.ensures.units ∙ ap (λ (x : State). x.calling.units) c.self.view_is in
    ap (λ (asks : List Ask). asks ++ asks_from st.holding c.args.originator (length c.units-unit.result.now + 1) (rest_of st c.args.number 0)) c.new-asks.ensures.items
    ∙ ap (λ (us : List Unit). asks_from st.holding c.args.originator (length us + 1) (rest_of st c.args.number 0)) units
    ∙ ap (asks_from st.holding c.args.originator (length st.calling.units + 1)) (rest_whole st c.args.number)

pub loop-place-preserved-then-is_complete : goal.loop-place-preserved-then-is_complete
loop-place-preserved-then-is_complete c =
    let st = c.args.self.now in
    let within : c.loop-place.place < st.calling.segments = omega (arith, c.loop-place-test.true, c.segments-place-end.ensures.segments, ap (λ (x : State). x.calling.segments) c.self.view_is) in
    let complete : is_complete st.calling.units c.args.number c.loop-place.place ≡ true =
    ap (is_complete st.calling.units c.args.number) (sym c.new-segment.ensures) ∙ sym c.if-is_complete.ensures in
    asks_past st c.args.originator c.args.number c.loop-place.place within (c.loop-place.unit + 1) c.loop-place.asks.items complete ∙ c.loop-place.invariant

pub loop-place-preserved : goal.loop-place-preserved
loop-place-preserved c =
    let st = c.args.self.now in
    let within : c.loop-place.place < st.calling.segments = omega (arith, c.loop-place-test.true, c.segments-place-end.ensures.segments, ap (λ (x : State). x.calling.segments) c.self.view_is) in
    let lacks : is_complete st.calling.units c.args.number c.loop-place.place ≡ false =
    ap (is_complete st.calling.units c.args.number) (sym c.new-segment.ensures) ∙ sym c.if-is_complete.ensures in
    let unit : c.new.result ≡ c.loop-place.unit + 1 = omega arith in
    let segment : c.new-segment.result ≡ c.loop-place.place = omega arith in
    let asked : c.ask.result ≡ record { unit = c.loop-place.unit + 1; segment = c.loop-place.place; node = unwrap_or (first_reader st.holding c.args.originator c.loop-place.place) 0 } =
    c.ask.ensures ∙ (λ i. record { unit = unit i; segment = segment i; node = unwrap_or (first_reader st.holding c.args.originator (segment i)) 0 }) in
    ap (λ (asks : List Ask). asks ++ asks_from st.holding c.args.originator (c.loop-place.unit + 1 + 1) (rest_of st c.args.number (c.loop-place.place + 1))) c.in_ok-push.ensures.items
    ∙ ap (λ (ask : Ask). (c.loop-place.asks.items ++ ask ∷ []) ++ asks_from st.holding c.args.originator (c.loop-place.unit + 1 + 1) (rest_of st c.args.number (c.loop-place.place + 1))) asked
    ∙ asks_on st c.args.originator c.args.number c.loop-place.place within (c.loop-place.unit + 1) c.loop-place.asks.items lacks ∙ c.loop-place.invariant

pub returns : goal.returns
returns c =
    let st = c.args.self.now in
    let past : st.calling.segments ≤ c.loop-place.place = omega (arith, c.loop-place-test.false, c.segments-place-end.ensures.segments, ap (λ (x : State). x.calling.segments) c.self.view_is) in
    c.from_vec.ensures ∙ sym (asks_all st c.args.originator c.args.number c.loop-place.place (c.loop-place.unit + 1) c.loop-place.asks.items past) ∙ c.loop-place.invariant
