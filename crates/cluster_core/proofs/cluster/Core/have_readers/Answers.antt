-- The incomplete segments are looked at in their order.
use Rattle.std.proofs.Common.{◌≡◌, ◌≤◌, ◌<◌, true, false, arith, ap, sym, ◌∙◌}
use Rattle.std.specs.List.{list_all}
use Rattle.cluster_model.specs.State.{State}
use Rattle.cluster_model.specs.Topologies.{is_complete}
use Rattle.cluster_model.specs.Writes.{has_reader}
use Rattle.cluster_core.proofs.SegmentRows.{readers_all, readers_end, readers_on, readers_past, rest_whole}
use Rattle.cluster_core.proofs.cluster.Core.have_readers.Goals as goal

pub loop-place-init : goal.loop-place-init
loop-place-init c = ap (list_all (has_reader c.args.self.now.holding c.args.originator)) (rest_whole c.args.self.now c.args.number)

pub loop-place-preserved-then-is_complete : goal.loop-place-preserved-then-is_complete
loop-place-preserved-then-is_complete c =
    let st = c.args.self.now in
    let within : c.loop-place.place < st.calling.segments = omega (arith, c.loop-place-test.true, c.segments-place-end.ensures.segments, ap (λ (x : State). x.calling.segments) c.self.view_is) in
    let complete : is_complete st.calling.units c.args.number c.loop-place.place ≡ true =
    ap (is_complete st.calling.units c.args.number) (sym c.new-segment.ensures) ∙ sym c.if-is_complete.ensures in
    sym (readers_past st c.args.originator c.args.number c.loop-place.place within complete) ∙ c.loop-place.invariant

pub returns-then-not-has_reader : goal.returns-then-not-has_reader
returns-then-not-has_reader c =
    let st = c.args.self.now in
    let within : c.loop-place.place < st.calling.segments = omega (arith, c.loop-place-test.true, c.segments-place-end.ensures.segments, ap (λ (x : State). x.calling.segments) c.self.view_is) in
    let lacks : is_complete st.calling.units c.args.number c.loop-place.place ≡ false =
    ap (is_complete st.calling.units c.args.number) (sym c.new-segment.ensures) ∙ sym c.if-is_complete.ensures in
    let none : has_reader st.holding c.args.originator c.loop-place.place ≡ false =
    ap (λ (x : State). has_reader x.holding c.args.originator c.loop-place.place) (sym c.self.view_is)
    ∙ ap (has_reader c.self.inside.store c.args.originator) (sym c.new-segment.ensures) ∙ sym c.if-not-has_reader.ensures in
    sym (readers_end st c.args.originator c.args.number c.loop-place.place within lacks none) ∙ c.loop-place.invariant

pub loop-place-preserved : goal.loop-place-preserved
loop-place-preserved c =
    let st = c.args.self.now in
    let within : c.loop-place.place < st.calling.segments = omega (arith, c.loop-place-test.true, c.segments-place-end.ensures.segments, ap (λ (x : State). x.calling.segments) c.self.view_is) in
    let lacks : is_complete st.calling.units c.args.number c.loop-place.place ≡ false =
    ap (is_complete st.calling.units c.args.number) (sym c.new-segment.ensures) ∙ sym c.if-is_complete.ensures in
    let some : has_reader st.holding c.args.originator c.loop-place.place ≡ true =
    ap (λ (x : State). has_reader x.holding c.args.originator c.loop-place.place) (sym c.self.view_is)
    ∙ ap (has_reader c.self.inside.store c.args.originator) (sym c.new-segment.ensures) ∙ sym c.if-not-has_reader.ensures in
    sym (readers_on st c.args.originator c.args.number c.loop-place.place within lacks some) ∙ c.loop-place.invariant

pub returns : goal.returns
returns c =
    let st = c.args.self.now in
    let past : st.calling.segments ≤ c.loop-place.place = omega (arith, c.loop-place-test.false, c.segments-place-end.ensures.segments, ap (λ (x : State). x.calling.segments) c.self.view_is) in
    sym (readers_all st c.args.originator c.args.number c.loop-place.place past) ∙ c.loop-place.invariant
