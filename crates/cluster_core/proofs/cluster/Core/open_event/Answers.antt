-- The units of the last round are looked at in their order.
use Rattle.std.proofs.Common.{◌≡◌, true, sym, ap, subst, ◌∙◌}
use Rattle.cluster_model.specs.Commands.{first_some, is_unanswered, unit_event}
use Rattle.cluster_model.specs.State.{State, call_of}
use Rattle.cluster_core.proofs.UnitPlaces.{core_numbered}
use Rattle.cluster_core.proofs.OpenUnits.{core_opens, open_found}
use Rattle.cluster_core.proofs.cluster.Core.open_event.Goals as goal

pub loop-unit-init : goal.loop-unit-init
loop-unit-init c =
    let st = c.args.self.now in
    let open_ = subst (λ (s : State). is_unanswered (call_of s.calling c.args.number) ≡ true) (sym c.self.view_is) c.requires in
    ap (first_some (unit_event st)) (c.open_round-units.ensures open_ ∙ core_opens c.self.inside st c.args.number c.self.invariant c.self.view_is)

pub unit_event-requires : goal.unit_event-requires
unit_event-requires c =
    let st = c.args.self.now in
    let open_ = subst (λ (s : State). is_unanswered (call_of s.calling c.args.number) ≡ true) (sym c.self.view_is) c.requires in
    record {
      there =
          open_found st.calling.units c.args.number st.calling.segments c.open_round-units.result.now (core_numbered c.self.inside st c.self.invariant c.self.view_is)
          (c.open_round-units.ensures open_ ∙ core_opens c.self.inside st c.args.number c.self.invariant c.self.view_is) c.loop-unit.unit-index c.unit-item.result c.loop-unit-test.true
          c.unit-item.is (sym c.if-not-is_open.ensures);
    }
