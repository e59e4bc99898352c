-- The calls have begun the unit.
use Rattle.std.proofs.Common.{sym, ap, ◌∙◌}
use Rattle.topology_coord.specs.Coordination.{installed_id}
use Rattle.cluster_model.specs.State.{State, unit_of}
use Rattle.cluster_calls.specs.Calling.{is_one, may_begin}
use Rattle.cluster_core.proofs.UnitReads.{begin_none}
use Rattle.cluster_core.proofs.UnitRows.{begin_may, begin_row}
use Rattle.cluster_core.proofs.cluster.Core.begin.Goals as goal

pub unreachable-requires : goal.unreachable-requires
unreachable-requires c = begin_none c.args.self.now c.args.number c.args.runs (sym c.in-None.ensures) c.requires

pub begin-requires : goal.begin-requires
begin-requires c =
    ap (λ (st : State). is_one (may_begin c.installed_id-at.result) (unit_of st.calling c.args.number)) c.self.view_is
    ∙ begin_may c.args.self.now c.args.number c.args.runs c.in-Some.unit.now c.installed_id-at.result (sym c.in-Some.ensures)
    (c.installed_id-at.ensures ∙ ap (λ n. installed_id c.args.self.now.holding.coord n) c.node.ensures) c.requires

pub invariant_of-self : goal.invariant_of-self
invariant_of-self c =
    (begin_row c.self.inside c.args.self.now c.begin.new.self c.args.number c.args.runs c.in-Some.unit.now c.installed_id-at.result c.self.invariant c.self.view_is (sym c.in-Some.ensures)
    (c.installed_id-at.ensures ∙ ap (λ n. installed_id c.args.self.now.holding.coord n) c.node.ensures) c.requires c.begin.ensures).core

pub returns : goal.returns
returns c =
    (begin_row c.self.inside c.args.self.now c.begin.new.self c.args.number c.args.runs c.in-Some.unit.now c.installed_id-at.result c.self.invariant c.self.view_is (sym c.in-Some.ensures)
    (c.installed_id-at.ensures ∙ ap (λ n. installed_id c.args.self.now.holding.coord n) c.node.ensures) c.requires c.begin.ensures).seen
