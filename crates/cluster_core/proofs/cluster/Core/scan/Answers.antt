-- The calls have given the unit its batch.
use Rattle.std.proofs.Common.{◌≡◌, length, ap, ◌∙◌, arith}
use Rattle.grid_base.specs.Portion.{Portion}
use Rattle.grid_base.specs.declared.entry.Entry.{Entry}
use Rattle.cluster_model.specs.State.{State, unit_of}
use Rattle.cluster_model.specs.Units.{read_by}
use Rattle.local_publisher.specs.Units.{extended}
use Rattle.cluster_calls.specs.Calling.{changes_unit, is_one, may_read}
use Rattle.cluster_core.proofs.UnitReads.{scan_may}
use Rattle.cluster_core.proofs.UnitRows.{scan_row}
use Rattle.cluster_core.proofs.cluster.Core.scan.Goals as goal

pub scan-requires-clause-may : goal.scan-requires-clause-may
scan-requires-clause-may c =
    ap (λ (st : State). is_one may_read (unit_of st.calling c.args.scan.now.unit)) c.self.view_is ∙ (scan_may c.args.self.now c.args.scan.now c.requires).may

pub scan-requires-clause-few : goal.scan-requires-clause-few
scan-requires-clause-few c =
    let few = (scan_may c.args.self.now c.args.scan.now c.requires).few in
    let units : read_by c.self.inside.calls.units ≡ read_by c.args.self.now.calling.units = ap (λ (st : State). read_by st.calling.units) c.self.view_is in
    let batch = ap (λ (b : Portion Entry). length b.entries) c.in_ok-batch.ensures in
    omega (arith, few, units, batch)

pub invariant_of-self-2 : goal.invariant_of-self-2
invariant_of-self-2 c =
    (scan_row c.self.inside c.args.self.now c.scan.new.self c.args.scan.now c.self.invariant c.self.view_is c.requires
    (c.in_ok-scan.ensures.ok ∙ ap (λ (b : Portion Entry). changes_unit c.args.scan.now.unit (λ u. record u { work = extended u.work b }) c.self.inside.calls) c.in_ok-batch.ensures)).core

pub returns-clause-ok : goal.returns-clause-ok
returns-clause-ok c =
    (scan_row c.self.inside c.args.self.now c.scan.new.self c.args.scan.now c.self.invariant c.self.view_is c.requires
    (c.in_ok-scan.ensures.ok ∙ ap (λ (b : Portion Entry). changes_unit c.args.scan.now.unit (λ u. record u { work = extended u.work b }) c.self.inside.calls) c.in_ok-batch.ensures)).seen
