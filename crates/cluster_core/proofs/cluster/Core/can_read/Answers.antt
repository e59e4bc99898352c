-- A unit that reads on reads the batch where it is its next one and there is room for it.
use Rattle.std.proofs.Common.{length, true, false, sym, ap, refl, ◌∙◌, nat_le, ◌+◌}
use Rattle.grid_base.specs.Portion.{Portion}
use Rattle.grid_base.specs.declared.entry.Entry.{Entry}
use Rattle.grid_base.specs.declared.limits.TheConstants.{MOST_READ}
use Rattle.cluster_model.specs.Units.{read_by}
use Rattle.cluster_core.proofs.UnitPlaces.{found_itself}
use Rattle.cluster_core.proofs.UnitReads.{read_when}
use Rattle.cluster_core.proofs.cluster.Core.can_read.Goals as goal

pub next_batch-requires-clause-there : goal.next_batch-requires-clause-there
next_batch-requires-clause-there c = found_itself c.args.self.now c.args.number c.in-Some.unit.now (sym c.in-Some.ensures)

pub returns-then-not-same_batch : goal.returns-then-not-same_batch
returns-then-not-same_batch c =
    read_when c.args.self.now c.args.walk c.args.batch.now c.in_ok-next.next c.args.number (length c.args.batch.now.entries) c.in-Some.unit.now
    false (nat_le (read_by c.args.self.now.calling.units + length c.args.batch.now.entries) MOST_READ)
    c.in-Some.ensures c.if-not-reads_on.ensures c.in_ok-next.ensures c.if-not-same_batch.ensures refl refl

pub returns : goal.returns
returns c =
    read_when c.args.self.now c.args.walk c.args.batch.now c.in_ok-next.next c.args.number c.len.result c.in-Some.unit.now true c.has_room.result
    c.in-Some.ensures c.if-not-reads_on.ensures c.in_ok-next.ensures c.if-not-same_batch.ensures
    (c.len.ensures ∙ ap (λ (b : Portion Entry). length b.entries) c.batch.view_is) c.has_room.ensures
