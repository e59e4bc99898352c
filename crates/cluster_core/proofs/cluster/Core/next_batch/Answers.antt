-- The node of a unit that reads on lives, and its call reads at least one entry at a time.
use Rattle.std.proofs.Common.{ap, ◌∙◌, arith}
use Rattle.local_publisher.specs.Work.{Work}
use Rattle.topology_coord.specs.Coordination.{lives}
use Rattle.cluster_model.specs.State.{State, call_of}
use Rattle.cluster_model.specs.Units.{batch_size}
use Rattle.cluster_core.proofs.UnitReads.{reading_ready}
use Rattle.cluster_core.proofs.cluster.Core.next_batch.Goals as goal

pub next_batch-requires-clause-live : goal.next_batch-requires-clause-live
next_batch-requires-clause-live c =
    ap (λ (st : State). lives st.holding.coord c.work.inside.node) c.self.view_is
    ∙ ap (λ (work : Work). lives c.args.self.now.holding.coord work.node) (c.work.view_is ∙ c.work-work.ensures)
    ∙ (reading_ready c.self.inside c.args.self.now c.args.walk c.args.unit.now c.self.invariant c.self.view_is c.requires.there c.requires.reading).live

pub next_batch-requires-clause-most : goal.next_batch-requires-clause-most
next_batch-requires-clause-most c =
    let most = (reading_ready c.self.inside c.args.self.now c.args.walk c.args.unit.now c.self.invariant c.self.view_is c.requires.there c.requires.reading).most in
    let size = c.batch_size-most.ensures ∙ ap (λ (work : Work). batch_size (call_of c.args.self.now.calling work.call)) (c.work.view_is ∙ c.work-work.ensures) in
    omega (arith, most, size)
