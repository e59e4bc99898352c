-- Half and entries are those of the unit.
use Rattle.std.proofs.Common.{◌≡◌, List, true, sym, ap, ◌∙◌}
use Rattle.grid_base.specs.declared.entry.Entry.{Entry}
use Rattle.grid_event.specs.declared.request.Request.{Request}
use Rattle.local_publisher.specs.Work.{Work}
use Rattle.pipeline_split.specs.Halves.{remote_of}
use Rattle.cluster_model.specs.Same.{same_entries}
use Rattle.cluster_model.specs.State.{call_of}
use Rattle.cluster_core.proofs.OwnPieces.{own_piece}
use Rattle.cluster_core.proofs.cluster.Core.has_read.Goals as goal

pub returns : goal.returns
returns c has =
    let read : c.as_slice.result.now ≡ c.in-Some.unit.now.work.entries =
    c.as_slice.ensures ∙ ap (λ (work : Work). work.entries) (c.behind-unit.view_is ∙ c.work.ensures) in
    own_piece c.args.self.now c.args.number c.in-Some.unit.now c.in-Some-call.call.now c.args.remote.now c.args.entries.now.list (sym c.in-Some.ensures)
    (ap (call_of c.args.self.now.calling) (sym c.call.ensures) ∙ sym c.in-Some-call.ensures) (sym c.is_walk.ensures ∙ c.if-is_walk.false)
    (ap (λ (request : Request). remote_of request.pipeline) (sym c.request.ensures) ∙ sym c.in_ok-halves.ensures.remote ∙ c.same.ensures.0 c.if-not-same.false)
    (ap (λ (es : List Entry). same_entries es c.args.entries.now.list) (sym read) ∙ ap (same_entries c.as_slice.result.now) (sym c.as_slice-2.ensures)
    ∙ sym c.same_entries.ensures ∙ has)
