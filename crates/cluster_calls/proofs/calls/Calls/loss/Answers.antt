use Rattle.std.proofs.Common.{◌≡◌, Some, sym, subst, ap, ◌∙◌}
use Rattle.std.proofs.lemmas.Result.{IfOk-weaker}
use Rattle.std.specs.Prelude.{slice_get}
use Rattle.delivery_mode.specs.Guarantee.{keeps_lost}
use Rattle.grid_event.specs.declared.request.Request.{Request}
use Rattle.cluster_model.specs.State.{Calling, Unit, call_of}
use Rattle.cluster_calls.proofs.CallsLaws.{read_unit}
use Rattle.cluster_calls.proofs.PartQueries.{lost_booking}
use Rattle.cluster_calls.proofs.calls.Calls.loss.Goals as goal

pub returns : goal.returns
returns c =
    IfOk-weaker c.booking.result _ _ (λ made is u g.
    let units = c.self.inside.units.items in
    let at : slice_get units c.args.place ≡ Some u = subst (λ (x : Calling). slice_get x.units c.args.place ≡ Some u) (sym c.self.view_is) g in
    let call = c.call.ensures ∙ ap (λ (w : Unit). w.work.call) (read_unit units c.args.place u c.index-unit.result.now at c.index-unit.ensures) in
    is u g
    ∙ lost_booking c.args.self.now u c.args.at c.in-Some.call.now (ap (call_of c.args.self.now) (sym call) ∙ sym c.in-Some.ensures)
    (sym (c.keeps_lost.ensures ∙ ap (λ (r : Request). keeps_lost r.guarantee) c.request.ensures) ∙ c.if-not-keeps_lost.false))
    c.booking.ensures
