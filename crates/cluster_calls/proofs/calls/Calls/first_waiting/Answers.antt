use Rattle.std.proofs.Common.{List, refl, sym, ap, subst, ◌∙◌}
use Rattle.std.proofs.lemmas.Option.{slice_get_read}
use Rattle.std.specs.Prelude.{slice_get}
use Rattle.cluster_model.specs.State.{Calling, Unit}
use Rattle.cluster_calls.specs.Calling.{NoneWaits}
use Rattle.cluster_calls.proofs.PastLaws.{none_waits}
use Rattle.cluster_calls.proofs.PastQueries.{none_more}
use Rattle.cluster_calls.proofs.calls.Calls.first_waiting.Goals as goal

pub loop-place-init : goal.loop-place-init
loop-place-init c = subst (λ (x : Calling). NoneWaits x c.self.inside.past) c.self.view_is (none_waits c.self.inside c.self.inside.past c.self.invariant.past)

pub loop-place-preserved : goal.loop-place-preserved
loop-place-preserved c =
    none_more c.args.self.now c.loop-place.place c.index-units-place.result c.loop-place.invariant
    (sym (ap (λ (us : List Unit). slice_get us c.loop-place.place) (c.as_slice-units.ensures.value ∙ ap (λ (x : Calling). x.units) c.self.view_is))
    ∙ slice_get_read c.as_slice-units.result.now _ c.loop-place.place c.index-units-place.result refl c.loop-place-test.true c.index-units-place.is)
    (sym c.is_waiting.ensures ∙ c.if-is_waiting.false)
