use Rattle.std.proofs.Common.{◌<◌, Some, sym, ap, ◌∙◌, arith}
use Rattle.cluster_model.specs.Topologies.{is_complete}
use Rattle.cluster_model.specs.State.{Calling}
use Rattle.cluster_calls.proofs.QueryLaws.{first_here, first_later, first_none}
use Rattle.cluster_calls.proofs.calls.Calls.incomplete_from.Goals as goal

pub returns-then-not-is_complete : goal.returns-then-not-is_complete
returns-then-not-is_complete c =
    let x = c.args.self.now in
    let inside : c.loop-place.place < x.segments = omega (arith, ap (λ (y : Calling). y.segments) c.self.view_is) in
    ap Some c.new-segment.ensures
    ∙ sym (first_here x.units c.args.number c.loop-place.place x.segments inside (ap (is_complete x.units c.args.number) (sym c.new-segment.ensures) ∙ sym c.if-not-is_complete.ensures))
    ∙ c.loop-place.invariant

pub loop-place-preserved : goal.loop-place-preserved
loop-place-preserved c =
    let x = c.args.self.now in
    let inside : c.loop-place.place < x.segments = omega (arith, ap (λ (y : Calling). y.segments) c.self.view_is) in
    sym (first_later x.units c.args.number c.loop-place.place x.segments inside (ap (is_complete x.units c.args.number) (sym c.new-segment.ensures) ∙ sym c.if-not-is_complete.ensures))
    ∙ c.loop-place.invariant

pub returns : goal.returns
returns c =
    let x = c.args.self.now in
    sym (first_none x.units c.args.number c.loop-place.place x.segments (omega (arith, ap (λ (y : Calling). y.segments) c.self.view_is)))
    ∙ c.loop-place.invariant
