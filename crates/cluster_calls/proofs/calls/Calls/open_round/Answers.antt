use Rattle.std.proofs.Common.{◌≡◌, ◌-◌, true, filter, Some, sym, ap, subst, ◌∙◌, arith}
use Rattle.std.proofs.lemmas.List.{take_rest}
use Rattle.std.specs.Prelude.{slice_get}
use Rattle.local_publisher.specs.Work.{Work}
use Rattle.cluster_model.specs.Commands.{is_unanswered}
use Rattle.cluster_model.specs.State.{Call, Calling, call_of, is_open_unit}
use Rattle.cluster_calls.specs.Calling.{round_units}
use Rattle.cluster_calls.proofs.PastLaws.{filter-drop}
use Rattle.cluster_calls.proofs.PastQueries.{round_past}
use Rattle.cluster_calls.proofs.calls.Calls.open_round.Goals as goal

pub returns : goal.returns
returns c = λ open_.
    let round = c.last_round-round.result.now in
    let head : slice_get round 0 ≡ Some c.in-Some.first.now = sym c.in-Some.ensures.value in
    let id : c.place_of.result ≡ c.in-Some.first.now.work.id - 1 = c.place_of.ensures ∙ ap (λ (w : Work). w.id - 1) (c.behind-first.view_is ∙ c.work.ensures) in
    ap (filter is_open_unit) (take_rest round c.min.result)
    ∙ filter-drop is_open_unit c.min.result round (λ i u at low.
    round_past c.self.inside c.self.invariant c.args.number round c.in-Some.first.now
    (subst (λ (x : Calling). is_unanswered (call_of x c.args.number) ≡ true) (sym c.self.view_is) open_)
    (subst (λ (x : Calling). (call : Call) → call_of x c.args.number ≡ Some call → round ≡ round_units x.units call) (sym c.self.view_is) c.last_round-round.ensures.units)
    head i u at (omega (arith, low, c.min.ensures, c.saturating_sub-before.ensures, id)))
    ∙ c.last_round-round.ensures.unended
