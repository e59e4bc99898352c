use Rattle.std.proofs.Common.{◌≡◌, ◌++◌, List, drop, ◌∙◌, ap}
use Rattle.std.proofs.lemmas.Result.{IfOk-weaker}
use Rattle.cluster_calls.specs.Takings.{entries_in}
use Rattle.cluster_model.specs.State.{Call, Taken}
use Rattle.cluster_model.specs.Units.{further_items}
use Rattle.cluster_calls.proofs.FeedLaws.{further_is, rest_is, shown_within}
use Rattle.cluster_calls.proofs.call.Call.further.Goals as goal

pub overflow_sub-self-inside : goal.overflow_sub-self-inside
overflow_sub-self-inside c =
    let it = c.self.inside in
    shown_within it.request.pipeline it.taken.list it.given it.feed it.fed it.shown c.self.invariant.items

pub returns : goal.returns
returns c =
    let it = c.self.inside in
    let entries = c.args.entries.now in
    let rest : c.as_slice-2.result.now ≡ entries_in (drop it.fed it.taken.list) ++ entries =
    c.as_slice-2.ensures ∙ c.in_ok-unfed.ensures ∙ ap (λ (taken : List Taken). entries_in taken ++ entries) (rest_is it.fed it.taken.list c.as_slice.result.now c.as_slice.ensures) in
    IfOk-weaker c.items_behind.result _ _
    (λ left is.
    further_is it.request.pipeline it.taken.list it.given it.feed it.fed it.shown c.self.invariant.items entries c.as_slice-2.result.now c.in_ok-made.made.list left.list rest
    c.in_ok-made.ensures is
    ∙ ap (λ (call : Call). further_items call entries) c.self.view_is)
    c.items_behind.ensures
