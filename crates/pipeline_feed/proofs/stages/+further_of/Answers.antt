use Rattle.std.proofs.Common.{ap, ◌∙◌, ◌∷◌, []}
use Rattle.std.proofs.lemmas.Result.{IfOk-weaker}
use Rattle.pipeline_eval.specs.Pipes.{ops_items}
use Rattle.pipeline_feed.proofs.Continuing.{gives_plain, gives_distinct}
use Rattle.pipeline_feed.proofs.stages.+further_of.Goals as goal

pub returns-in_default-op : goal.returns-in_default-op
returns-in_default-op t c =
    let items = c.args.items.items in
    IfOk-weaker c.further_of.result _ _
    (λ made. gives_plain c.args.sets.now c.args.ops.now c.in-Some.rest.now items c.in_ok-made.made.items c.in-Some.op.now c.in-Some.ensures.cases.0 c.in_default-op.not-Distinct
    (c.in_ok-made.ensures ∙ ap (λ ops. ops_items ops items) c.from_ref.ensures.value) made.items)
    c.further_of.ensures

pub returns : goal.returns
returns t c =
    let items = c.args.items.items in
    IfOk-weaker c.further_of-2.result _ _
    (λ made. gives_distinct c.args.sets.now c.args.ops.now c.in-Some.rest.now items c.in_ok-made.made.items c.in-Some-split_first.set.now c.in-Some-split_first.others.now c.lacking.result.items
    c.in-Some-split_first.ensures.cases.0
    (c.in-Some.ensures.cases.0 ∙ ap (λ o. o ∷ c.in-Some.rest.now) c.in-Distinct.is)
    (c.in_ok-made.ensures ∙ ap (λ ops. ops_items ops items) c.from_ref.ensures.value ∙ ap (λ o. ops_items (o ∷ []) items) c.in-Distinct.is)
    c.lacking.ensures made.items)
    c.further_of-2.ensures
