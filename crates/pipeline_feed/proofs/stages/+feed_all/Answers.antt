use Rattle.std.proofs.Common.{length, sym, ap, ◌∙◌, ◌∷◌, []}
use Rattle.std.proofs.lemmas.Bool.{eqb-true}
use Rattle.std.specs.FinSet as set
use Rattle.pipeline_eval.specs.Pipes.{ops_items}
use Rattle.pipeline_feed.proofs.Continuing.{learns_nothing, learns_distinct, lacking_lacks}
use Rattle.pipeline_feed.proofs.Outcomes.{at_err, at_ok}
use Rattle.pipeline_feed.proofs.SetLaws.{undone}
use Rattle.pipeline_feed.proofs.stages.+feed_all.Goals as goal

pub returns-then-is_empty-clause-ok : goal.returns-then-is_empty-clause-ok
returns-then-is_empty-clause-ok t c = learns_nothing c.args.sets.now c.args.ops.now c.args.items.items (eqb-true (length c.args.sets.now) 0 (sym c.is_empty.ensures ∙ c.if-is_empty.true))

pub add_all-requires : goal.add_all-requires
add_all-requires t c = lacking_lacks _ c.in_ok-passing.passing.items c.deref-2.result.now (c.deref-2.ensures.value ∙ c.lacking-lacking.ensures)

pub returns-then-is_err-clause-err : goal.returns-then-is_err-clause-err
returns-then-is_err-clause-err t c =
    let s = c.in-Some-split_first_mut.set.now in
    let lacking = c.lacking-lacking.result.items in
    let none = lacking_lacks s c.in_ok-passing.passing.items lacking c.lacking-lacking.ensures in
    let own = c.remove_all.ensures ∙ ap (λ xs. set.difference c.add_all.new.self (set.from_list xs)) c.deref-then-is_err.ensures.value
    ∙ undone s c.add_all.new.self lacking none (c.in_ok-add_all.ensures.ok ∙ ap (λ xs. set.union s (set.from_list xs)) c.deref-2.ensures.value) in
    let behind = at_err c.feed_all-2.result (sym c.is_err.ensures.value ∙ c.if-is_err.true) c.feed_all-2.ensures.err in
    (λ i. own i ∷ behind i) ∙ sym c.in-Some-split_first_mut.ensures.cases.0

pub returns-clause-ok : goal.returns-clause-ok
returns-clause-ok t c =
    let items = c.args.items.items in
    let s = c.in-Some-split_first_mut.set.now in
    learns_distinct c.args.sets.now c.args.ops.now c.in-Some.rest.now items c.in_ok-passing.passing.items s c.in-Some-split_first_mut.others.now c.in_ok-passed_on.passed_on.items
    c.in-Some-split_first_mut.ensures.cases.0
    (c.in-Some.ensures.cases.0 ∙ ap (λ o. o ∷ c.in-Some.rest.now) c.in-Distinct.is)
    (c.in_ok-passing.ensures ∙ ap (λ ops. ops_items ops items) c.from_ref.ensures.value ∙ ap (λ o. ops_items (o ∷ []) items) c.in-Distinct.is)
    (c.in_ok-passed_on.ensures ∙ c.deref.ensures.value ∙ c.lacking-lacking.ensures)
    c.add_all.new.self c.feed_all-2.new.sets
    (c.in_ok-add_all.ensures.ok ∙ ap (λ xs. set.union s (set.from_list xs)) (c.deref-2.ensures.value ∙ sym (c.in_ok-passed_on.ensures ∙ c.deref.ensures.value)))
    (at_ok c.feed_all-2.result (sym c.is_err.ensures.value ∙ c.if-is_err.false) c.feed_all-2.ensures.ok)
