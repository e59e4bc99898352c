use Rattle.std.proofs.Common.{◌≡◌, ◌≤◌, ◌<◌, ◌∙◌, length, refl, sym, ap, arith, take, get_or, Ok, Err, cond}
use Rattle.pipeline_expr.specs.Typing.{checked}
use Rattle.pipeline_expr.proofs.Checking.{check_over, check_mistyped, check_next, check_end, any_more, over_at, few_more}
use Rattle.std.proofs.lemmas.List.{length-take}
use Rattle.pipeline_expr.specs.declared.check_fault.CheckFault.TheVariants.{Mistyped}
use Rattle.pipeline_expr.proofs.typing.first_fault.Goals as goal

pub loop-place-init : goal.loop-place-init
unfolding checked
loop-place-init c = record { few = omega arith; same_list = c.as_slice-op-items.ensures; flatmap = refl; rest = refl }

pub returns-then-is_over : goal.returns-then-is_over
returns-then-is_over c =
    let same = c.as_slice-op-items.ensures in
    let lt : c.loop-place.place < length c.args.pipeline.now.ops = omega (arith, ap length same) in
    let is = c.op-item.is ∙ ap (λ xs. get_or xs c.loop-place.place c.op-item.result) same in
    let over = over_at c.args.values c.args.pipeline.now.end c.args.pipeline.now.ops c.loop-place.place c.op-item.result c.loop-place.elements lt is c.loop-place.has_flatmap c.loop-place.invariant.flatmap c.is_over.result c.is_over.ensures in
    sym (check_over c.args.values c.args.pipeline.now.end c.args.pipeline.now.ops c.loop-place.place c.op-item.result c.loop-place.elements lt is (over ∙ c.if-is_over.true)) ∙ c.loop-place.invariant.rest

pub returns-in_default : goal.returns-in_default
returns-in_default c =
    let same = c.as_slice-op-items.ensures in
    let lt : c.loop-place.place < length c.args.pipeline.now.ops = omega (arith, ap length same) in
    let is = c.op-item.is ∙ ap (λ xs. get_or xs c.loop-place.place c.op-item.result) same in
    let over = over_at c.args.values c.args.pipeline.now.end c.args.pipeline.now.ops c.loop-place.place c.op-item.result c.loop-place.elements lt is c.loop-place.has_flatmap c.loop-place.invariant.flatmap c.is_over.result c.is_over.ensures in
    sym (check_mistyped c.args.values c.args.pipeline.now.end c.args.pipeline.now.ops c.loop-place.place c.op-item.result c.loop-place.elements lt is (over ∙ c.if-is_over.false) (sym c.kind_behind.ensures ∙ c.in_default.is)) ∙ c.loop-place.invariant.rest

pub loop-place-preserved : goal.loop-place-preserved
loop-place-preserved c =
    let same = c.as_slice-op-items.ensures in
    let lt : c.loop-place.place < length c.args.pipeline.now.ops = omega (arith, ap length same) in
    let is = c.op-item.is ∙ ap (λ xs. get_or xs c.loop-place.place c.op-item.result) same in
    let over = over_at c.args.values c.args.pipeline.now.end c.args.pipeline.now.ops c.loop-place.place c.op-item.result c.loop-place.elements lt is c.loop-place.has_flatmap c.loop-place.invariant.flatmap c.is_over.result c.is_over.ensures in
    record {
      few = few_more c.loop-place.place _ (sym c.is_over.ensures ∙ c.if-is_over.false);
      same_list = same;
      flatmap = c.has_flatmap_through-has_flatmap.ensures ∙ any_more c.args.values c.args.pipeline.now.end c.args.pipeline.now.ops c.loop-place.place c.op-item.result c.loop-place.elements lt is c.loop-place.has_flatmap c.loop-place.invariant.flatmap;
      rest = sym (check_next c.args.values c.args.pipeline.now.end c.args.pipeline.now.ops c.loop-place.place c.op-item.result c.loop-place.elements lt is c.in-Some.next (over ∙ c.if-is_over.false) (sym c.kind_behind.ensures ∙ c.in-Some.is)) ∙ c.loop-place.invariant.rest;
    }

pub overflow_cast-result-then-not-takes : goal.overflow_cast-result-then-not-takes
overflow_cast-result-then-not-takes c =
    let short : c.len.result ≤ 8 = omega (arith, ap length c.as_slice-op-items.ensures) in
    omega arith

pub returns-then-not-takes : goal.returns-then-not-takes
returns-then-not-takes c =
    let over : length c.args.pipeline.now.ops ≤ c.loop-place.place = omega (arith, ap length c.as_slice-op-items.ensures) in
    let place : length (take c.loop-place.place c.args.pipeline.now.ops) ≡ c.len.result = omega (arith, length-take c.loop-place.place c.args.pipeline.now.ops, ap length c.as_slice-op-items.ensures) in
    sym (check_end c.args.values c.args.pipeline.now.end (take c.loop-place.place c.args.pipeline.now.ops) c.args.pipeline.now.ops c.loop-place.place c.loop-place.elements over
    ∙ ap (λ b. cond b (Ok c.loop-place.elements) (Err (Mistyped (length (take c.loop-place.place c.args.pipeline.now.ops))))) (sym c.takes.ensures ∙ c.if-not-takes.true)
    ∙ ap (λ n. Err (Mistyped n)) place) ∙ c.loop-place.invariant.rest

pub returns : goal.returns
returns c =
    let over : length c.args.pipeline.now.ops ≤ c.loop-place.place = omega (arith, ap length c.as_slice-op-items.ensures) in
    sym (check_end c.args.values c.args.pipeline.now.end (take c.loop-place.place c.args.pipeline.now.ops) c.args.pipeline.now.ops c.loop-place.place c.loop-place.elements over
    ∙ ap (λ b. cond b (Ok c.loop-place.elements) (Err (Mistyped (length (take c.loop-place.place c.args.pipeline.now.ops))))) (sym c.takes.ensures ∙ c.if-not-takes.false)) ∙ c.loop-place.invariant.rest
