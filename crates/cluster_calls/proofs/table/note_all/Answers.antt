use Rattle.std.proofs.Common.{refl, sym, ap, ◌∙◌, cond, not, ◌&&◌, arith}
use Rattle.std.specs.FinSet as set_of
use Rattle.std.specs.Ordering.{nat_cmp}
use Rattle.cluster_model.specs.State.{Call}
use Rattle.cluster_calls.proofs.SetLaws.{none_noted, noted_all, noted_more}
use Rattle.cluster_calls.proofs.table.note_all.Goals as goal

pub returns-in_default : goal.returns-in_default
returns-in_default c =
    ap (λ (lost : set_of.FinSet nat_cmp). record c.args.call.now { lost = lost })
    (none_noted c.args.tally.now.complete c.args.lost.now c.args.call.now.lost (λ k. c.in_default.ensures.none.0 refl k (omega (arith, c.new.ensures))))

pub loop-number-preserved : goal.loop-number-preserved
loop-number-preserved c = record {
  call =
      c.note_one.ensures
      ∙ ap (λ (lost : set_of.FinSet nat_cmp). record c.loop-number.call { lost = lost }) (sym (ap (λ (call : Call). call.lost) c.note_one.ensures))
      ∙ ap (λ (call : Call). record call { lost = c.note_one.new.call.lost }) c.loop-number.invariant.call;
  noted = λ s.
      noted_more (λ t. set_of.contains c.args.lost.now t && not (set_of.contains c.args.tally.now.complete t)) c.loop-number.number s
      c.args.call.now.lost c.loop-number.call.lost c.note_one.new.call.lost (c.loop-number.invariant.noted s)
      (ap (λ (call : Call). call.lost) c.note_one.ensures
      ∙ ap (λ n. cond (set_of.contains c.args.lost.now n && not (set_of.contains c.args.tally.now.complete n)) (set_of.insert c.loop-number.call.lost n) c.loop-number.call.lost) c.new-in-loop-number.ensures);
}

pub returns : goal.returns
returns c =
    c.loop-number.invariant.call
    ∙ ap (λ (lost : set_of.FinSet nat_cmp). record c.args.call.now { lost = lost })
    (noted_all c.args.tally.now.complete c.args.lost.now c.args.call.now.lost c.loop-number.call.lost c.loop-number.number
    (λ k l. c.in-Some.ensures.bounded k (omega arith)) c.loop-number.invariant.noted)
