-- A load that is put so far serves a part of its script.
use Rattle.std.proofs.Common.{List, length, subst, sym, ap, arith, ◌∙◌}
use Rattle.grid_base.specs.declared.entry.Entry.{Entry}
use Rattle.grid_script.specs.Scripts.{Lives}
use Rattle.grid_book.specs.Booked.{Booked, history_of}
use Rattle.live_run.specs.Serving.{IsPartlyServed}
use Rattle.live_run.proofs.Fronts.{front_begun, front_partly}
use Rattle.live_run.proofs.loading.do_load.Goals as goal

pub returns-in_err-put-clause-partly : goal.returns-in_err-put-clause-partly
returns-in_err-put-clause-partly c =
    subst (λ (b : Booked). IsPartlyServed c.args.script.now (history_of b)) (sym (c.in_err-put.ensures.err ∙ c.loop-place.invariant))
    (front_partly c.args.script.now c.requires.live c.loop-place.place
    (let within = c.loop-place.auto.place-end in let test = c.loop-place-test.true in
    let l = ap (λ (xs : List Entry). length xs) (c.as_slice-place-end.ensures ∙ ap (λ (s : Lives). s.load) c.script.view_is) in omega (arith, within, test, l)))

pub returns-clause-begun : goal.returns-clause-begun
returns-clause-begun c = front_begun c.args.script.now c.requires.live c.loop-place.place c.loop-place.book c.loop-place.invariant
    (let end = c.loop-place.auto.place-end in let test = c.loop-place-test.false in
    let l = ap (λ (xs : List Entry). length xs) (c.as_slice-place-end.ensures ∙ ap (λ (s : Lives). s.load) c.script.view_is) in omega (arith, end, test, l))

pub returns-clause-partly : goal.returns-clause-partly
returns-clause-partly c = (front_begun c.args.script.now c.requires.live c.loop-place.place c.loop-place.book c.loop-place.invariant
    (let end = c.loop-place.auto.place-end in let test = c.loop-place-test.false in
    let l = ap (λ (xs : List Entry). length xs) (c.as_slice-place-end.ensures ∙ ap (λ (s : Lives). s.load) c.script.view_is) in omega (arith, end, test, l))).partly
