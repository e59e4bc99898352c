-- What is loaded serves the script, and a fault that is kept has its cause.
use Rattle.std.proofs.Common.{◌≡◌, List, length, replicate, Some, ap, subst, sym, ◌∙◌}
use Rattle.grid_script.specs.LiveRules.{IsLive}
use Rattle.grid_script.specs.Scripts.{Lives}
use Rattle.grid_script.specs.declared.session.Session.{Session}
use Rattle.grid_book.specs.Booked.{history_of}
use Rattle.grid_book.specs.declared.act_fault.ActFault.TheVariants.{Full}
use Rattle.live_run.specs.Due.{WasFull}
use Rattle.live_run.proofs.Beginning.{serves_first}
use Rattle.live_run.proofs.runs.serve.Goals as goal

pub do_load-requires-clause-live : goal.do_load-requires-clause-live
do_load-requires-clause-live g c = subst IsLive c.script.view_is c.script.invariant

pub new-requires-clause-serving : goal.new-requires-clause-serving
new-requires-clause-serving g c =
    serves_first g.B.Scripted.script c.args.script.now c.do_load.new.book c.in-Ok.done.items c.requires.script c.in_default.ensures.begun c.in_default.ensures.done
    (c.in-Ok.ensures.items_if_clones_equal (λ y e. e)
    ∙ ap (λ (ss : List Session). replicate (length ss) 0) (c.as_slice-sessions.ensures ∙ ap (λ (s : Lives). s.sessions) c.script.view_is))

pub returns-in-Some-clause-full : goal.returns-in-Some-clause-full
returns-in-Some-clause-full g c = λ e.
    let full : c.in-Some.fault ≡ Full = cc in
    subst (λ (s : Lives). WasFull s (history_of c.into_parts-book.result.0)) (sym c.requires.script) (c.into_parts-book.ensures.full (c.in-Some.is ∙ ap Some full))

pub finish_serial-ended-requires-clause-live : goal.finish_serial-ended-requires-clause-live
finish_serial-ended-requires-clause-live g c = subst IsLive c.script.view_is c.script.invariant
