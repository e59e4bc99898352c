-- The last call is driven until it waits no more.
use Rattle.std.proofs.Common.{reverse, sym, ◌∙◌}
use Rattle.cluster_laws.proofs.stuck.StuckRuns.{never_stuck}
use Rattle.grid_book.specs.Booked.{cluster_of}
use Rattle.live_run.proofs.Turning.{driven_out, no_last_call, waits_no_more}
use Rattle.live_run.proofs.serial.answer_last.Goals as goal

pub returns-in-None-clause-answered : goal.returns-in-None-clause-answered
returns-in-None-clause-answered c =
    no_last_call c.args.script.now (reverse c.args.book.now.events) c.args.by c.args.did.now c.requires.did c.requires.begun.partly.turns (c.last_call.ensures.none c.in-None.is)

pub returns-clause-answered : goal.returns-clause-answered
returns-clause-answered c =
    let is = c.repeat.new.book in
    waits_no_more c.args.script.now is c.args.by c.args.did.now c.in-Some.call c.kept.ensures.limits c.kept.ensures.run c.repeat.ensures.begun.partly
    (c.requires.did ∙ sym (c.repeat.ensures.stays c.args.by).deeds) c.in-Some.ensures.some
    (driven_out (cluster_of is) c.in-Some.call (never_stuck is.config is.events c.kept.ensures.limits c.kept.ensures.run c.kept.ensures.fits) c.in_ok-repeat.ensures.done)
