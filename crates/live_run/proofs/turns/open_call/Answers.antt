-- Where no call waits, all of the session's are answered.
use Rattle.std.proofs.Common.{reverse, sym, ◌∙◌}
use Rattle.live_run.proofs.Turning.{no_last_call, waits_no_more}
use Rattle.live_run.proofs.turns.open_call.Goals as goal

pub returns-in-None : goal.returns-in-None
returns-in-None c h =
    no_last_call c.args._script.now (reverse c.args.book.now.events) c.args.by c.args.did.now c.requires.did c.requires.begun.partly.turns (c.last_call.ensures.none c.in-None.is)

pub returns-then-not-is_unanswered : goal.returns-then-not-is_unanswered
returns-then-not-is_unanswered c h =
    waits_no_more c.args._script.now c.args.book.now c.args.by c.args.did.now c.in-Some.call c.kept.ensures.limits c.kept.ensures.run c.requires.begun.partly
    c.requires.did c.in-Some.ensures.some (sym c.is_unanswered.ensures ∙ c.if-not-is_unanswered.true)
