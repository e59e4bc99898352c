use Rattle.grid_journal.proofs.Places.{events_step}
use Rattle.grid_journal.proofs.reports.add_events.Goals as goal

pub loop-place-preserved : goal.loop-place-preserved
loop-place-preserved c =
    events_step c.args.journal.now.history.events c.loop-place.place c.args.to _ _ _ c.loop-place-test.true c.requires.within c.loop-place.invariant c.in_ok-add_event_at.ensures
