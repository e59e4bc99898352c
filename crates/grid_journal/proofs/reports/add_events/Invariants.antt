use Rattle.std.proofs.Common.{◌≡◌, ◌-◌, ◌++◌, take, drop}
use Rattle.grid_journal.specs.Reports.{events_text}
use Rattle.grid_journal.proofs.reports.add_events.Given as goal

-- what stands there and the text of the events left are the whole
abbrev pub invariant-loop-place : goal.invariant-loop-place
invariant-loop-place l =
    let events = l.journal.history.events in
    l.out.list ++ events_text l.place (take (l.to - l.place) (drop l.place events))
    ≡ l.initial.out.list ++ events_text l.from (take (l.to - l.from) (drop l.from events))
