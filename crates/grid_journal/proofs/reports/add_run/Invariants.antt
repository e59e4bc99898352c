use Rattle.std.proofs.Common.{◌≡◌, ◌+◌, ◌-◌, ◌<◌, ◌≤◌, ◌++◌, drop, length}
use Rattle.grid_journal.specs.Reports.{run_text}
use Rattle.grid_journal.proofs.reports.add_run.Given as goal

-- what stands there and the text of the events and notes left are the whole
abbrev pub invariant-loop-note : goal.invariant-loop-note
invariant-loop-note l =
    let events = l.journal.history.events in
    let idle = l.journal.history.idle in
    (l.place ≤ length events) × (0 < l.number)
    × (l.out.list ++ run_text l.place (drop l.place events) (drop (l.number - 1) idle) ≡ l.initial.out.list ++ run_text 0 events idle)

-- the notes left
abbrev pub decreases-loop-note : goal.decreases-loop-note
decreases-loop-note l = length l.journal.history.idle + 1 - l.number
