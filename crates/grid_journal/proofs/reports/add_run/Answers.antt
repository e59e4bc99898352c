use Rattle.std.proofs.Common.{arith, ◌∙◌, ap, max}
use Rattle.grid_journal.proofs.Places.{run_end, run_step}
use Rattle.grid_journal.proofs.reports.add_run.Goals as goal

pub loop-note-preserved : goal.loop-note-preserved
loop-note-preserved c =
    let events = c.args.journal.now.history.events in
    let ends = c.max-until.ensures ∙ ap (λ n. max c.loop-note.place n) c.min.ensures in (
      omega (arith, ends, c.len-len.ensures.len, c.loop-note.invariant.0),
      omega arith,
      run_step
          events
          c.args.journal.now.history.idle
          c.in-Some.note
          c.loop-note.place
          c.loop-note.number
          c.max-until.result
          c.len-len.result
          _
          _
          _
          _
          c.len-len.ensures.len
          (c.in-Some.ensures.some c.loop-note.invariant.1)
          c.loop-note.invariant.1
          c.loop-note.invariant.0
          ends
          c.loop-note.invariant.2
          c.in_ok-add_events.ensures
          c.in_ok-add_idle.ensures,
    )

pub returns : goal.returns
returns c =
    run_end
    c.args.journal.now.history.events
    c.args.journal.now.history.idle
    c.loop-note.place
    c.loop-note.number
    c.len-len.result
    _
    _
    _
    c.len-len.ensures.len
    (c.in_default.ensures.some c.loop-note.invariant.1)
    c.loop-note.invariant.2
    c.in_ok-add_events-2.ensures
