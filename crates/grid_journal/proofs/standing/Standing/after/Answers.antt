use Rattle.std.proofs.Common.{◌≡◌, ◌+◌, ◌-◌, ◌<◌, length, reverse, take, slice_get, ap, sym, ◌∙◌, arith, add-one}
use Rattle.grid_event.specs.Configs.{is_config}
use Rattle.grid_journal.specs.Standing.{standing_of}
use Rattle.grid_journal.proofs.Places.{never_missing}
use Rattle.grid_journal.proofs.Telling.{settings_stand, stands_on}
use Rattle.grid_journal.proofs.standing.Standing.after.Goals.{in-Some+in_ok-note, in_default}
use Rattle.grid_journal.proofs.standing.Standing.after.Goals as goal

pub note-requires : goal.note-requires
note-requires c = ap is_config (settings_stand c.args.config.now _ _ c.loop-place.invariant) ∙ c.requires

pub loop-place-preserved : goal.loop-place-preserved
loop-place-preserved c =
    let events = c.args.journal.now.history.events in
    let place = c.loop-place.place in
    let there : place < length events = omega (arith, c.loop-place-test.true, c.len-place-end.ensures.len) in
    let same : place + 1 - 1 ≡ place = omega arith in
    elim c.match-event.branch [
      | in-Some+in_ok-note w ↦
          w.standing-is
          ∙ stands_on c.args.config.now events place w.in-Some.event.now c.loop-place.standing w.note.new.self
          (ap (slice_get events) (sym same) ∙ sym (w.in-Some.ensures.some (omega arith))) c.loop-place.invariant w.in_ok-note.ensures
          ∙ ap (λ n. standing_of c.args.config.now (reverse (take n events))) (sym (add-one place))
      | in_default w ↦ absurd (never_missing events place there (w.in_default.ensures.some (omega arith)))
    ]
