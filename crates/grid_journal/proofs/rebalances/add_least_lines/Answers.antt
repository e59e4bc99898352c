use Rattle.std.proofs.Common.{◌≡◌, ◌+◌, ◌-◌, ◌<◌, ◌++◌, length, reverse, take, slice_get, ap, sym, ◌∙◌, arith, add-one}
use Rattle.grid_journal.specs.Rebalances.{least_lines}
use Rattle.grid_journal.specs.Standing.{membership_of}
use Rattle.grid_journal.proofs.Places.{never_missing}
use Rattle.grid_journal.proofs.RebalanceLines.{lines_on, members_on}
use Rattle.grid_journal.proofs.rebalances.add_least_lines.Goals.{in-Some+in_ok-add_event+in_ok-note, in_default}
use Rattle.grid_journal.proofs.rebalances.add_least_lines.Goals as goal

pub loop-place-preserved : goal.loop-place-preserved
loop-place-preserved c =
    let config = c.args.config.now in
    let events = c.args.journal.now.history.events in
    let place = c.loop-place.place in
    let there : place < length events = omega (arith, c.loop-place-test.true, c.len-place-end.ensures.len) in
    let same : place + 1 - 1 ≡ place = omega arith in
    elim c.match-event.branch [
      | in-Some+in_ok-add_event+in_ok-note w ↦
          let at : slice_get events place ≡ _ = ap (slice_get events) (sym same) ∙ sym (w.in-Some.ensures.some (omega arith)) in
          record {
            members = w.membership-is
                ∙ members_on config events place w.in-Some.event.now c.loop-place.membership w.note.new.self at c.loop-place.invariant.members w.in_ok-note.ensures
                ∙ ap (λ n. membership_of config (reverse (take n events))) (sym (add-one place));
            lines = (λ i. (w.out-is i).list)
                ∙ lines_on config events place w.in-Some.event.now c.loop-place.membership c.args.out.now.list c.loop-place.out.list _ at c.loop-place.invariant.members c.loop-place.invariant.lines w.in_ok-add_event.ensures
                ∙ ap (λ n. c.args.out.now.list ++ least_lines config (reverse (take n events))) (sym (add-one place));
          }
      | in_default w ↦ absurd (never_missing events place there (w.in_default.ensures.some (omega arith)))
    ]
