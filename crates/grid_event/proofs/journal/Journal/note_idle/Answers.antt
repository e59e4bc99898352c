-- The idle notes stay in the order of their places.
use Rattle.std.proofs.Common.{◌≡◌, length, ap, sym, ◌∙◌}
use Rattle.grid_event.specs.Histories.{Kept}
use Rattle.grid_event.proofs.PlacedNotes.{placed_after}
use Rattle.grid_event.proofs.journal.Journal.note_idle.Goals as goal

pub invariant_of-self : goal.invariant_of-self
invariant_of-self c =
    let at : c.len-place.result ≡ length c.self.inside.events.list = c.len-place.ensures.len ∙ ap (λ (kept : Kept). length kept.history.events) (sym c.self.view_is) in
    record {
      few = c.self.invariant.few;
      weighed = c.self.invariant.weighed;
      light = c.self.invariant.light;
      limits = c.self.invariant.limits;
      placed = placed_after c.push.result (length c.self.inside.events.list) c.len-place.result c.args.line c.self.inside.idle.list c.push.new.self.list at
          c.push.ensures.ok c.push.ensures.err c.self.invariant.placed;
    }
