-- The journal keeps its limits, as the event passes none.
use Rattle.std.proofs.Common.{◌≡◌, ◌+◌, length, ap, sym, ◌∙◌, subst, arith, length-append, false}
use Rattle.grid_event.specs.Histories.{Kept, are_placed, passes_limit}
use Rattle.grid_event.specs.Insides.{kept_of}
use Rattle.grid_event.specs.Weights.{total_weight}
use Rattle.grid_event.proofs.PlacedNotes.{placed_event}
use Rattle.grid_event.proofs.TotalWeights.{room-passes_limit, total_weight-push}
use Rattle.grid_event.proofs.journal.Journal.push_reserved.Goals as goal

pub invariant_of-self : goal.invariant_of-self
invariant_of-self c =
    let pushed = c.push_reserved.ensures.list in
    let room =
    room-passes_limit (kept_of c.self.inside).history c.args.event
    (subst (λ (kept : Kept). false ≡ passes_limit kept.history c.args.event) (sym c.self.view_is) (sym c.requires.room)) in
    let weight = c.weight-weight.ensures in
    let weights = ap total_weight pushed ∙ total_weight-push c.self.inside.events.list c.args.event in
    let more : length c.push_reserved.new.self.list ≡ length c.self.inside.events.list + 1 = ap length pushed ∙ length-append c.self.inside.events.list _ in
    record {
      few = omega (arith, more, room.one_more);
      weighed = omega (arith, weights, c.self.invariant.weighed);
      light = omega (arith, room.fits, c.self.invariant.weighed);
      limits = c.self.invariant.limits;
      placed = ap (λ n. are_placed 0 n c.self.inside.idle.list) more ∙ placed_event 0 (length c.self.inside.events.list) c.self.inside.idle.list c.self.invariant.placed;
    }
