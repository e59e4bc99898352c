use Rattle.std.proofs.Common.{◌≡◌, ◌-◌, Some, map, sym, subst, ap, ◌∙◌, arith}
use Rattle.std.specs.Prelude.{slice_get}
use Rattle.cluster_model.specs.State.{Calling}
use Rattle.cluster_calls.specs.Listed.{AreListed, AreThere, booking_of, is_open_at, leaves}
use Rattle.cluster_calls.specs.Parts.{booking_departed}
use Rattle.cluster_calls.proofs.ListedLaws.{leaves_open, listed_weaker}
use Rattle.cluster_calls.proofs.calls.Calls.lose_at.Goals as goal

pub departures-requires : goal.departures-requires
departures-requires c = subst (AreThere c.args.self.now.units) (sym c.as_slice.ensures) c.in_ok-units.ensures.there

pub lose_each-requires-clause-listed : goal.lose_each-requires-clause-listed
lose_each-requires-clause-listed c =
    subst (AreListed (leaves c.args.node) c.args.self.now.units) (sym c.as_slice-2.ensures)
    (listed_weaker (is_open_at c.args.node c.all_segments.result) (leaves c.args.node) c.args.self.now.units c.in_ok-units.units.list
    (λ i u at. leaves_open c.args.node c.all_segments.result u
    (c.all_segments.ensures u.work.segment
    (let placed = c.self.invariant.right.placed i u (subst (λ (x : Calling). slice_get x.units i ≡ Some u) (sym c.self.view_is) at) in omega (arith, placed.within, c.self.invariant.few_segments))))
    c.in_ok-units.ensures)

pub lose_each-requires-clause-made : goal.lose_each-requires-clause-made
lose_each-requires-clause-made c =
    c.in_ok-made.ensures ∙ ap (map (λ number. booking_of (booking_departed c.args.self.now c.args.node) (slice_get c.args.self.now.units (number - 1)))) (c.as_slice.ensures ∙ sym c.as_slice-2.ensures)
