use Rattle.std.proofs.Common.{◌-◌, map, sym, subst, ap, ◌∙◌}
use Rattle.std.specs.Prelude.{slice_get}
use Rattle.cluster_calls.specs.Calling.{ceases_at}
use Rattle.cluster_calls.specs.Listed.{AreListed, AreThere, booking_of, is_open_at}
use Rattle.cluster_calls.specs.Parts.{booking_ceased}
use Rattle.cluster_calls.proofs.ListedLaws.{ceases_open, listed_weaker}
use Rattle.cluster_calls.proofs.calls.Calls.cease.Goals as goal

pub ceasings-requires : goal.ceasings-requires
ceasings-requires c = subst (AreThere c.args.self.now.units) (sym c.as_slice.ensures) c.in_ok-units.ensures.there

pub cease_each-requires-clause-listed : goal.cease_each-requires-clause-listed
cease_each-requires-clause-listed c =
    subst (AreListed (ceases_at c.args.node c.args.segments.now) c.args.self.now.units) (sym c.as_slice-2.ensures)
    (listed_weaker (is_open_at c.args.node c.args.segments.now) (ceases_at c.args.node c.args.segments.now) c.args.self.now.units c.in_ok-units.units.list
    (λ i u at. ceases_open c.args.node c.args.segments.now u) c.in_ok-units.ensures)

pub cease_each-requires-clause-made : goal.cease_each-requires-clause-made
cease_each-requires-clause-made c =
    c.in_ok-made.ensures
    ∙ ap (map (λ number. booking_of (booking_ceased c.args.self.now c.args.node c.args.segments.now c.args.id) (slice_get c.args.self.now.units (number - 1)))) (c.as_slice.ensures ∙ sym c.as_slice-2.ensures)
