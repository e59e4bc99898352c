use Rattle.std.proofs.Common.{subst}
use Rattle.cluster_model.specs.State.{Calling}
use Rattle.cluster_calls.specs.Listed.{AreListed, is_open_at}
use Rattle.cluster_calls.proofs.ListedLaws.{listed_open}
use Rattle.cluster_calls.proofs.calls.Calls.open_at.Goals as goal

pub returns : goal.returns
returns c =
    subst (λ (x : Calling). AreListed (is_open_at c.args.node c.args.segments.now) x.units c.in_ok-units.units.list) c.self.view_is
    (listed_open c.self.inside.units.items c.self.inside.listeners c.args.node c.args.segments.now c.in_ok-units.units.list c.self.invariant.registered c.in_ok-units.ensures.exactly
    c.in_ok-units.ensures.ascending)
